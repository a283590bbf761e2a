use Rattle.std.proofs.Common.{◌≡◌, ◌++◌, ◌∷◌, [], List, ℕ, None, sym, ◌∙◌, ap, subst}
use Rattle.std.specs.Prelude.{bytes_eq}
use Rattle.std.specs.Map.{lookup}
use Rattle.indexmap.proofs.CallerLemmas.{insert_entry-new}
use Rattle.ec_count.specs.declared.target.Target.{Target}
use Rattle.ec_count.specs.Names.{find_name}
use Rattle.ec_count.specs.kept.SymbolTable.{AreShort, by_word, same_word}
use Rattle.ec_count.proofs.Worded.{find_word, by_word-append, short-push}
use Rattle.ec_count.proofs.symbol_table.SymbolTable.add.Goals as goal
use Rattle.ec_count.proofs.symbol_table.SymbolTable.add.Goals.{In-Ok}

-- the entries after the insertion
added : (c : In-Ok) → by_word c.insert.new.self.entries ≡ by_word c.self.inside.table.entries ++ (c.args.word.now, c.args.target) ∷ []
added c =
    let key : c.in-Some.key.bytes.items ≡ c.args.word.now = c.in-Some.ensures in
    let none : lookup (λ k. bytes_eq c.in-Some.key.bytes.items k.bytes.items) c.self.inside.table.entries ≡ None =
    ap (λ (w : List ℕ). lookup (λ k. bytes_eq w k.bytes.items) c.self.inside.table.entries) key
    ∙ sym (find_word c.args.word.now c.self.inside.table.entries)
    ∙ ap (find_name c.args.word.now) c.self.view_is
    ∙ c.requires.new in
    ap by_word (c.in-Ok.ensures.entries ∙ insert_entry-new same_word c.self.inside.table c.in-Some.key c.args.target none)
    ∙ by_word-append c.self.inside.table.entries c.in-Some.key c.args.target
    ∙ ap (λ (w : List ℕ). by_word c.self.inside.table.entries ++ (w, c.args.target) ∷ []) key

pub invariant_of-self-2 : goal.invariant_of-self-2
invariant_of-self-2 c = subst AreShort (sym (added c)) (short-push (by_word c.self.inside.table.entries) c.args.word.now c.args.target c.self.invariant c.requires.short)

pub returns-clause-ok : goal.returns-clause-ok
returns-clause-ok c = added c ∙ ap (λ (old : List (List ℕ × Target)). old ++ (c.args.word.now, c.args.target) ∷ []) c.self.view_is
