use Rattle.std.proofs.Common.{◌≡◌, ◌++◌, ◌∷◌, [], List, ℕ, length, None, sym, ◌∙◌, ap, subst}
use Rattle.std.specs.Prelude.{bytes_eq}
use Rattle.std.specs.Map.{lookup}
use Rattle.indexmap.proofs.CallerLemmas.{insert_entry-new}
use Rattle.ec_count.specs.declared.target.Target.{Target}
use Rattle.ec_count.specs.Names.{KeepsNames, by_bytes, name_fault, with_first, same_target}
use Rattle.ec_count.proofs.shared.Named.{find_lookup, by_bytes-append, KeepsNames-push, no_fault, none_left}
use Rattle.ec_count.proofs.names.Names.add_bytes.Goals as goal

free : (c : goal.After-note_first) → name_fault c.args.name.now (by_bytes c.self.inside.table.entries) ≡ None
free c =
    ap (name_fault c.args.name.now) c.self.view_is
    ∙ sym c.fault.ensures
    ∙ none_left c.fault.result c.in_default.not-Some

-- the entries after the insertion
added : (c : goal.After-note_first) → by_bytes c.insert.new.self.entries ≡ by_bytes c.self.inside.table.entries ++ (c.args.name.now, c.args.target) ∷ []
added c =
    let key : c.in-Ok.key.items ≡ c.args.name.now = c.in-Ok.ensures.items in
    let none : lookup (λ k. bytes_eq c.in-Ok.key.items k.items) c.self.inside.table.entries ≡ None =
    ap (λ (n : List ℕ). lookup (λ k. bytes_eq n k.items) c.self.inside.table.entries) key
    ∙ sym (find_lookup c.args.name.now c.self.inside.table.entries)
    ∙ (no_fault c.args.name.now (by_bytes c.self.inside.table.entries) (free c)).1 in
    ap by_bytes (c.in-Ok-insert.ensures.entries ∙ insert_entry-new (λ k q. bytes_eq k.items q.items) c.self.inside.table c.in-Ok.key c.args.target none)
    ∙ by_bytes-append c.self.inside.table.entries c.in-Ok.key c.args.target
    ∙ ap (λ (n : List ℕ). by_bytes c.self.inside.table.entries ++ (n, c.args.target) ∷ []) key

-- the first positions after it
noted : (c : goal.After-note_first) → (t : Target) → lookup (same_target t) c.note_first.new.firsts.entries ≡ with_first c.args.target (length (by_bytes c.self.inside.table.entries)) t (lookup (same_target t) c.self.inside.firsts.entries)
noted c t =
    let place : c.len-place.result ≡ length (by_bytes c.self.inside.table.entries) = c.len-place.ensures ∙ ap length (sym c.self.view_is) in
    c.note_first.ensures t
    ∙ ap (λ n. with_first c.args.target n t (lookup (same_target t) c.reserve.new.self.entries)) place
    ∙ ap (λ (es : List (Target × ℕ)). with_first c.args.target (length (by_bytes c.self.inside.table.entries)) t (lookup (same_target t) es)) c.reserve.ensures.entries

pub invariant_of-self-2 : goal.invariant_of-self-2
invariant_of-self-2 c =
    subst (λ (names : List (List ℕ × Target)). KeepsNames names c.note_first.new.firsts.entries) (sym (added c))
    (KeepsNames-push (by_bytes c.self.inside.table.entries) c.self.inside.firsts.entries c.note_first.new.firsts.entries c.args.name.now c.args.target c.self.invariant (free c) (noted c))

pub returns-clause-ok : goal.returns-clause-ok
returns-clause-ok c = added c ∙ ap (λ (old : List (List ℕ × Target)). old ++ (c.args.name.now, c.args.target) ∷ []) c.self.view_is
