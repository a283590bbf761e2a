use Rattle.std.proofs.Common.{◌≡◌, List, ℕ, sym, ap, ◌∙◌}
use Rattle.std.specs.Prelude.{bytes_eq}
use Rattle.std.specs.Map.{lookup}
use Rattle.std.proofs.lemmas.Slice.Eq.{bytes_eq-Decides}
use Rattle.ec_count.specs.Names.{find_name}
use Rattle.ec_count.proofs.Worded.{find_word}
use Rattle.ec_count.proofs.symbol_table.SymbolTable.find_at_hint.Goals as goal

pub returns-then-eq : goal.returns-then-eq
returns-then-eq c =
    let same : c.in-Some.known.now.bytes.items ≡ c.args.word.now =
    sym c.as_slice.ensures.value ∙ (bytes_eq-Decides c.as_slice.result.now c.args.word.now).0 (sym c.eq.ensures ∙ c.if-eq.true) in
    ap (find_name c.args.word.now) (sym c.self.view_is)
    ∙ find_word c.args.word.now c.self.inside.table.entries
    ∙ ap (λ (w : List ℕ). lookup (λ k. bytes_eq w k.bytes.items) c.self.inside.table.entries) (sym same)
    ∙ c.in-Some.ensures.value
