use Rattle.std.proofs.Common.{ℕ, List, sym, ap, ◌∙◌}
use Rattle.std.specs.Prelude.{bytes_eq}
use Rattle.std.specs.Map.{lookup}
use Rattle.ec_count.specs.Names.{find_name}
use Rattle.ec_count.specs.kept.SymbolTable.{by_word}
use Rattle.ec_count.proofs.Worded.{find_word, long_word}
use Rattle.ec_count.proofs.symbol_table.SymbolTable.find_in_table.Goals as goal

pub returns-in_err-key : goal.returns-in_err-key
returns-in_err-key c =
    c.from_residual.ensures
    ∙ sym (long_word c.args.word.now (by_word c.self.inside.table.entries) c.in_err-key.ensures c.self.invariant)
    ∙ ap (find_name c.args.word.now) c.self.view_is

pub returns : goal.returns
returns c =
    c.copied.ensures
    ∙ c.get.ensures.value
    ∙ ap (λ (w : List ℕ). lookup (λ k. bytes_eq w k.bytes.items) c.self.inside.table.entries) c.in_ok-key.ensures
    ∙ sym (find_word c.args.word.now c.self.inside.table.entries)
    ∙ ap (find_name c.args.word.now) c.self.view_is
