use Rattle.std.proofs.Common.{length, ap, sym, ◌∙◌}
use Rattle.std.proofs.lemmas.List.FromFn.{length-map-range_with_len}
use Rattle.ec_database.specs.Tries.{TryTable}
use Rattle.ec_database.specs.kept.Rows.{try_at}
use Rattle.ec_database.proofs.tries.AcceptedTries.len.Goals as goal

pub returns : goal.returns
returns c =
    let s = c.self.inside in
    sym (length-map-range_with_len (try_at s.cells s.numbers.list) 0 s.count) ∙ ap (λ (t : TryTable). length t.list) c.self.view_is
