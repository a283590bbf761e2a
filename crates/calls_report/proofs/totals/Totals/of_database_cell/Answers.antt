use Rattle.std.proofs.Common.{◌≡◌, ◌+◌, ◌-◌, ap, ◌∙◌, arith, get_or, slice_get}
use Rattle.calls_text.specs.Recordings.{first_group}
use Rattle.calls_report.specs.Totals.{value_after}
use Rattle.calls_report.proofs.TotalLemmas.{no_number}
use Rattle.calls_report.proofs.totals.Totals.of_database_cell.Goals as goal

pub returns-in-None : goal.returns-in-None
returns-in-None c = λ order are.
    let k = first_group c.args.self.now.recording.now.heading + c.args.place in
    let kept : get_or c.args.self.now.sums.now.values.items k 0 ≡ value_after k 0 order =
    are.values_are k in
    no_number c.args.self.now.recording.now.lists c.args.cells c.number_at-value.result
    (value_after k 0 order) c.args.i (cc) (λ e. omega (arith, e))
    (c.in-None.ensures ∙ ap (λ ls. slice_get ls (c.number_at-value.result - 1)) c.lists.ensures)
