use Rattle.std.proofs.Common.{ap, ◌∙◌, arith, count_by}
use Rattle.calls_report.specs.Counting.{is_advance_of}
use Rattle.calls_report.specs.kept.Sure.{is_pending_advance}
use Rattle.calls_report.proofs.SureLemmas.{all_returned}
use Rattle.calls_report.proofs.sure.returned_count.Goals as goal

pub returns-in-Some : goal.returns-in-Some
returns-in-Some c =
    let k = c.args.object in
    let called = c.count_advances-called.ensures
    ∙ ap (count_by (is_advance_of k)) (c.whole.ensures ∙ c.events.ensures) in
    let pending = c.count_open.ensures ∙ ap (count_by (is_pending_advance k)) c.requires in
    omega (
      arith,
      called,
      pending,
      all_returned k c.args.recording.now.events,
      c.saturating_sub-returned.ensures,
      c.start_at.ensures,
      c.in-Some.ensures,
    )
