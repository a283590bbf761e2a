use Rattle.std.proofs.Common.{◌≡◌, ap, subst, sym, ◌∙◌}
use Rattle.calls_schedule.specs.Outcomes.{IsOutcome}
use Rattle.calls_schedule.specs.Schedules.{IsSchedule}
use Rattle.calls_buffers.specs.kept.Windows.{AreRanked}
use Rattle.calls_buffers.specs.kept.Ranks.{windows_at}
use Rattle.calls_buffers.proofs.InOrder.{ranked_at}
use Rattle.calls_buffers.proofs.ranking.ranked.Goals as goal

pub returns-in_ok-list-in-Scheduled : goal.returns-in_ok-list-in-Scheduled
returns-in_ok-list-in-Scheduled c = λ room fit.
    let n = c.args.room in
    let ws = c.args.windows.now in
    let jobs = c.in_ok-jobs.jobs.items in
    let order = c.in-Scheduled.order.items in
    let done : IsSchedule n c.deref.result.now order =
    subst (IsOutcome n c.deref.result.now) c.in-Scheduled.is c.in_ok-order.ensures in
    let scheduled : IsSchedule n jobs order =
    subst (λ js. IsSchedule n js order) c.deref.ensures.value done in
    let is : c.in_ok-list-in-Scheduled.list.items ≡ windows_at ws order =
    c.in_ok-list-in-Scheduled.ensures fit.ascend
    ∙ ap (windows_at ws) c.deref-in-Scheduled.ensures.value in
    subst (AreRanked n ws) (sym is) (ranked_at ws fit.ascend n jobs order fit.begun
    (c.in_ok-jobs.ensures room fit.within fit.some) scheduled)
