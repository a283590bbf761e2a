use Rattle.std.proofs.Common.{arith, subst, sym, ◌∙◌, List, reverse}
use Rattle.calls_schedule.specs.declared.job.Job.{Job}
use Rattle.calls_schedule.specs.Schedules.{Refute}
use Rattle.calls_buffers.specs.declared.windows.Window.{Window}
use Rattle.calls_buffers.specs.Jobs.{AreJobs}
use Rattle.calls_buffers.specs.kept.Jobs.{AreJobsFrom}
use Rattle.calls_buffers.specs.kept.Ranks.{AreFit, IsRanking}
use Rattle.calls_buffers.proofs.RanksOf.{are_fit}
use Rattle.calls_buffers.proofs.Answering.{returned_fit, returned_sound}
use Rattle.calls_buffers.proofs.deciding.decide_returned.Goals as goal

pub returns-in-Refuted : goal.returns-in-Refuted
returns-in-Refuted c = λ are fits hard.
    let done = c.args.calls.now.done.items in
    let pending = c.args.calls.now.pending.items in
    let end = c.args.end in
    let ws = c.args.windows.now in
    let same = c.deref.ensures.value ∙ c.in_ok-returned_windows.ensures in
    let answer = subst (IsRanking c.args.room c.deref.result.now) c.in-Refuted.is
    (c.in_ok-jobs.ensures (omega (arith, fits)) (subst (AreFit end) (sym same)
    (returned_fit ws end (are_fit end done pending ws are)))) in
    c.in_ok-fault-in-Refuted.ensures end
    (subst (AreJobs done pending end) (sym c.deref-in-Refuted.ensures.value)
    (returned_sound end done pending ws c.in-Refuted.jobs.items are
    (subst (λ (zs : List Window). AreJobsFrom zs zs c.in-Refuted.jobs.items) same answer.0)))
    (subst (λ (js : List Job). Refute c.args.room js (reverse c.in-Refuted.bounds.items))
    (sym c.deref-in-Refuted.ensures.value) answer.1)
