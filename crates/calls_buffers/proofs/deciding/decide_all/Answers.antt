use Rattle.std.proofs.Common.{◌⊎◌, arith, subst, sym, refl, reverse, List, IsSome}
use Rattle.calls_core.specs.declared.history.Kind.TheVariants.{Buffer}
use Rattle.calls_core.specs.Calls.{AreCallsOf}
use Rattle.calls_schedule.specs.declared.job.Job.{Job}
use Rattle.calls_buffers.specs.Jobs.{AreJobs}
use Rattle.calls_schedule.specs.Schedules.{Refute}
use Rattle.calls_buffers.specs.declared.windows.Window.{Window}
use Rattle.calls_buffers.specs.declared.deciding.Outcome.{Outcome}
use Rattle.calls_buffers.specs.kept.Windows.{AreWindows, AreRanked}
use Rattle.calls_buffers.specs.kept.Ranks.{IsRanking}
use Rattle.calls_buffers.specs.kept.Decisions.{AllReturned, NoneAsked, Fits, AreSimple, IsAnswer}
use Rattle.calls_buffers.proofs.RanksOf.{are_fit}
use Rattle.calls_buffers.proofs.Answering.{if_ok, all_sound}
use Rattle.calls_buffers.proofs.deciding.decide_all.Goals as goal

pub returns-in-Refuted : goal.returns-in-Refuted
returns-in-Refuted c = λ calls are fits with_take.
    let done = c.args.calls.now.done.items in
    let pending = c.args.calls.now.pending.items in
    let end = c.args.end in
    let ws = c.args.windows.now in
    let answer = subst (IsRanking c.args.room ws) c.in-Refuted.is (c.in_ok-jobs.ensures
    (omega (arith, fits)) (are_fit end done pending ws are)) in
    c.in_ok-fault-in-Refuted.ensures end
    (subst (AreJobs done pending end) (sym c.deref.ensures.value)
    (all_sound end done pending ws c.in-Refuted.jobs.items are with_take answer.0))
    (subst (λ (js : List Job). Refute c.args.room js (reverse c.in-Refuted.bounds.items))
    (sym c.deref.ensures.value) answer.1)

pub returns : goal.returns
returns c =
    let n = c.args.room in
    let done = c.args.calls.now.done.items in
    let pending = c.args.calls.now.pending.items in
    let end = c.args.end in
    let ws = c.args.windows.now in
    if_ok (λ (o : Outcome). (Fits end → AreSimple n done pending → ⊥)
    → IsAnswer n done pending end o) (λ (o : Outcome). AreCallsOf (Buffer n) done pending end
    → AreWindows done pending end ws → Fits end → AllReturned ws end ⊎ NoneAsked pending
    → IsAnswer n done pending end o) (λ o answer calls are fits with_take. answer
    (λ fits_too simple.
    (let ranked = subst (IsRanking n ws) c.in-Ranked.is (c.in_ok-jobs.ensures
    (omega (arith, fits)) (are_fit end done pending ws are)) in
    let found = c.in_ok-order-in-Ranked.ensures.found ws calls are
    (subst (λ (zs : List Window). AreRanked n ws zs)
    (sym c.deref-in-Ranked.ensures.value) ranked) simple.room (λ i. refl) in
    let none = subst IsSome c.in-None.is found in
    absurd (cc)))) c.search.result c.search.ensures
