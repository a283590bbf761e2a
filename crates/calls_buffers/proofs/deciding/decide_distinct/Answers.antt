use Rattle.calls_core.specs.declared.history.Kind.TheVariants.{Buffer}
use Rattle.calls_buffers.specs.declared.deciding.Outcome.{Outcome}
use Rattle.calls_buffers.specs.Outcomes.{AreDistinct}
use Rattle.calls_buffers.specs.kept.Windows.{AreWindows}
use Rattle.calls_buffers.specs.kept.Decisions.{Fits, IsAnswer}
use Rattle.calls_buffers.proofs.JobsOf.{within_calls}
use Rattle.calls_buffers.proofs.Answering.{if_ok, is_settled}
use Rattle.calls_buffers.proofs.deciding.decide_distinct.Goals as goal

pub returns : goal.returns
returns c =
    let n = c.args.room in
    let done = c.args.calls.now.done.items in
    let pending = c.args.calls.now.pending.items in
    let end = c.args.end in
    let ws = c.args.windows.now in
    if_ok (λ (o : Outcome). AreWindows done pending end ws → Fits end
    → (Fits end → AreDistinct done pending → ⊥) → IsAnswer n done pending end o)
    (λ (o : Outcome). AreWindows done pending end ws → Fits end → IsAnswer n done pending end o)
    (λ o with_take are fits. with_take are fits (λ fits_too distinct. (let no = c.if-is_settled.false in
    let all_are_returned = c.is_settled.ensures.1 (is_settled end done pending ws
    (within_calls (Buffer n) done pending end c.requires.calls) are distinct.answered) in
    absurd (cc)))) c.decide_returned.result c.decide_returned.ensures
