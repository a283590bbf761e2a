use Rattle.std.proofs.Common.{reverse, arith, subst, sym}
use Rattle.calls_core.specs.declared.history.Kind.TheVariants.{Buffer}
use Rattle.calls_buffers.specs.declared.deciding.Outcome.{Outcome}
use Rattle.calls_buffers.specs.Outcomes.{AreDistinct, IsOutcome}
use Rattle.calls_buffers.specs.kept.Windows.{AreWindows}
use Rattle.calls_buffers.specs.kept.Decisions.{Fits, IsAnswer}
use Rattle.calls_buffers.proofs.Recording.{recorded_calls}
use Rattle.calls_buffers.proofs.InvokedApart.{recorded_apart}
use Rattle.calls_buffers.proofs.JobsOf.{within_calls}
use Rattle.calls_buffers.proofs.Answering.{if_ok, outcome, not_distinct}
use Rattle.calls_buffers.proofs.deciding.decide_recorded.Goals as goal
use Rattle.calls_buffers.proofs.deciding.decide_recorded.Goals.{else-windows-via-then-windows+else-end-lt18446744073709551615, else-windows-via-else-windows}

pub decide_distinct-requires-clause-calls : goal.decide_distinct-requires-clause-calls
decide_distinct-requires-clause-calls c = recorded_calls c.args.room c.args.end
    (reverse c.args.events.now) c.in_ok-calls.calls.done.items c.in_ok-calls.calls.pending.items
    c.requires.history c.requires.end c.in_ok-calls.ensures.done c.in_ok-calls.ensures.pending

pub decide_distinct-requires-clause-apart : goal.decide_distinct-requires-clause-apart
decide_distinct-requires-clause-apart c = recorded_apart (Buffer c.args.room)
    (reverse c.args.events.now) c.in_ok-calls.calls.done.items c.in_ok-calls.calls.pending.items
    c.requires.history c.in_ok-calls.ensures.done c.in_ok-calls.ensures.pending

pub decide_in_turn-requires-clause-calls : goal.decide_in_turn-requires-clause-calls
decide_in_turn-requires-clause-calls c = recorded_calls c.args.room c.args.end
    (reverse c.args.events.now) c.in_ok-calls.calls.done.items c.in_ok-calls.calls.pending.items
    c.requires.history c.requires.end c.in_ok-calls.ensures.done c.in_ok-calls.ensures.pending

pub decide_in_turn-requires-clause-apart : goal.decide_in_turn-requires-clause-apart
decide_in_turn-requires-clause-apart c = recorded_apart (Buffer c.args.room)
    (reverse c.args.events.now) c.in_ok-calls.calls.done.items c.in_ok-calls.calls.pending.items
    c.requires.history c.in_ok-calls.ensures.done c.in_ok-calls.ensures.pending

pub returns-then-end-lt18446744073709551615 : goal.returns-then-end-lt18446744073709551615
returns-then-end-lt18446744073709551615 c =
    let n = c.args.room in
    let end = c.args.end in
    let events = c.args.events.now in
    let done = c.in_ok-calls.calls.done.items in
    let pending = c.in_ok-calls.calls.pending.items in
    let calls = recorded_calls n end (reverse events) done pending c.requires.history
    c.requires.end c.in_ok-calls.ensures.done c.in_ok-calls.ensures.pending in
    let are = c.in_ok-windows.ensures.sound (within_calls (Buffer n) done pending end calls)
    c.if-windows.true in
    if_ok (λ (o : Outcome). AreWindows done pending end c.deref.result.now → Fits end
    → IsAnswer n done pending end o)
    (IsOutcome n events end) (λ o answer. outcome n end events done pending o c.requires.history
    c.requires.end c.in_ok-calls.ensures.done c.in_ok-calls.ensures.pending (answer
    (subst (AreWindows done pending end) (sym c.deref.ensures.value) are)
    (omega (arith, c.if-end-lt18446744073709551615.true)))) c.decide_distinct.result
    c.decide_distinct.ensures

pub returns : goal.returns
returns c =
    let n = c.args.room in
    let end = c.args.end in
    let events = c.args.events.now in
    let done = c.in_ok-calls.calls.done.items in
    let pending = c.in_ok-calls.calls.pending.items in
    let differ : Fits end → AreDistinct done pending → ⊥ = λ fits distinct.
    elim c.else-windows.branch [
      | else-windows-via-then-windows+else-end-lt18446744073709551615 w ↦ absurd (omega (
        arith,
        fits,
        w.if-end-lt18446744073709551615.false,
      ))
      | else-windows-via-else-windows w ↦ not_distinct done pending
          c.in_ok-windows.windows.alone
          (λ once. c.in_ok-windows.ensures.exact once w.if-windows.false)
          (λ place e u. (let k = c.in_default.ensures.exact place e u in absurd (cc))) distinct
    ] in
    if_ok (λ (o : Outcome). (Fits end → AreDistinct done pending → ⊥)
    → IsAnswer n done pending end o) (IsOutcome n events end)
    (λ o answer. outcome n end events done pending o c.requires.history c.requires.end
    c.in_ok-calls.ensures.done c.in_ok-calls.ensures.pending (answer differ))
    c.decide_in_turn.result c.decide_in_turn.ensures
