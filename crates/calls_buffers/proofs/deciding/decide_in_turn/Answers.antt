use Rattle.std.proofs.Common.{◌⊎◌, Option, IfSome, sym, subst, IsSome}
use Rattle.calls_buffers.specs.declared.deciding.Outcome.{Outcome}
use Rattle.calls_buffers.specs.Outcomes.{AreDistinct, AreInTurn, AreTakenInTurn}
use Rattle.calls_buffers.specs.declared.turns.Turned.{Turned}
use Rattle.calls_buffers.specs.kept.Settling.{AreGiven, IsTurned}
use Rattle.calls_buffers.specs.kept.Decisions.{Fits, AreSimple, IsAnswer}
use Rattle.calls_buffers.proofs.Answering.{if_ok, not_simple}
use Rattle.calls_buffers.proofs.deciding.decide_in_turn.Goals as goal

pub returns : goal.returns
returns c =
    let n = c.args.room in
    let done = c.args.calls.now.done.items in
    let pending = c.args.calls.now.pending.items in
    let end = c.args.end in
    let turns : AreInTurn done pending ⊎ AreTakenInTurn done pending → ⊥ = λ h.
    let some = subst IsSome c.in-None.is (c.in_ok-fault.ensures.complete h) in absurd (cc) in
    if_ok (λ (o : Outcome). (Fits end → AreSimple n done pending → ⊥)
    → IsAnswer n done pending end o) (λ (o : Outcome). (Fits end → AreDistinct done pending → ⊥)
    → IsAnswer n done pending end o) (λ o answer distinct. answer (not_simple n end done pending
    distinct turns)) c.search-in-None.result c.search-in-None.ensures

pub returns-in-Some-Ranked : goal.returns-in-Some-Ranked
returns-in-Some-Ranked c =
    let n = c.args.room in
    let done = c.args.calls.now.done.items in
    let pending = c.args.calls.now.pending.items in
    let end = c.args.end in
    let turned = subst (IsTurned n done pending end) c.in-Some-Ranked.field-0-is
    (subst (λ (t : Option Turned). IfSome t (IsTurned n done pending end)) c.in-Some-Ranked.is
    c.in_ok-fault.ensures.sound) in
    let given = subst (AreGiven n done pending end) (sym c.deref.ensures.value) turned in
    if_ok (λ (o : Outcome). (Fits end → AreSimple n done pending → ⊥)
    → IsAnswer n done pending end o) (λ (o : Outcome). (Fits end → AreDistinct done pending → ⊥)
    → IsAnswer n done pending end o) (λ o answer distinct. answer (λ fits simple.
    (let found = c.in_ok-order-in-Some-Ranked.ensures.found c.requires.calls c.requires.apart given
    simple.room fits in
    let some = subst IsSome c.in-None-2.is found in
    absurd (cc)))) c.search.result c.search.ensures
