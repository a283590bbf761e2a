use Rattle.std.proofs.Common.{subst, refl, inl, inr}
use Rattle.calls_core.specs.declared.history.Event.{Event}
use Rattle.calls_core.specs.Histories.{clock}
use Rattle.calls_verdict.specs.declared.verdict.Decision.{Decision}
use Rattle.calls_verdict.specs.Verdicts.{IsDecision}
use Rattle.calls_verdict.specs.kept.Findings.{IsEarlier}
use Rattle.calls_verdict.proofs.Founding.{any_event, kept_first, found_ordered, found_refused}
use Rattle.calls_verdict.proofs.Founding.{found_open}
use Rattle.calls_verdict.proofs.findings.add.Goals as goal

pub returns-in_ok-append_to-in-Ordered : goal.returns-in_ok-append_to-in-Ordered
returns-in_ok-append_to-in-Ordered c =
    λ kinds past kind h is mine d f. found_ordered kinds past h c.args.object kind c.args.own.now
    c.in-Ordered.calls
    c.args.found.now _ is mine
    (subst (λ (z : Decision). IsDecision kind c.args.own.now (clock past) z) c.in-Ordered.is d) refl
    refl
    c.in_ok-append_to-in-Ordered.ensures f

pub returns-in-Refused : goal.returns-in-Refused
returns-in-Refused c =
    let x = c.at-at.result in
    let earlier = subst (λ (y : Event). IsEarlier c.take.result
    (record { at = y.at; object = c.args.object; fault = c.in-Refused.fault }) c.earlier.result)
    (c.at-at.ensures x) c.earlier.ensures in
    λ kinds past kind h is mine d f. found_refused kinds past h c.args.object kind c.args.own.now
    c.in-Refused.i x c.in-Refused.fault
    c.args.found.now _ c.take.result c.earlier.result c.take.ensures.value is mine
    (subst (λ (z : Decision). IsDecision kind c.args.own.now (clock past) z) c.in-Refused.is d) refl
    refl
    earlier f

pub returns-then-is_none : goal.returns-then-is_none
returns-then-is_none c =
    λ kinds past kind h is mine d f. found_open kinds past h c.args.object kind c.args.own.now
    c.in-Open.field-0 (any_event) c.in-Open.cause
    c.args.found.now _ _ is mine
    (subst (λ (z : Decision). IsDecision kind c.args.own.now (clock past) z) c.in-Open.is d) refl
    refl
    (inr refl) f

pub returns-else-is_none : goal.returns-else-is_none
returns-else-is_none c =
    λ kinds past kind h is mine d f. (let w = kept_first c.args.found.now.undecided
    c.if-is_none.ensures in
    found_open kinds past h c.args.object kind c.args.own.now c.in-Open.field-0 any_event
    c.in-Open.cause
    c.args.found.now _ w.0 is mine
    (subst (λ (z : Decision). IsDecision kind c.args.own.now (clock past) z) c.in-Open.is d) refl
    w.1
    (inl w.1) f)
