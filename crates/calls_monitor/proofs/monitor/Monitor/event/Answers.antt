use Rattle.std.proofs.Common.{◌≡◌, None, subst, sym, arith, ◌∙◌, ap, length, ◌≤◌, ◌++◌, ◌∷◌, []}
use Rattle.std.proofs.lemmas.Bool.{eqb-false}
use Rattle.calls_core.specs.declared.history.TheConstants.{WORKERS}
use Rattle.calls_core.specs.Pending.{IsPendingOf}
use Rattle.calls_core.specs.Histories.{pending_of}
use Rattle.calls_monitor.proofs.Judging.{below_by, invoked, nobody, responded}
use Rattle.calls_monitor.proofs.monitor.Monitor.event.Goals as goal

pub returns-in_default : goal.returns-in_default
returns-in_default c = λ kinds spsc past h one_each w.
    absurd (nobody kinds spsc past c.args.event h one_each (omega arith) c.args.self.now w
    (subst (λ ps. length ps ≤ WORKERS) c.as_slice.ensures.value c.as_slice.ensures.fits)
    c.in-Respond._reply c.in-Respond.is
    (subst (λ ps. pending_of c.args.event.worker ps ≡ None) c.as_slice.ensures.value
    c.in_default.ensures))

pub returns-else-is_full : goal.returns-else-is_full
returns-else-is_full c = λ kinds spsc past h one_each w.
    (let old = c.args.self.now in
    let apart : length old.pending.items ≡ WORKERS → ⊥ =
    eqb-false (length old.pending.items) WORKERS
    (sym c.if-is_full.ensures.value) in
    invoked kinds spsc past c.args.event h one_each (omega arith) old w (omega (arith, c.if-is_full.ensures.fits))
    c.in-Invoke.object c.in-Invoke.op c.in-Invoke.is
    (below_by (length old.pending.items) WORKERS c.if-is_full.ensures.fits apart) c.pass_to_object.new.self
    (ap (λ ps. ps.items) c.pass_to_object.ensures.pending
    ∙ c.push.ensures.items ∙ ap (λ o. old.pending.items ++ o ∷ []) c.new.ensures)
    c.pass_to_object.result
    c.pass_to_object.ensures.passed)

pub returns-in-Some : goal.returns-in-Some
returns-in-Some c = λ kinds spsc past h one_each w.
    (let old = c.args.self.now in
    responded kinds spsc past c.args.event h one_each (omega arith) old w
    (subst (λ ps. length ps ≤ WORKERS) c.as_slice.ensures.value c.as_slice.ensures.fits)
    c.in-Respond._reply c.in-Respond.is c.in-Some.i c.remove-object.result
    (subst (λ ps. IsPendingOf ps c.args.event.worker c.in-Some.i) c.as_slice.ensures.value
    c.in-Some.ensures) c.remove-object.ensures.value
    c.pass_to_object-in-Respond.new.self
    (ap (λ ps. ps.items) c.pass_to_object-in-Respond.ensures.pending
    ∙ c.remove-object.ensures.items)
    c.pass_to_object-in-Respond.result c.pass_to_object-in-Respond.ensures.passed)
