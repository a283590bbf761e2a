use Rattle.std.proofs.Common.{ap, sym, ◌∙◌, subst, ◌∷◌, IfOk}
use Rattle.std.proofs.lemmas.Result.{IfOk-weaker}
use Rattle.calls_core.specs.Histories.{invoked_by, pending_of, without}
use Rattle.calls_serial.specs.kept.Passing.{Invokes, Stops, TakesIn}
use Rattle.calls_serial.proofs.Deciding.{invoked_past, responded_past, stop_of}
use Rattle.calls_serial.proofs.pass.take_in.Goals as goal

pub returns-in-Invoke : goal.returns-in-Invoke
returns-in-Invoke c =
    IfOk-weaker c.invoke.result (Invokes c.args.end c.args.pass.now c.invoke.new.pass
    (invoked_by c.args.event c.in-Invoke.object c.in-Invoke.op))
    (TakesIn c.args.end c.args.pass.now c.invoke.new.pass c.args.event)
    (λ stop inv past h lt holds. invoked_past c.args.end past c.args.event c.in-Invoke.object
    c.in-Invoke.op c.args.pass.now c.invoke.new.pass stop c.in-Invoke.is h lt holds inv)
    (subst (λ o. IfOk c.invoke.result (Invokes c.args.end c.args.pass.now c.invoke.new.pass o))
    c.new.ensures c.invoke.ensures)

pub returns-in-Some-2 : goal.returns-in-Some-2
returns-in-Some-2 c past h lt holds =
    (let o = c.in-Some.pending in
    let ours = ap (pending_of c.args.event.worker) (sym holds.pending) ∙ sym c.in-Some.ensures.result
    in
    let rest = c.in-Some.ensures.rest ∙ ap (without c.args.event.worker) holds.pending in
    subst (λ f. Stops c.args.end (c.args.event ∷ past) c.respond.new.pass (stop_of f))
    c.in-Some-2.is
    (responded_past c.args.end past c.args.event c.in-Respond.reply o
    (record {
      pending = c.take_pending.new.pending;
      stages = c.args.pass.now.stages;
      links = c.args.pass.now.links;
    }) c.respond.new.pass c.complete-call.result
    c.in_ok-fault-in-Respond.field-0 c.in-Respond.is h lt ours c.complete-call.ensures rest holds.holding
    c.in_ok-fault-in-Respond.ensures))

pub returns-in-None : goal.returns-in-None
returns-in-None c past h lt holds =
    (let o = c.in-Some.pending in
    let ours = ap (pending_of c.args.event.worker) (sym holds.pending) ∙ sym c.in-Some.ensures.result
    in
    let rest = c.in-Some.ensures.rest ∙ ap (without c.args.event.worker) holds.pending in
    subst (λ f. Stops c.args.end (c.args.event ∷ past) c.respond.new.pass (stop_of f))
    c.in-None.is
    (responded_past c.args.end past c.args.event c.in-Respond.reply o
    (record {
      pending = c.take_pending.new.pending;
      stages = c.args.pass.now.stages;
      links = c.args.pass.now.links;
    }) c.respond.new.pass c.complete-call.result
    c.in_ok-fault-in-Respond.field-0 c.in-Respond.is h lt ours c.complete-call.ensures rest holds.holding
    c.in_ok-fault-in-Respond.ensures))
