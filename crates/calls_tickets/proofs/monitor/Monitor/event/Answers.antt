use Rattle.std.proofs.Common.{◌≡◌, [], ◌∷◌, ◌++◌, true, false, ap, sym, ◌∙◌, arith, subst}
use Rattle.std.proofs.Common.{length}
use Rattle.calls_core.specs.declared.history.PendingCall.{PendingCall}
use Rattle.calls_core.specs.Pending.{IsNotedOf}
use Rattle.calls_tickets.specs.Faults.{ticket_number}
use Rattle.calls_tickets.specs.kept.Watching.{Watching}
use Rattle.calls_tickets.proofs.Stepping.{invoked}
use Rattle.calls_tickets.proofs.Answering.{goes_on, lacks, cannot, refusal, acceptance, taken_is}
use Rattle.calls_tickets.proofs.Answering.{pairs_are}
use Rattle.calls_tickets.proofs.monitor.Monitor.event.Goals as goal

pub returns-in-Invoke : goal.returns-in-Invoke
returns-in-Invoke c = λ past history w.
    (let s = c.args.self.now in
    acceptance (c.args.event ∷ past) (record {
      top = s.top;
      holes = s.holes;
      pending =
          c.push.new.self;
    }) history
    (invoked past c.args.event c.in-Invoke.object c.in-Invoke.op s.top s.holes.items s.pending.items
    c.push.new.self.items c.in-Invoke.is
    (c.push.ensures.items ∙ ap (λ (o : PendingCall). s.pending.items
    ++ record { call = o; noted = s.top } ∷ []) c.new-call.ensures) history w))

pub returns-then-not-take : goal.returns-then-not-take
returns-then-not-take c = λ past history w.
    (let s = c.args.self.now in
    let u = c.remove-ticket.result in
    let rest = c.remove-ticket.new.self.items in
    let new = c.take.new.self in
    let k = subst (λ us. IsNotedOf us c.args.event.worker c.in-Some.i) c.as_slice.ensures.value
    c.in-Some.ensures in
    refusal past c.args.event c.in-Respond.reply s.top s.holes.items s.pending.items rest
    c.in-Some.i u c.in-Respond.is k c.remove-ticket.ensures.value c.remove-ticket.ensures.items
    history w
    c.complete-call.result c.complete-call.ensures
    (cannot past c.args.event c.in-Respond.reply s.top s.holes.items s.pending.items rest
    c.in-Some.i u c.in-Respond.is k c.remove-ticket.ensures.value c.remove-ticket.ensures.items
    history w
    (taken_is s.top new.top s.holes.items new.holes.items (length rest) u.noted c.number.result
    (ticket_number c.in-Respond.reply) c.take.result false c.number.ensures c.if-not-take.true
    c.take.ensures.taken)))

pub returns-then-are_paired : goal.returns-then-are_paired
returns-then-are_paired c = λ past history w.
    (let s = c.args.self.now in
    let u = c.remove-ticket.result in
    let rest = c.remove-ticket.new.self.items in
    let new = c.take.new.self in
    let k = subst (λ us. IsNotedOf us c.args.event.worker c.in-Some.i) c.as_slice.ensures.value
    c.in-Some.ensures in
    let same : new.pending.items ≡ rest = c.take.ensures.pending in
    acceptance (c.args.event ∷ past) new history
    (subst (λ us. Watching (c.args.event ∷ past) new.top new.holes.items us) (sym same)
    (goes_on past c.args.event c.in-Respond.reply s.top s.holes.items s.pending.items rest
    c.in-Some.i u c.in-Respond.is k c.remove-ticket.ensures.value c.remove-ticket.ensures.items
    history w
    new.top new.holes.items (omega arith)
    (taken_is s.top new.top s.holes.items new.holes.items (length rest) u.noted c.number.result
    (ticket_number c.in-Respond.reply) c.take.result true c.number.ensures c.if-not-take.false
    c.take.ensures.taken)
    (pairs_are c.as_slice-in-Respond.result.now new.holes.items c.as_slice-in-Respond-2.result.now
    rest c.are_paired.result true c.as_slice-in-Respond.ensures.value
    (c.as_slice-in-Respond-2.ensures.value ∙ same) c.if-are_paired.true c.are_paired.ensures))))

pub returns-else-are_paired : goal.returns-else-are_paired
returns-else-are_paired c = λ past history w.
    (let s = c.args.self.now in
    let u = c.remove-ticket.result in
    let rest = c.remove-ticket.new.self.items in
    let new = c.take.new.self in
    let k = subst (λ us. IsNotedOf us c.args.event.worker c.in-Some.i) c.as_slice.ensures.value
    c.in-Some.ensures in
    let same : new.pending.items ≡ rest = c.take.ensures.pending in
    refusal past c.args.event c.in-Respond.reply s.top s.holes.items s.pending.items rest
    c.in-Some.i u c.in-Respond.is k c.remove-ticket.ensures.value c.remove-ticket.ensures.items
    history w
    c.complete-call.result c.complete-call.ensures
    (lacks past c.args.event c.in-Respond.reply s.top s.holes.items s.pending.items rest c.in-Some.i
    u c.in-Respond.is k c.remove-ticket.ensures.value c.remove-ticket.ensures.items history w
    new.top new.holes.items (omega arith)
    (taken_is s.top new.top s.holes.items new.holes.items (length rest) u.noted c.number.result
    (ticket_number c.in-Respond.reply) c.take.result true c.number.ensures c.if-not-take.false
    c.take.ensures.taken)
    (pairs_are c.as_slice-in-Respond.result.now new.holes.items c.as_slice-in-Respond-2.result.now
    rest c.are_paired.result false c.as_slice-in-Respond.ensures.value
    (c.as_slice-in-Respond-2.ensures.value ∙ same) c.if-are_paired.false c.are_paired.ensures)))
