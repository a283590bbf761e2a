use Rattle.std.proofs.Common.{[], ◌∷◌, ◌++◌, true, false, refl, ap, ◌∙◌, arith, subst, length}
use Rattle.calls_core.specs.declared.history.PendingCall.{PendingCall}
use Rattle.calls_core.specs.Histories.{completion}
use Rattle.calls_core.specs.Pending.{IsNotedOf}
use Rattle.calls_tickets.specs.Faults.{ticket_number}
use Rattle.calls_tickets.proofs.Answering.{taken_is, pairs_are}
use Rattle.calls_tickets.proofs.Gathering.{records_invoked, faulty, followed, done_more}
use Rattle.calls_tickets.proofs.recorded.RecordedTickets.event.Goals as goal

pub returns-in_ok-push-in-Invoke : goal.returns-in_ok-push-in-Invoke
returns-in_ok-push-in-Invoke c = λ past history r.
    (let s = c.args.self.now in
    records_invoked past c.args.event c.in-Invoke.object c.in-Invoke.op s (record {
      done = s.done;
      top = s.top;
      holes = s.holes;
      pending = c.push.new.self;
    }) c.in-Invoke.is refl refl refl
    (c.in_ok-push-in-Invoke.ensures.items ∙ ap (λ (o : PendingCall). s.pending.items
    ++ record { call = o; noted = s.top } ∷ []) c.new-call.ensures) history r)

pub returns-then-not-branch : goal.returns-then-not-branch
returns-then-not-branch c = λ past history r.
    (let s = c.args.self.now in
    let u = c.remove-ticket.result in
    let rest = c.remove-ticket.new.self.items in
    let new = c.take.new.self in
    let k = subst (λ us. IsNotedOf us c.args.event.worker c.in-Some.i) c.deref.ensures.value
    c.in-Some.ensures in
    let t = c.in_ok-take-in-Respond.ensures in
    faulty past c.args.event c.in-Respond.reply s new rest c.in-Some.i u c.in-Respond.is k
    c.remove-ticket.ensures.value c.remove-ticket.ensures.items history r
    (done_more new.done.items _ s.done.items c.complete.result (completion c.args.event.at
    c.in-Respond.reply u.call) t.done c.in_ok-push-in-Respond.ensures.items c.complete.ensures)
    t.pending
    (taken_is s.top new.top s.holes.items new.holes.items (length rest) u.noted c.number.result
    (ticket_number c.in-Respond.reply) c.in_ok-take-in-Respond.field-0 false c.number.ensures
    c.if-not-branch.true t.taken))

pub returns-else-not-branch : goal.returns-else-not-branch
returns-else-not-branch c = λ past history r.
    (let s = c.args.self.now in
    let u = c.remove-ticket.result in
    let rest = c.remove-ticket.new.self.items in
    let new = c.take.new.self in
    let k = subst (λ us. IsNotedOf us c.args.event.worker c.in-Some.i) c.deref.ensures.value
    c.in-Some.ensures in
    let t = c.in_ok-take-in-Respond.ensures in
    followed past c.args.event c.in-Respond.reply s new rest c.in-Some.i u c.in-Respond.is k
    c.remove-ticket.ensures.value c.remove-ticket.ensures.items history r
    (done_more new.done.items _ s.done.items c.complete.result (completion c.args.event.at
    c.in-Respond.reply u.call) t.done c.in_ok-push-in-Respond.ensures.items c.complete.ensures)
    t.pending
    c.are_paired.result (omega arith)
    (taken_is s.top new.top s.holes.items new.holes.items (length rest) u.noted c.number.result
    (ticket_number c.in-Respond.reply) c.in_ok-take-in-Respond.field-0 true c.number.ensures
    c.if-not-branch.false t.taken)
    (pairs_are c.deref-in-Respond.result.now new.holes.items c.deref-in-Respond-2.result.now rest
    c.are_paired.result c.are_paired.result c.deref-in-Respond.ensures.value
    (c.deref-in-Respond-2.ensures.value ∙ t.pending) refl c.are_paired.ensures))
