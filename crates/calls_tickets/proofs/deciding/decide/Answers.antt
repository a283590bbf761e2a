use Rattle.std.proofs.Common.{◌<◌, ◌∷◌, arith, sym, subst, length, get_or, reverse}
use Rattle.calls_core.specs.declared.history.Action.TheVariants.{Invoke}
use Rattle.calls_core.specs.declared.history.Op.TheVariants.{Advance}
use Rattle.calls_core.specs.declared.history.Event.{Event}
use Rattle.calls_core.specs.Beginnings.{past_at}
use Rattle.calls_core.specs.Pending.{noted_calls}
use Rattle.calls_tickets.specs.declared.table.Decision.TheVariants.{Order, Faulty}
use Rattle.calls_tickets.specs.kept.Recording.{IsFollowed, TakesIn}
use Rattle.calls_tickets.specs.kept.Tables.{AreTickets, IsDecided}
use Rattle.calls_tickets.proofs.Outcomes.{tickets_gathered, decided_of, not_ordered, not_faulty}
use Rattle.calls_tickets.proofs.Outcomes.{history_here, first_fault, records_next, records_all}
use Rattle.calls_tickets.proofs.deciding.decide.Goals as goal

no_event : Event
no_event = record { at = 0; worker = 0; action = Invoke 0 Advance }

pub decide-requires : goal.decide-requires
unfolding no_event
decide-requires c =
    let l = c.loop-i in
    let events = c.args.events.now in
    let lt : l.i < length events = omega (arith, c.loop-i-test.true, c.len-i-end.ensures) in
    let here = c.at-event.ensures no_event in
    let took = subst (λ (x : Event). TakesIn l.calls c.event.new.self x c.in_ok-event.field-0) here
    c.in_ok-event.ensures in
    let h = history_here events l.i no_event lt c.requires.history in
    let f = subst (IsFollowed (get_or events l.i no_event ∷ past_at l.i events) c.event.new.self)
    c.if-not-branch.true (took (past_at l.i events) h l.invariant) in
    record {
      tickets = subst (λ (x : Event). AreTickets (reverse c.event.new.self.done.items)
          (noted_calls c.event.new.self.pending.items) x.at) (sym here)
          (tickets_gathered (get_or events l.i no_event ∷ past_at l.i events)
          c.event.new.self (get_or events l.i no_event).at h (omega arith) f.gathered);
    }

pub unreachable-requires : goal.unreachable-requires
unfolding no_event
unreachable-requires c =
    let l = c.loop-i in
    let events = c.args.events.now in
    let lt : l.i < length events = omega (arith, c.loop-i-test.true, c.len-i-end.ensures) in
    let here = c.at-event.ensures no_event in
    let took = subst (λ (x : Event). TakesIn l.calls c.event.new.self x c.in_ok-event.field-0) here
    c.in_ok-event.ensures in
    let past = get_or events l.i no_event ∷ past_at l.i events in
    let h = history_here events l.i no_event lt c.requires.history in
    let f = subst (IsFollowed past c.event.new.self) c.if-not-branch.true
    (took (past_at l.i events) h l.invariant) in
    not_ordered past (get_or events l.i no_event).at c.in-Order.field-0 h
    (omega arith) c.event.new.self f
    (decided_of past c.event.new.self (get_or events l.i no_event).at c.in_ok-decide.field-0
    (Order c.in-Order.field-0) f.gathered c.in-Order.is (subst (λ (x : Event). IsDecided
    (reverse c.event.new.self.done.items) (noted_calls c.event.new.self.pending.items) x.at
    c.in_ok-decide.field-0) here c.in_ok-decide.ensures))

pub returns-then-not-branch : goal.returns-then-not-branch
unfolding no_event
returns-then-not-branch c =
    let l = c.loop-i in
    let events = c.args.events.now in
    let lt : l.i < length events = omega (arith, c.loop-i-test.true, c.len-i-end.ensures) in
    let here = c.at-event.ensures no_event in
    let took = subst (λ (x : Event). TakesIn l.calls c.event.new.self x c.in_ok-event.field-0) here
    c.in_ok-event.ensures in
    let past = get_or events l.i no_event ∷ past_at l.i events in
    let h = history_here events l.i no_event lt c.requires.history in
    let f = subst (IsFollowed past c.event.new.self) c.if-not-branch.true
    (took (past_at l.i events) h l.invariant) in
    first_fault events l.i no_event lt c.requires.history l.calls c.in-Faulty.fault
    l.invariant
    (decided_of past c.event.new.self (get_or events l.i no_event).at c.in_ok-decide.field-0
    (Faulty c.in-Faulty.fault) f.gathered c.in-Faulty.is (subst (λ (x : Event). IsDecided
    (reverse c.event.new.self.done.items) (noted_calls c.event.new.self.pending.items) x.at
    c.in_ok-decide.field-0) here c.in_ok-decide.ensures))

pub loop-i-preserved : goal.loop-i-preserved
unfolding no_event
loop-i-preserved c =
    let l = c.loop-i in
    let events = c.args.events.now in
    let lt : l.i < length events = omega (arith, c.loop-i-test.true, c.len-i-end.ensures) in
    let here = c.at-event.ensures no_event in
    let took = subst (λ (x : Event). TakesIn l.calls c.event.new.self x c.in_ok-event.field-0) here
    c.in_ok-event.ensures in
    let past = get_or events l.i no_event ∷ past_at l.i events in
    let h = history_here events l.i no_event lt c.requires.history in
    let f = subst (IsFollowed past c.event.new.self) c.if-not-branch.false
    (took (past_at l.i events) h l.invariant) in
    records_next events l.i no_event lt c.requires.history c.event.new.self f

pub decide-requires-2 : goal.decide-requires-2
decide-requires-2 c =
    let l = c.loop-i in
    let events = c.args.events.now in
    let r = records_all events l.i l.calls
    (omega (arith, c.loop-i-test.false, c.len-i-end.ensures)) l.invariant in
    record {
      tickets = tickets_gathered (reverse events) l.calls c.args.end c.requires.history
          (omega (arith, c.requires.ends)) r.gathered;
    }

pub unreachable-requires-in-Faulty-2 : goal.unreachable-requires-in-Faulty-2
unreachable-requires-in-Faulty-2 c =
    let l = c.loop-i in
    let events = c.args.events.now in
    let r = records_all events l.i l.calls
    (omega (arith, c.loop-i-test.false, c.len-i-end.ensures)) l.invariant in
    not_faulty (reverse events) l.calls c.in-Faulty-2.field-0 c.requires.history r
    (decided_of (reverse events) l.calls c.args.end c.in_ok-order.field-0
    (Faulty c.in-Faulty-2.field-0) r.gathered c.in-Faulty-2.is c.in_ok-order.ensures)
