use Rattle.std.proofs.Common.{◌≡◌, ◌<◌, length, ◌∷◌, ◌+◌, ◌≤◌, ◌∙◌, sym, subst, arith}
use Rattle.std.proofs.Common.{get_or}
use Rattle.calls_core.specs.declared.history.Event.{Event}
use Rattle.calls_core.specs.declared.history.Action.TheVariants.{Invoke}
use Rattle.calls_core.specs.declared.history.Op.TheVariants.{Advance}
use Rattle.calls_core.specs.declared.history.Kind.TheVariants.{Semaphores}
use Rattle.calls_core.specs.Beginnings.{past_at}
use Rattle.calls_core.specs.Histories.{clock}
use Rattle.calls_core.proofs.Beginnings.{past_next, history_next}
use Rattle.calls_semaphores.specs.kept.Keeping.{Holds, IsStep, Steps}
use Rattle.calls_semaphores.proofs.Scanning.{scan_start}
use Rattle.calls_semaphores.proofs.Finding.{next_clock, held_whole, first_fault}
use Rattle.calls_semaphores.proofs.scan.decide.Goals as goal

no_event : Event
no_event = record { at = 0; worker = 0; action = Invoke 0 Advance }

pub returns-in-Some : goal.returns-in-Some
unfolding no_event
returns-in-Some c =
    let l = c.loop-i in
    let units = c.args.units.now in
    let events = c.args.events.now in
    let x = get_or events l.i no_event in
    let lt : l.i < length events = omega (arith, c.loop-i-test.true, c.len-i-end.ensures) in
    let steps = subst (λ (y : Event). Steps l.scan c.event.new.self y c.in_ok-fault.field-0)
    (c.at-event.ensures no_event) c.in_ok-fault.ensures.step in
    let step : IsStep units (past_at l.i events) x c.event.new.self c.in_ok-fault.field-0 =
    steps units (past_at l.i events)
    (history_next (Semaphores units) l.i events no_event lt c.requires.history)
    (subst (λ n. clock (x ∷ past_at l.i events) ≤ n) (sym l.invariant.end)
    (next_clock units events c.args.end c.requires.history c.requires.end l.i no_event
    lt)) l.invariant.holds in
    first_fault units events c.args.end c.requires.history c.requires.end l.scan l.invariant.end
    l.i no_event c.in-Some.fault lt
    (subst (IsStep units (past_at l.i events) x c.event.new.self) c.in-Some.is step)
    l.invariant.holds

pub returns : goal.returns
returns c =
    held_whole c.args.units.now c.args.events.now c.args.end c.requires.history c.requires.end
    c.loop-i.scan c.loop-i.invariant.end c.loop-i.i
    (omega (arith, c.loop-i-test.false, c.len-i-end.ensures)) c.loop-i.invariant.holds

pub event-requires : goal.event-requires
event-requires c = λ i. omega (
  arith,
  c.loop-i.invariant.room i,
  c.loop-i-test.true,
  c.len-i-end.ensures,
  c.requires.room,
)

pub loop-i-init : goal.loop-i-init
loop-i-init c =
    let units = c.args.units.now in
    record {
      end = c.in_ok-scan.ensures.0;
      room = c.in_ok-scan.ensures.1.none;
      holds = scan_start units c.in_ok-scan.scan c.in_ok-scan.ensures.1 c.in_ok-scan.ensures.2
          c.in_ok-scan.ensures.3;
    }

pub loop-i-preserved : goal.loop-i-preserved
unfolding no_event
loop-i-preserved c =
    let l = c.loop-i in
    let units = c.args.units.now in
    let events = c.args.events.now in
    let x = get_or events l.i no_event in
    let lt : l.i < length events = omega (arith, c.loop-i-test.true, c.len-i-end.ensures) in
    let steps = subst (λ (y : Event). Steps l.scan c.event.new.self y c.in_ok-fault.field-0)
    (c.at-event.ensures no_event) c.in_ok-fault.ensures.step in
    let step : IsStep units (past_at l.i events) x c.event.new.self c.in_ok-fault.field-0 =
    steps units (past_at l.i events)
    (history_next (Semaphores units) l.i events no_event lt c.requires.history)
    (subst (λ n. clock (x ∷ past_at l.i events) ≤ n) (sym l.invariant.end)
    (next_clock units events c.args.end c.requires.history c.requires.end l.i no_event
    lt)) l.invariant.holds in
    let holds : Holds units (past_at (l.i + 1) events) c.event.new.self =
    subst (λ past. Holds units past c.event.new.self) (sym (past_next events l.i no_event lt))
    (subst (IsStep units (past_at l.i events) x c.event.new.self)
    c.in_default.is step) in
    let end : c.event.new.self.end ≡ c.args.end = c.event.ensures.end ∙ l.invariant.end in
    record {
      end = end;
      room = c.event.ensures.grows l.i l.invariant.room;
      holds = holds;
    }
