-- What a fault says about the calls of one object, whatever its kind.
use Rattle.std.specs.Prelude.{ℕ, ◌<◌, List}
use Rattle.calls_core.specs.declared.history.Kind.{Kind}
use Rattle.calls_core.specs.declared.history.Kind.TheVariants.{Eventcount, Sequencer, Semaphores}
use Rattle.calls_core.specs.declared.history.Kind.TheVariants.{Cell, Database, Buffer}
use Rattle.calls_core.specs.declared.history.Event.{Event}
use Rattle.calls_core.specs.Histories.{clock}
use Rattle.calls_core.specs.Beginnings.{until}
use Rattle.calls_core.specs.Outcomes.{HasOrderOf}
use Rattle.calls_counts.specs.Faults as counts
use Rattle.calls_tickets.specs.Faults as tickets
use Rattle.calls_semaphores.specs.Faults as semaphores
use Rattle.calls_cells.specs.Faults as cells
use Rattle.calls_buffers.specs.Faults as buffers
use Rattle.calls_counts.specs.declared.fault.Fault as count_fault
use Rattle.calls_tickets.specs.declared.fault.Fault as ticket_fault
use Rattle.calls_semaphores.specs.declared.fault.Fault as unit_fault
use Rattle.calls_buffers.specs.declared.fault.Fault as item_fault
use Rattle.calls_verdict.specs.declared.verdict.Fault.{Fault}
use Rattle.calls_verdict.specs.declared.verdict.Fault.TheVariants.{Count, Ticket, Units, Value}
use Rattle.calls_verdict.specs.declared.verdict.Fault.TheVariants.{Items}
use Rattle.calls_verdict.specs.declared.verdict.Cause.{Cause}
use Rattle.calls_verdict.specs.declared.verdict.Cause.TheVariants.{Values, Unfound}

-- the events of an object of this kind show the fault, by counting
abbrev pub Shows : Kind → List Event → Fault → Type 0
Shows (Eventcount n) past (Count f) = counts.Shows n past f
Shows Sequencer past (Ticket f) = tickets.Shows past f
Shows (Semaphores units) past (Units f) = semaphores.Shows (Semaphores units) past f
Shows Cell past (Value f) = cells.Shows past f
Shows (Database n) past (Value f) = cells.Shows past f
Shows (Buffer n) past (Items f) = buffers.Shows n past f
Shows _ _ _ = ⊥

-- position m is no later than the last event of a buffer with room for n items, and the events
-- before it have a linearization
pub record IsUnfound (n : ℕ) (past : List Event) (m : ℕ) : Type 0 where
  pub within : m < clock past
  pub before : HasOrderOf (Buffer n) (until m past)

-- the events of an object show why it isn't decided
abbrev pub ShowsUndecided : Kind → List Event → Cause → Type 0
ShowsUndecided Cell past (Values u) = cells.ShowsUndecided past u
ShowsUndecided (Database n) past (Values u) = cells.ShowsUndecided past u
ShowsUndecided (Buffer n) past (Unfound m) = IsUnfound n past m
ShowsUndecided _ _ _ = ⊥

-- an object whose calls are decided. No events show that a buffer isn't: its calls count as decided
-- if they have a linearization
abbrev pub IsDecided : Kind → List Event → Type 0
IsDecided (Buffer n) past = HasOrderOf (Buffer n) past
IsDecided kind past = (u : Cause) → ShowsUndecided kind past u → ⊥

-- an object of this kind has a fault
abbrev pub IsFaulty : Kind → List Event → Type 0
IsFaulty (Eventcount n) past = (f : count_fault.Fault) × counts.Shows n past f
IsFaulty Sequencer past = (f : ticket_fault.Fault) × tickets.Shows past f
IsFaulty (Semaphores units) past =
    (f : unit_fault.Fault) × semaphores.Shows (Semaphores units) past f
IsFaulty Cell past = cells.HasFault past
IsFaulty (Database n) past = cells.HasFault past
IsFaulty (Buffer n) past = (f : item_fault.Fault) × buffers.Shows n past f
