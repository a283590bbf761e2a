-- How the recorded tickets represent the history so far.
use Rattle.std.specs.Prelude.{◌≡◌, List, ◌∷◌, reverse, Bool, true, false}
use Rattle.calls_core.specs.declared.history.Kind.TheVariants.{Sequencer}
use Rattle.calls_core.specs.declared.history.Event.{Event}
use Rattle.calls_core.specs.Histories.{completed_calls, pending_calls, IsHistoryOf}
use Rattle.calls_core.specs.Pending.{noted_calls}
use Rattle.calls_tickets.specs.declared.fault.Fault.{Fault}
use Rattle.calls_tickets.specs.declared.recorded.RecordedTickets.{RecordedTickets}
use Rattle.calls_tickets.specs.Faults.{Shows}
use Rattle.calls_tickets.specs.kept.Watching.{Watching}

pub record AreGathered (past : List Event) (r : RecordedTickets) : Type 0 where
  pub done_are : reverse r.done.items ≡ completed_calls past
  pub pending_are : noted_calls r.pending.items ≡ pending_calls past

pub record Records (past : List Event) (r : RecordedTickets) : Type 0 where
  pub gathered : AreGathered past r
  pub watching : Watching past r.top r.holes.items r.pending.items

pub record IsFaulty (past : List Event) (r : RecordedTickets) : Type 0 where
  pub gathered : AreGathered past r
  pub fault : Fault
  pub shows : Shows past fault

abbrev pub IsFollowed : List Event → RecordedTickets → Bool → Type 0
IsFollowed past r true = Records past r
IsFollowed past r false = IsFaulty past r

abbrev pub TakesIn : RecordedTickets → RecordedTickets → Event → Bool → Type 0
TakesIn old new x result =
    (past : List Event) → IsHistoryOf Sequencer (x ∷ past) → Records past old
    → IsFollowed (x ∷ past) new result
