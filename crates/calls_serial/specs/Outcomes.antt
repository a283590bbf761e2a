-- What the outcome of a decision about a cell says.
use Rattle.std.specs.Prelude.{◌≡◌, ℕ, ◌<◌, ◌≤◌, List, length, reverse}
use Rattle.std.specs.List.{Contains}
use Rattle.calls_core.specs.declared.history.Kind.{Kind}
use Rattle.calls_core.specs.declared.history.Op.TheVariants.{Put}
use Rattle.calls_core.specs.declared.history.Event.{Event}
use Rattle.calls_core.specs.declared.history.PendingCall.{PendingCall}
use Rattle.calls_core.specs.Histories.{pending_calls}
use Rattle.calls_core.specs.Beginnings.{past_at}
use Rattle.calls_core.specs.Outcomes.{IsOrderOf, IsFirstFault}
use Rattle.calls_serial.specs.declared.outcome.Outcome.{Outcome}
use Rattle.calls_serial.specs.declared.outcome.Outcome.TheVariants.{Ordered, Refused, Overlapping}
use Rattle.calls_serial.specs.Faults.{Shows}

-- two puts, the earlier one first, are among these pending calls
pub record AreBothPending (calls : List PendingCall) (o p : PendingCall) : Type 0 where
  pub one : Contains calls o
  pub other : Contains calls p
  pub one_value : ℕ
  pub other_value : ℕ
  pub one_put : o.op ≡ Put one_value
  pub other_put : p.op ≡ Put other_value
  pub order : o.first < p.first

-- two puts that are pending at one moment
pub record AreOverlapping (events : List Event) (o p : PendingCall) : Type 0 where
  pub moment : ℕ
  pub within : moment ≤ length events
  pub both : AreBothPending (pending_calls (past_at moment events)) o p

abbrev pub IsOutcome : Kind → List Event → ℕ → Outcome → Type 0
IsOutcome kind events end (Ordered calls) = IsOrderOf kind (reverse events) end calls
IsOutcome kind events end (Refused i fault) = IsFirstFault (λ past. Shows past fault) kind events i
IsOutcome kind events end (Overlapping o p) = AreOverlapping events o p
