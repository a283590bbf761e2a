-- What the events of a cell show: a fault, or why nothing is decided.
use Rattle.std.specs.Prelude.{◌≡◌, ◌⊎◌, ℕ, true, List, ◌++◌}
use Rattle.calls_core.specs.declared.history.Event.{Event}
use Rattle.calls_core.specs.declared.history.PendingCall.{PendingCall}
use Rattle.calls_core.specs.declared.history.Call.{Call}
use Rattle.calls_core.specs.Histories.{pending_calls, completed_calls}
use Rattle.calls_distinct.specs.declared.cell.Fault as distinct_cell
use Rattle.calls_distinct.specs.Cells as distinct
use Rattle.calls_distinct.specs.Outcomes.{AreAllPut}
use Rattle.calls_serial.specs.Faults as serial
use Rattle.calls_serial.specs.Outcomes.{AreBothPending}
use Rattle.calls_cells.specs.declared.outcome.Fault.{Fault}
use Rattle.calls_cells.specs.declared.outcome.Fault.TheVariants.{Distinct, Serial}
use Rattle.calls_cells.specs.declared.outcome.Undecided.{Undecided}

-- the events show the fault, by counting
abbrev pub Shows : List Event → Fault → Type 0
Shows past (Distinct f) = distinct.Shows past f
Shows past (Serial f) = serial.Shows past f

-- the events show a fault of one of the classes. The gets of a fault in memory are a Vec, whose
-- length is bounded; here they are any list
abbrev pub HasFault : List Event → Type 0
HasFault past =
    ((f : distinct_cell.Fault) × distinct.Shows past f)
    ⊎ ((gets : List Call) × serial.HasNoneLeft past gets)

-- a get returned v, and v was put twice, or is 0 and was put
pub record IsRepeated (past : List Event) (v : ℕ) : Type 0 where
  pub got : distinct.is_got (completed_calls past) v ≡ true
  pub twice : distinct.IsDistinct (completed_calls past) (pending_calls past) v → ⊥

-- two puts are pending at one moment, the one that was invoked earlier first
pub record DoOverlap (past : List Event) (o p : PendingCall) : Type 0 where
  pub late : List Event
  pub earlier : List Event
  pub is : past ≡ late ++ earlier
  pub both : AreBothPending (pending_calls earlier) o p

-- the calls are of neither class
pub record IsOutside (past : List Event) (u : Undecided) : Type 0 where
  pub repeated : IsRepeated past u.value
  pub overlap : DoOverlap past u.first u.second

-- why nothing is decided: the calls are of neither class, and each value that was got was put
pub record ShowsUndecided (past : List Event) (u : Undecided) : Type 0 where
  pub outside : IsOutside past u
  pub put : AreAllPut past
