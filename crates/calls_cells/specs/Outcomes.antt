-- What is decided of a cell or a database.
use Rattle.std.specs.Prelude.{◌⊎◌, ℕ, ◌+◌, ◌<◌, ◌≤◌, List, length, reverse}
use Rattle.calls_core.specs.declared.history.Kind.{Kind}
use Rattle.calls_core.specs.declared.history.Event.{Event}
use Rattle.calls_core.specs.Beginnings.{past_at}
use Rattle.calls_core.specs.Outcomes.{IsOrderOf, HasOrderOf}
use Rattle.calls_cells.specs.declared.outcome.Fault.{Fault}
use Rattle.calls_cells.specs.declared.outcome.Undecided.{Undecided as Cause}
use Rattle.calls_cells.specs.declared.outcome.Outcome.{Outcome}
use Rattle.calls_cells.specs.declared.outcome.Outcome.TheVariants.{Ordered, Refused, Undecided}
use Rattle.calls_cells.specs.Faults.{Shows, ShowsUndecided}

-- the calls have a linearization, or the events show why nothing is decided
abbrev pub IsClear : Kind → List Event → Type 0
IsClear kind past = HasOrderOf kind past ⊎ ((u : Cause) × ShowsUndecided past u)

-- with the event at index i the events show the fault, and each prefix before it is clear: so that
-- event is the first faulty one of those that are decided
pub record IsRefusedAt (kind : Kind) (events : List Event) (i : ℕ) (f : Fault) : Type 0 where
  pub within : i < length events
  pub shows : Shows (past_at (i + 1) events) f
  pub before : (j : ℕ) → j ≤ i → IsClear kind (past_at j events)

-- nothing is decided from the event at index i on, and each prefix before it has a linearization
pub record IsUndecidedFrom (kind : Kind) (events : List Event) (i : ℕ) (u : Cause) : Type 0 where
  pub within : i < length events
  pub shows : (j : ℕ) → i < j → ShowsUndecided (past_at j events) u
  pub before : (j : ℕ) → j ≤ i → HasOrderOf kind (past_at j events)

abbrev pub IsOutcome : Kind → List Event → ℕ → Outcome → Type 0
IsOutcome kind events end (Ordered cs) = IsOrderOf kind (reverse events) end cs
IsOutcome kind events end (Refused i f) = IsRefusedAt kind events i f
IsOutcome kind events end (Undecided i u) = IsUndecidedFrom kind events i u
