-- What a verdict on a history says.
use Rattle.std.specs.Prelude.{◌≡◌, ◌⊎◌, ℕ, ◌+◌, ◌<◌, ◌≤◌, ◌^◌, List, length, reverse, Some, slice_get}
use Rattle.calls_core.specs.declared.history.Kind.{Kind}
use Rattle.calls_core.specs.declared.history.Kind.TheVariants.{Cell, Database, Buffer}
use Rattle.calls_core.specs.declared.history.Event.{Event}
use Rattle.calls_core.specs.declared.history.Call.{Call}
use Rattle.calls_core.specs.Histories.{clock, pending_calls, completed_calls, part}
use Rattle.calls_core.specs.Linearizations.{IsRun, start, IsAnsweredLinearization}
use Rattle.calls_core.specs.Points.{IsPlacedOrder}
use Rattle.calls_core.specs.Beginnings.{past_at, until}
use Rattle.calls_core.specs.Outcomes.{IsOrderOf, HasOrderOf}
use Rattle.calls_cells.specs.Outcomes as cells
use Rattle.calls_buffers.specs.Outcomes.{IsSimple}
use Rattle.calls_verdict.specs.declared.verdict.Fault.{Fault}
use Rattle.calls_verdict.specs.declared.verdict.Cause.{Cause}
use Rattle.calls_verdict.specs.declared.verdict.Undecided.{Undecided}
use Rattle.calls_verdict.specs.declared.verdict.Verdict.{Verdict}
use Rattle.calls_verdict.specs.declared.verdict.Verdict.TheVariants.{Linearizable, Refused}
use Rattle.calls_verdict.specs.declared.verdict.Verdict.TheVariants.{NotDecided}
use Rattle.calls_verdict.specs.declared.verdict.Decision.{Decision}
use Rattle.calls_verdict.specs.declared.verdict.Decision.TheVariants as decision
use Rattle.calls_verdict.specs.Faults.{Shows, ShowsUndecided, IsDecided, IsFaulty}

-- if the object is a buffer, its calls are not of the class that is always decided, unless t is the
-- last position of all
abbrev pub IsHard : Kind → ℕ → List Event → Type 0
IsHard (Buffer n) t past = t + 1 < 2 ^ 64 → IsSimple n past → ⊥
IsHard kind t past = Unit {0}

-- the calls have a linearization; or the object is a cell or a database, and they aren't decided; or
-- it is a buffer, and its calls up to the end of `more`, which begins with these events, are not of
-- the class that is always decided
abbrev pub IsOrdered : Kind → ℕ → List Event → List Event → Type 0
IsOrdered (Buffer n) t past more = HasOrderOf (Buffer n) past ⊎ IsHard (Buffer n) t more
IsOrdered Cell t past more = cells.IsClear Cell past
IsOrdered (Database n) t past more = cells.IsClear (Database n) past
IsOrdered kind t past more = HasOrderOf kind past

-- the events up to that at index i show the fault, and each prefix before it is ordered so: it is
-- the first faulty event of those that are decided
pub record IsRefusedAt (kind : Kind) (events : List Event) (t i : ℕ) (f : Fault) : Type 0 where
  pub within : i < length events
  pub shows : Shows kind (past_at (i + 1) events) f
  pub before : (j : ℕ) → j ≤ i → IsOrdered kind t (past_at j events) (past_at i events)

-- the object isn't decided from the event at index i on, and each prefix before it has a
-- linearization
pub record IsOpenFrom (kind : Kind) (events : List Event) (t i : ℕ) (u : Cause) : Type 0 where
  pub within : i < length events
  pub shows : (j : ℕ) → i < j → ShowsUndecided kind (past_at j events) u
  pub before : (j : ℕ) → j ≤ i → HasOrderOf kind (past_at j events)
  pub hard : IsHard kind t (reverse events)

-- what a decision on the calls of one object says
abbrev pub IsDecision : Kind → List Event → ℕ → Decision → Type 0
IsDecision kind events t (decision.Ordered cs) = IsOrderOf kind (reverse events) t cs
IsDecision kind events t (decision.Refused i f) = IsRefusedAt kind events t i f
IsDecision kind events t (decision.Open i u) = IsOpenFrom kind events t i u

-- the events of object k show the fault
pub record HasFault (kinds : List Kind) (past : List Event) (k : ℕ) (f : Fault) : Type 0 where
  pub kind : Kind
  pub is : slice_get kinds k ≡ Some kind
  pub shows : Shows kind (part k past) f

-- object k has a fault
pub record IsFaultyOn (kinds : List Kind) (past : List Event) (k : ℕ) : Type 0 where
  pub kind : Kind
  pub is : slice_get kinds k ≡ Some kind
  pub faulty : IsFaulty kind (part k past)

-- the events of this object show that it isn't decided
pub record HasOpen (kinds : List Kind) (past : List Event) (u : Undecided) : Type 0 where
  pub kind : Kind
  pub is : slice_get kinds u.object ≡ Some kind
  pub shows : ShowsUndecided kind (part u.object past) u.cause
  pub hard : IsHard kind (clock past) (part u.object past)

-- each object of the history is decided
abbrev pub AreDecided : List Kind → List Event → Type 0
AreDecided kinds past = (k : ℕ) (kind : Kind) → slice_get kinds k ≡ Some kind
    → IsDecided kind (part k past)

-- the calls of buffer k before position m, or before some later one, are not of the class that is
-- always decided
pub record IsHardFrom (n : ℕ) (past : List Event) (k m : ℕ) : Type 0 where
  pub later : ℕ
  pub from : m ≤ later
  pub hard : IsHard (Buffer n) (clock past) (part k (until later past))

-- the calls of buffer k before position m are of the class that is always decided, and so are those
-- before each later one; and the last position of all is free
pub record IsSimpleFrom (n : ℕ) (past : List Event) (k m : ℕ) : Type 0 where
  pub room : clock past + 1 < 2 ^ 64
  pub simple : (later : ℕ) → m ≤ later → IsSimple n (part k (until later past))

-- the calls of object k before position m are decided; or it is a buffer whose calls are of that
-- class from there on
abbrev pub IsSettled : Kind → List Event → ℕ → ℕ → Type 0
IsSettled (Buffer n) past k m =
    HasOrderOf (Buffer n) (part k (until m past)) ⊎ IsSimpleFrom n past k m
IsSettled kind past k m = IsDecided kind (part k (until m past))

-- this holds of each object
abbrev pub AreSettled : List Kind → List Event → ℕ → Type 0
AreSettled kinds past m =
    (k : ℕ) (kind : Kind) → slice_get kinds k ≡ Some kind → IsSettled kind past k m

-- the calls of object k before position m have a linearization, or aren't decided: for a buffer,
-- they are not of that class from there on
abbrev pub IsClear : Kind → List Event → ℕ → ℕ → Type 0
IsClear (Buffer n) past k m =
    HasOrderOf (Buffer n) (part k (until m past)) ⊎ IsHardFrom n past k m
IsClear kind past k m = HasOrderOf kind (part k (until m past))
    ⊎ ((u : Cause) × ShowsUndecided kind (part k (until m past)) u)

-- this holds of each object
abbrev pub AreClear : List Kind → List Event → ℕ → Type 0
AreClear kinds past m =
    (k : ℕ) (kind : Kind) → slice_get kinds k ≡ Some kind → IsClear kind past k m

-- each prefix before position n is clear, and has a linearization if every object is decided, or is
-- a buffer whose calls are always of that class
abbrev pub IsCleanBefore : List Kind → List Event → ℕ → Type 0
IsCleanBefore kinds past n =
    (m : ℕ) → m ≤ n → AreClear kinds past m
    × (AreSettled kinds past m
    → (cs : List Call) × IsAnsweredLinearization kinds (until m past) cs)

-- each prefix of the events of object k before position n has a linearization; or the object is a
-- cell or a database, and the prefix isn't decided; or it is a buffer, and its calls before position
-- n are not of the class that is always decided
abbrev pub IsOrderedBefore : List Kind → List Event → ℕ → ℕ → Type 0
IsOrderedBefore kinds past k n = (kind : Kind) (m : ℕ) → slice_get kinds k ≡ Some kind → m ≤ n
    → IsOrdered kind (clock past) (part k (until m past)) (part k (until n past))

-- the event at this position is refused: with it, object k shows the fault; and before it neither
-- this object nor another does, except for cells that aren't decided, and for buffers whose calls
-- are not of the class that is always decided
pub record IsFirstRefusal (kinds : List Kind) (past : List Event) (at k : ℕ) (f : Fault) : Type 0
  where
    pub shows : HasFault kinds (until (at + 1) past) k f
    pub own : IsOrderedBefore kinds past k at
    pub before : IsCleanBefore kinds past at

-- this object isn't decided, and no object shows a fault, except for cells that aren't decided, and
-- for buffers whose calls are not of the class that is always decided
pub record IsNotDecided (kinds : List Kind) (past : List Event) (u : Undecided) : Type 0 where
  pub shows : HasOpen kinds past u
  pub rest : IsCleanBefore kinds past (clock past)

abbrev pub IsVerdict : List Kind → List Event → Verdict → Type 0
IsVerdict kinds past (Linearizable order) =
    IsPlacedOrder (IsRun (start kinds)) (completed_calls past) (pending_calls past)
    (clock past) order
IsVerdict kinds past (Refused r) = IsFirstRefusal kinds past r.at r.object r.fault
IsVerdict kinds past (NotDecided u) = IsNotDecided kinds past u
