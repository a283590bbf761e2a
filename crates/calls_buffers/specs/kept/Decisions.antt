-- What is decided of recorded calls.
use Rattle.std.specs.Prelude.{◌≡◌, ℕ, ◌+◌, ◌<◌, ◌^◌, ◌⊎◌, nat_le}
use Rattle.std.specs.Prelude.{List, count_by}
use Rattle.calls_core.specs.declared.history.PendingCall.{PendingCall}
use Rattle.calls_core.specs.declared.history.Call.{Call}
use Rattle.calls_buffers.specs.declared.deciding.Outcome.{Outcome}
use Rattle.calls_buffers.specs.declared.deciding.Outcome.TheVariants.{Ordered, Refused, NotDecided}
use Rattle.calls_buffers.specs.declared.windows.Window.{Window}
use Rattle.calls_buffers.specs.Counts.{is_consume}
use Rattle.calls_buffers.specs.Faults.{ShowsIn}
use Rattle.calls_buffers.specs.Outcomes.{AreDistinct, AreInTurn, AreTakenInTurn}
use Rattle.calls_buffers.specs.kept.Orders.{IsFound}

-- no pending consume may have taken an item: each item was returned before `end`, or none is pending
abbrev pub AllReturned : List Window → ℕ → Type 0
AllReturned ws end = count_by (λ (w : Window). nat_le end w.take_last) ws ≡ 0

abbrev pub NoneAsked : List PendingCall → Type 0
NoneAsked pending = count_by (λ (o : PendingCall). is_consume o.op) pending ≡ 0

-- positions up to `end` and one more can be told apart
abbrev pub Fits : ℕ → Type 0
Fits end = end + 1 < 2 ^ 64

-- the calls are of the class that is always decided
pub record AreSimple (n : ℕ) (done : List Call) (pending : List PendingCall) : Type 0 where
  pub room : 0 < n
  pub items : AreDistinct done pending ⊎ AreInTurn done pending ⊎ AreTakenInTurn done pending

abbrev pub IsAnswer : ℕ → List Call → List PendingCall → ℕ → Outcome → Type 0
IsAnswer n done pending end (Ordered cs) = IsFound n done pending end cs
IsAnswer n done pending end (Refused f) = ShowsIn n done pending f
IsAnswer n done pending end NotDecided = Fits end → AreSimple n done pending → ⊥
