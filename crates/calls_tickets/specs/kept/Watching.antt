-- How the state of a monitor represents the history so far.
use Rattle.std.specs.Prelude.{◌≡◌, ◌⊎◌, ℕ, zero, suc, ◌+◌, ◌-◌, ◌<◌, ◌≤◌, ◌==◌, min, Bool, true}
use Rattle.std.specs.Prelude.{false, List, [], ◌∷◌, ◌++◌, length, map, count_by, Some, slice_get}
use Rattle.std.specs.List.{Contains, remove, range_with_len as places}
use Rattle.calls_core.specs.declared.history.Event.{Event}
use Rattle.calls_core.specs.declared.history.PendingCall.{PendingCall}
use Rattle.calls_core.specs.declared.history.Call.{Call}
use Rattle.calls_core.specs.Lists.{Each, EachPair}
use Rattle.calls_core.specs.Histories.{clock, completed_calls, pending_calls, pending_of, without}
use Rattle.calls_core.specs.declared.pending.NotedCall.{NotedCall}
use Rattle.calls_core.specs.Pending.{noted_calls}
use Rattle.calls_tickets.specs.Faults.{number, FromTurned}

-- NUMBERS AND TICKETS

-- n is one more than the greatest number that was returned before position p
pub record IsTop (done : List Call) (p n : ℕ) : Type 0 where
  pub above : Each (λ (d : Call). d.last < p → number d < n) done
  pub reached : (n ≡ 0) ⊎ ((d : Call) × Contains done d × (d.last < p) × (n ≡ number d + 1))

-- each number below top was returned by one ticket, or is one of the holes
pub record AreHoles (done : List Call) (top : ℕ) (holes : List ℕ) : Type 0 where
  pub each_once :
      (k : ℕ) → k < top
      → count_by (λ (d : Call). number d == k) done + count_by (λ (h : ℕ). h == k) holes ≡ 1
  pub total : length done + length holes ≡ top
  pub below : Each (λ (d : Call). number d < top) done
  pub inside : Each (λ (h : ℕ). h < top) holes
  pub rises : EachPair (λ (g h : ℕ). g < h) holes

-- for each hole, the pending ticket with the same index was invoked before a number as great as the
-- hole was returned
abbrev pub Paired : List ℕ → List NotedCall → Type 0
Paired [] us = Unit {0}
Paired (h ∷ hs) [] = ⊥
Paired (h ∷ hs) (u ∷ us) = (u.noted ≤ h) × Paired hs us

abbrev pub Unpaired : List ℕ → List NotedCall → Type 0
Unpaired [] us = ⊥
Unpaired (h ∷ hs) [] = Unit {0}
Unpaired (h ∷ hs) (u ∷ us) = (h < u.noted) ⊎ Unpaired hs us

-- what holds of the state, apart from the pairs of holes and pending tickets
pub record Following (past : List Event) (top : ℕ) (holes : List ℕ)
    (us : List NotedCall) : Type 0 where
  pub pending_is : pending_calls past ≡ noted_calls us
  pub holes_are : AreHoles (completed_calls past) top holes
  pub top_is : IsTop (completed_calls past) (clock past) top
  pub noted : Each (λ (u : NotedCall). IsTop (completed_calls past) u.call.first u.noted) us
  pub straight : (a b : Call) → FromTurned (completed_calls past) a b → ⊥

-- the state represents the history so far
pub record Watching (past : List Event) (top : ℕ) (holes : List ℕ)
    (us : List NotedCall) : Type 0 where
  pub follows : Following past top holes us
  pub paired : Paired holes us

-- WHAT THE FUNCTIONS RETURN

abbrev pub IsHoleAt : List ℕ → ℕ → ℕ → Type 0
IsHoleAt holes n k = slice_get holes k ≡ Some n

abbrev pub NoHole : List ℕ → ℕ → Type 0
NoHole holes n = Each (λ (h : ℕ). h ≡ n → ⊥) holes

abbrev pub IsPaired : List ℕ → List NotedCall → Bool → Type 0
IsPaired holes us true = Paired holes us
IsPaired holes us false = Unpaired holes us

-- n is a hole, which is filled
abbrev pub Fills : List ℕ → List ℕ → ℕ → ℕ → Type 0
Fills holes more noted n =
    (k : ℕ) × IsHoleAt holes n k × (noted ≤ n) × (more ≡ remove holes k)

-- n is top or more, and the numbers from top to below n are new holes
pub record Raises (top later : ℕ) (holes more : List ℕ) (room n : ℕ) : Type 0 where
  pub high : top ≤ n
  pub few : length holes + n ≤ room + top
  pub later_is : later ≡ min (n + 1) 18446744073709551615
  pub more_is : more ≡ holes ++ places top (n - top)

-- n was returned before; or a greater number was returned before the ticket's invocation; or n is
-- too great for so many pending tickets
abbrev pub CannotTake : ℕ → List ℕ → ℕ → ℕ → ℕ → Type 0
CannotTake top holes room noted n =
    ((n < top) × NoHole holes n)
    ⊎ (((k : ℕ) × IsHoleAt holes n k × (n < noted))
    ⊎ ((top ≤ n) × (room + top < length holes + n)))

abbrev pub IsTaken : ℕ → ℕ → List ℕ → List ℕ → ℕ → ℕ → ℕ → Bool → Type 0
IsTaken top later holes more room noted n true =
    ((n < top) × (later ≡ top) × Fills holes more noted n) ⊎ Raises top later holes more room n
IsTaken top later holes more room noted n false = CannotTake top holes room noted n
