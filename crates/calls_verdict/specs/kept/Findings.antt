-- What the findings say about the objects that were decided.
use Rattle.std.specs.Prelude.{◌≡◌, ◌⊎◌, ℕ, ◌+◌, ◌<◌, ◌≤◌, List, length, reverse, Option, Some, None}
use Rattle.std.specs.Prelude.{slice_get}
use Rattle.calls_core.specs.declared.history.Kind.{Kind}
use Rattle.calls_core.specs.declared.history.Event.{Event}
use Rattle.calls_core.specs.declared.history.Placed.{Placed}
use Rattle.calls_core.specs.Lists.{Each}
use Rattle.calls_core.specs.Histories.{clock, IsHistory, pending_calls, completed_calls, part}
use Rattle.calls_core.specs.Linearizations.{IsLegalHistory, start, calls_on, pending_on}
use Rattle.calls_core.specs.Points.{IsPlacedOrder, placed_on}
use Rattle.calls_core.specs.Beginnings.{until}
use Rattle.calls_verdict.specs.declared.verdict.Refusal.{Refusal}
use Rattle.calls_verdict.specs.declared.verdict.Undecided.{Undecided}
use Rattle.calls_verdict.specs.declared.verdict.Verdict.{Verdict}
use Rattle.calls_verdict.specs.declared.verdict.Decision.{Decision}
use Rattle.calls_verdict.specs.declared.verdict.Decision.TheVariants.{Ordered, Refused, Open}
use Rattle.calls_verdict.specs.declared.findings.Findings.{Findings}
use Rattle.calls_verdict.specs.Verdicts.{IsOrderedBefore, IsDecision, HasFault, HasOpen, IsVerdict}
use Rattle.calls_verdict.specs.Verdicts.{IsClear}

-- the position up to which each object was decided: that of the refusal, or the end
abbrev pub limit : ℕ → Option Refusal → ℕ
limit t None = t
limit t (Some r) = r.at

abbrev pub IsRefused : List Kind → List Event → Option Refusal → Type 0
IsRefused kinds past None = Unit {0}
IsRefused kinds past (Some r) =
    HasFault kinds (until (r.at + 1) past) r.object r.fault
    × IsOrderedBefore kinds past r.object r.at

abbrev pub IsOpen : List Kind → List Event → Option Undecided → Type 0
IsOpen kinds past None = Unit {0}
IsOpen kinds past (Some u) = HasOpen kinds past u

-- a placed order of the calls of each of the first n objects, and no other calls
pub record ArePlaced (kinds : List Kind) (past : List Event) (n : ℕ) (ps : List Placed) : Type 0
  where
    pub below : Each (λ (p : Placed). p.call.object < n) ps
    pub orders : (k : ℕ) → k < n
        → IsPlacedOrder (IsLegalHistory (start kinds k)) (calls_on k (completed_calls past))
        (pending_on k (pending_calls past)) (clock past) (placed_on k ps)

-- the findings are those of the first n objects
pub record AreFound (kinds : List Kind) (past : List Event) (n : ℕ) (found : Findings) : Type 0 where
  pub clear : (k : ℕ) (kind : Kind) → k < n → slice_get kinds k ≡ Some kind → (m : ℕ)
      → m ≤ limit (clock past) found.refusal → IsClear kind past k m
  pub refused : IsRefused kinds past found.refusal
  pub undecided : IsOpen kinds past found.undecided
  pub placed : found.refusal ≡ None → found.undecided ≡ None
      → ArePlaced kinds past n found.placed

-- the index in a refusal is that of an event
abbrev pub HasRoom : List Event → Decision → Type 0
HasRoom own (Ordered cs) = Unit {0}
HasRoom own (Refused i f) = i < length own
HasRoom own (Open i u) = Unit {0}

-- a decision on object k is added, whose events are own
abbrev pub IsAddedTo : ℕ → List Event → Decision → Findings → Findings → Type 0
IsAddedTo k own d old new =
    (kinds : List Kind) (past : List Event) (kind : Kind) → IsHistory kinds past
    → slice_get kinds k ≡ Some kind → reverse own ≡ part k past → IsDecision kind own (clock past) d
    → AreFound kinds past k old → AreFound kinds past (k + 1) new

-- the refusal with the lesser position
abbrev pub IsEarlier : Option Refusal → Refusal → Refusal → Type 0
IsEarlier None next r = r ≡ next
IsEarlier (Some old) next r = ((r ≡ old) × (old.at ≤ next.at)) ⊎ ((r ≡ next) × (next.at < old.at))

-- the findings on all objects give this verdict
abbrev pub Gives : Findings → Verdict → Type 0
Gives found v = (kinds : List Kind) (past : List Event) → IsHistory kinds past
    → AreFound kinds past (length kinds) found → IsVerdict kinds past v
