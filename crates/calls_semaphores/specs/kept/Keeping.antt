-- The state of a bank and of the scan. Only the proofs and the private contracts use this.
use Rattle.std.specs.Prelude.{◌≡◌, ℕ, ◌+◌, ◌-◌, ◌<◌, ◌≤◌, ◌==◌, Bool, true, false, List, ◌∷◌, ◌++◌}
use Rattle.std.specs.Prelude.{length, Option, Some, None, if◌then◌else◌, slice_index}
use Rattle.std.specs.Prelude.{slice_get, Vec}
use Rattle.std.specs.declared.alloc.Global.{Global}
use Rattle.std.specs.List.Sorted.{IsPermutation}
use Rattle.calls_core.specs.declared.history.Kind.TheVariants.{Semaphores}
use Rattle.calls_core.specs.declared.history.Op.{Op}
use Rattle.calls_core.specs.declared.history.Op.TheVariants.{V, PBoth}
use Rattle.calls_core.specs.declared.history.Reply.{Reply}
use Rattle.calls_core.specs.declared.history.Reply.TheVariants.{Done}
use Rattle.calls_core.specs.declared.history.Event.{Event}
use Rattle.calls_core.specs.declared.history.PendingCall.{PendingCall}
use Rattle.calls_core.specs.declared.history.Call.{Call}
use Rattle.calls_core.specs.Lists.{Each, EachPair}
use Rattle.calls_core.specs.Histories.{Takes, IsHistoryOf, clock, completion, completed_calls}
use Rattle.calls_core.specs.Histories.{pending_calls}
use Rattle.calls_core.specs.Linearizations.{IsLegalHistory, KeepsOrder, answered_calls, initial}
use Rattle.calls_core.specs.declared.pending.NotedCall.{NotedCall}
use Rattle.calls_core.specs.Pending.{noted_calls}
use Rattle.calls_semaphores.specs.declared.bank.Bank.{Bank}
use Rattle.calls_semaphores.specs.declared.fault.Fault.{Fault}
use Rattle.calls_semaphores.specs.declared.scan.Scan.{Scan}
use Rattle.calls_semaphores.specs.Banks.{adds, takes, took}
use Rattle.calls_semaphores.specs.Monitors.{AreLeft, IsRefusedAt, UpTo, units_left}

-- THE UNITS THAT ARE LEFT

abbrev pub one_if : Bool → ℕ
one_if b = if b then 1 else 0

-- a bank that has these units at first
pub record IsOpened (units : List ℕ) (b : Bank) : Type 0 where
  pub same : length b.added.items ≡ length units
  pub first : b.left.items ≡ units
  pub none : UpTo 0 b.added.items

-- one unit more of semaphore j
abbrev pub IsAddedAt : Bank → Bank → ℕ → Type 0
IsAddedAt old new j = (i : ℕ) → i < length old.added.items
    → units_left new i ≡ units_left old i + one_if (j == i)

abbrev pub AreAdded : Bank → Bank → Op → Type 0
AreAdded old new op = (i : ℕ) → i < length old.added.items
    → units_left new i ≡ units_left old i + one_if (adds i op)

-- one unit less of semaphore j, if it has one
abbrev pub IsTakenAt : Bank → Bank → ℕ → Type 0
IsTakenAt old new j = (i : ℕ) → units_left new i ≡ units_left old i - one_if (j == i)

-- two semaphores of one call are not the same
abbrev pub Distinct : Op → Type 0
Distinct (PBoth i j) = i ≡ j → ⊥
Distinct _ = Unit {0}

-- each semaphore that the call takes a unit of has one
abbrev pub HasUnits : Bank → Op → Type 0
HasUnits b op = (i : ℕ) → takes i op ≡ true → 0 < units_left b i

pub record IsMissing (b : Bank) (op : Op) (i : ℕ) : Type 0 where
  pub takes : takes i op ≡ true
  pub none : units_left b i ≡ 0

abbrev pub AreTaken : Bank → Bank → Op → Type 0
AreTaken old new op = (i : ℕ) → units_left new i + one_if (takes i op) ≡ units_left old i

abbrev pub AreFewer : List ℕ → List ℕ → Type 0
AreFewer old new = (i : ℕ) → slice_index new i ≤ slice_index old i

abbrev pub TakenAs : Bank → Bank → Op → Reply → Option ℕ → Type 0
TakenAs old new op r None = Distinct op
    → (i : ℕ) → units_left new i + one_if (took i op r) ≡ units_left old i
TakenAs old new op r (Some i) = (took i op r ≡ true) × (units_left old i ≡ 0)

-- THE LINEARIZATION SO FAR

-- whether this adds a unit to some semaphore
abbrev pub is_v : Op → Bool
is_v (V j) = true
is_v _ = false

-- a pending v takes effect, and another pending call does not
abbrev pub answer : PendingCall → Option Reply
answer o = if is_v o.op then Some Done else None

-- a linearization in which a pending v has its response at t, and in which every call was invoked
-- in the history so far
pub record IsLinearizationSoFar (units : Vec ℕ Global) (past : List Event) (t : ℕ) (cs : List Call)
    : Type 0 where
  pub each_once :
      IsPermutation (answered_calls t answer (pending_calls past) ++ completed_calls past) cs
  pub in_order : EachPair KeepsOrder cs
  pub run : IsLegalHistory (initial (Some (Semaphores units))) cs
  pub early : Each (λ (c : Call). c.first < clock past) cs
  pub fits : Each (λ (c : Call). Takes (Some (Semaphores units)) c.op) cs

-- a pending v is in the linearization at its place
abbrev pub IsPlaced : ℕ → List Call → NotedCall → Type 0
IsPlaced t cs o = is_v o.call.op ≡ true → slice_get cs o.noted ≡ Some (completion t Done o.call)

pub record Holds (units : Vec ℕ Global) (past : List Event) (s : Scan) : Type 0 where
  pub pending : noted_calls s.pending.items ≡ pending_calls past
  pub left : AreLeft units.items past s.bank
  pub kept : IsLinearizationSoFar units past s.end s.order
  pub places : Each (IsPlaced s.end s.order) s.pending.items

abbrev pub IsStep : Vec ℕ Global → List Event → Event → Scan → Option Fault → Type 0
IsStep units past x new None = Holds units (x ∷ past) new
IsStep units past x new (Some f) = IsRefusedAt units past x f

abbrev pub Steps : Scan → Scan → Event → Option Fault → Type 0
Steps old new x result = (units : Vec ℕ Global) (past : List Event)
    → IsHistoryOf (Semaphores units) (x ∷ past) → clock (x ∷ past) ≤ old.end
    → Holds units past old → IsStep units past x new result
