-- The invariant of the scan. Only the proofs and the private contracts use this.
use Rattle.std.specs.Prelude.{◌≡◌, ℕ, ◌+◌, ◌<◌, ◌≤◌, Bool, true, false, ◌&&◌, nat_le, count_by}
use Rattle.std.specs.Prelude.{List, [], ◌∷◌, ◌++◌, length, map, Option, Some, None, IfSome}
use Rattle.std.specs.Prelude.{if◌then◌else◌}
use Rattle.std.specs.List.{Contains, filter_map}
use Rattle.std.specs.List.Sorted.{IsPermutation}
use Rattle.calls_core.specs.declared.history.Op.TheVariants.{Advance}
use Rattle.calls_core.specs.declared.history.Reply.TheVariants.{Done}
use Rattle.calls_core.specs.declared.history.Call.{Call}
use Rattle.calls_counts.specs.declared.state.Slot.{Slot}
use Rattle.calls_counts.specs.declared.state.PlacedRead.{PlacedRead}
use Rattle.calls_counts.specs.CountRuns.{CountGives}
use Rattle.calls_counts.specs.Faults.{is_advance, least, Reached}
use Rattle.calls_core.specs.Lists.{Each, EachFrom, EachPair}
use Rattle.calls_core.specs.declared.pending.NotedCall.{NotedCall}

abbrev pub free : Option Call → Bool
free None = true
free (Some c) = false

abbrev pub frees : List Slot → ℕ
frees slots = count_by (λ (s : Slot). free s.taken) slots

-- the advances that have a slot
abbrev pub taken_calls : List Slot → List Call
taken_calls slots = filter_map (λ (s : Slot). s.taken) slots

abbrev pub moments : List Slot → List ℕ
moments slots = map (λ (s : Slot). s.moment) slots

abbrev pub placed_calls : List PlacedRead → List Call
placed_calls reads = map (λ (p : PlacedRead). p.call) reads

-- SLOTS

-- a completed advance that takes effect at moment m, with its response before position t
pub record Fits (t m : ℕ) (c : Call) : Type 0 where
  pub op : c.op ≡ Advance
  pub reply : c.reply ≡ Done
  pub first : c.first < m
  pub last : m ≤ c.last
  pub early : c.last < t

-- a completed read or await with its response at position m, which says that the count is more than
-- start + i
pub record Raised (start : ℕ) (calls : List Call) (i m : ℕ) : Type 0 where
  pub call : Call
  pub known : Contains calls call
  pub reading : is_advance call.op ≡ false
  pub at : call.last ≡ m
  pub beyond : start + i < least call.op call.reply

pub record IsSlotAt (start : ℕ) (calls : List Call) (t i : ℕ) (s : Slot) : Type 0 where
  pub early : s.moment < t
  pub fits : IfSome s.taken (Fits t s.moment)
  pub raised : s.taken ≡ None → Raised start calls i s.moment

-- moments rise; and the advance of a slot after a free one was invoked after the free one was made
pub record Rises (s z : Slot) : Type 0 where
  pub moments : s.moment ≤ z.moment
  pub later : s.taken ≡ None → IfSome z.taken (λ (c : Call). s.moment < c.first)

-- PENDING CALLS

-- the first n moments are before position f, and the others after it
abbrev pub IsAround : ℕ → ℕ → ℕ → ℕ → Type 0
IsAround n f i m = (i < n → m < f) × (n ≤ i → f < m)

pub record IsNotedCall (start : ℕ) (calls : List Call) (t : ℕ) (ms : List ℕ) (u : NotedCall) : Type 0
  where
    pub early : u.call.first < t
    pub within : u.noted ≤ length ms
    pub around : EachFrom (IsAround u.noted u.call.first) 0 ms
    pub reached : Reached start calls u.call.first (start + u.noted)

-- whether a pending advance may take the slot at index i
abbrev pub may_take : ℕ → NotedCall → Bool
may_take i u = is_advance u.call.op && nat_le u.noted i

abbrev pub takers : List NotedCall → ℕ → ℕ
takers pending i = count_by (may_take i) pending

abbrev pub advancing : List NotedCall → ℕ
advancing pending = count_by (λ (u : NotedCall). is_advance u.call.op) pending

-- each free slot may be taken by at least as many pending advances as there are free slots up to
-- it; n are free before
abbrev pub Enough : (ℕ → ℕ) → ℕ → ℕ → List Slot → Type 0
Enough f n i [] = Unit {0}
Enough f n i (s ∷ slots) = (s.taken ≡ None → n < f i) × Enough f ((if free s.taken then 1 else 0)
    + n) (i + 1) slots

-- READS

-- the moments before its place are no later than the read's response, and the others later than its
-- invocation
abbrev pub IsPlaced : ℕ → ℕ → ℕ → ℕ → ℕ → Type 0
IsPlaced n f l i m = (i < n → m ≤ l) × (n ≤ i → f < m)

pub record IsReadAt (start t : ℕ) (ms : List ℕ) (p : PlacedRead) : Type 0 where
  pub early : p.call.first < p.call.last
  pub returned : p.call.last < t
  pub within : p.place ≤ length ms
  pub reading : is_advance p.call.op ≡ false
  pub gives : CountGives (start + p.place) p.call.op p.call.reply
  pub around : EachFrom (IsPlaced p.place p.call.first p.call.last) 0 ms

-- THE WHOLE STATE

-- after some events: the completed calls, the first position after the events, and how many
-- advances were invoked
pub record IsState (start : ℕ) (calls : List Call) (t invoked : ℕ) (slots : List Slot)
    (pending : List NotedCall) (reads : List PlacedRead) : Type 0 where
  pub all : IsPermutation calls (taken_calls slots ++ placed_calls reads)
  pub total : invoked ≡ length (taken_calls slots) + advancing pending
  pub slot : EachFrom (IsSlotAt start calls t) 0 slots
  pub rises : EachPair Rises slots
  pub call : Each (IsNotedCall start calls t (moments slots)) pending
  pub enough : Enough (takers pending) 0 0 slots
  pub read : Each (IsReadAt start t (moments slots)) reads
  pub reads_rise : EachPair (λ (p q : PlacedRead). p.call.first < q.call.last) reads
