-- The calls of a cell by their values: Put v stores v, and Get returns what is stored, at first 0.
-- The same definitions serve for a database: there a value represents a list.
use Rattle.std.specs.Prelude.{◌≡◌, ◌≢◌, ◌⊎◌, ℕ, ◌+◌, ◌≤◌, Bool, true, false, ◌&&◌, not, ◌==◌}
use Rattle.std.specs.Prelude.{nat_le, count_by, List}
use Rattle.std.specs.List.{Contains}
use Rattle.calls_core.specs.declared.history.Kind.{Kind}
use Rattle.calls_core.specs.declared.history.Kind.TheVariants.{Cell, Database}
use Rattle.calls_core.specs.declared.history.Op.{Op}
use Rattle.calls_core.specs.declared.history.Op.TheVariants.{Put, Get}
use Rattle.calls_core.specs.declared.history.Reply.{Reply}
use Rattle.calls_core.specs.declared.history.Reply.TheVariants.{Done, Number}
use Rattle.calls_core.specs.declared.history.Event.{Event}
use Rattle.calls_core.specs.declared.history.PendingCall.{PendingCall}
use Rattle.calls_core.specs.declared.history.Call.{Call}
use Rattle.calls_core.specs.Histories.{completion, completed_calls, pending_calls, IsHistoryOf}
use Rattle.calls_core.specs.Linearizations.{Precedes}
use Rattle.calls_distinct.specs.declared.cell.Fault.{Fault}
use Rattle.calls_distinct.specs.declared.cell.Fault.TheVariants.{Nowhere, Stale, Alternate}

-- STORES

-- a cell, or a database
abbrev pub IsStore : Kind → Type 0
IsStore Cell = Unit {0}
IsStore (Database n) = Unit {0}
IsStore _ = ⊥

abbrev pub IsStoreHistory : List Event → Type 0
IsStoreHistory past = (kind : Kind) × IsStore kind × IsHistoryOf kind past

-- VALUES

abbrev pub is_put : Op → Bool
is_put (Put v) = true
is_put _ = false

abbrev pub returned_value : Reply → ℕ
returned_value (Number n) = n
returned_value _ = 0

-- what is put, or returned
abbrev pub value_put_or_returned : Op → Reply → ℕ
value_put_or_returned (Put v) r = v
value_put_or_returned Get r = returned_value r
value_put_or_returned _ r = 0

abbrev pub value : Call → ℕ
value c = value_put_or_returned c.op c.reply

-- whether an operation is a put of v
abbrev pub puts : ℕ → Op → Bool
puts v op = is_put op && (value_put_or_returned op Done == v)

abbrev pub put_call : ℕ → Call → Bool
put_call v c = puts v c.op

abbrev pub put_pending : ℕ → PendingCall → Bool
put_pending v o = puts v o.op

-- how often v was put
abbrev pub times : List Call → List PendingCall → ℕ → ℕ
times done pending v = count_by (put_call v) done + count_by (put_pending v) pending

-- whether a call is a get of v
abbrev pub gets : ℕ → Call → Bool
gets v c = not (is_put c.op) && (value c == v)

-- whether a get returned v
abbrev pub is_got : List Call → ℕ → Bool
is_got done v = nat_le 1 (count_by (gets v) done)

-- THE DISTINCT CLASS

-- v was put once at most, and 0 never: it counts as put at the beginning
pub record IsDistinct (done : List Call) (pending : List PendingCall) (v : ℕ) : Type 0 where
  pub once : times done pending v ≤ 1
  pub zero_never : v ≡ 0 → times done pending v ≡ 0

-- each value that was got is distinct
abbrev pub AreDistinct : List Call → List PendingCall → Type 0
AreDistinct done pending = (v : ℕ) → is_got done v ≡ true → IsDistinct done pending v

abbrev pub IsDistinctHistory : List Event → Type 0
IsDistinctHistory past = AreDistinct (completed_calls past) (pending_calls past)

-- WHAT A FAULT SAYS

abbrev pub put_by : ℕ → ℕ → Call → Bool
put_by v m c = put_call v c && nat_le c.first m

abbrev pub put_pending_by : ℕ → ℕ → PendingCall → Bool
put_pending_by v m o = put_pending v o && nat_le o.first m

-- a get, and no put of what it returned was invoked up to its response
pub record FromNowhere (done : List Call) (pending : List PendingCall) (g : Call) : Type 0 where
  pub known : Contains done g
  pub get : is_put g.op ≡ false
  pub some : value g ≢ 0
  pub none : count_by (put_by (value g) g.last) done +
      count_by (put_pending_by (value g) g.last) pending ≡ 0

-- a get returned 0, which was not put, after a call of another value
pub record IsStale (done : List Call) (pending : List PendingCall) (c g : Call) : Type 0 where
  pub known_c : Contains done c
  pub known_g : Contains done g
  pub other : value c ≢ 0
  pub zero : value g ≡ 0
  pub get : is_put g.op ≡ false
  pub never : times done pending 0 ≡ 0
  pub before : Precedes c g

-- a pending put, with a response at any position
pub record IsPendingPut (pending : List PendingCall) (c : Call) : Type 0 where
  pub o : PendingCall
  pub there : Contains pending o
  pub put : is_put o.op ≡ true
  pub is : completion c.last Done o ≡ c

-- a completed call, or a pending put
abbrev pub IsBegun : List Call → List PendingCall → Call → Type 0
IsBegun done pending c = Contains done c ⊎ IsPendingPut pending c

-- a precedes b, and c precedes d; a and d have one value, b and c another; and each of the two
-- values is distinct, or its two calls are one
pub record IsAlternation (done : List Call) (pending : List PendingCall) (a b c d : Call)
    : Type 0 where
  pub known_a : Contains done a
  pub known_b : IsBegun done pending b
  pub known_c : Contains done c
  pub known_d : IsBegun done pending d
  pub one : value a ≡ value d
  pub another : value b ≡ value c
  pub differ : value a ≢ value b
  pub first : Precedes a b
  pub second : Precedes c d
  pub distinct_a : IsDistinct done pending (value a) ⊎ (a ≡ d)
  pub distinct_b : IsDistinct done pending (value b) ⊎ (b ≡ c)

abbrev pub ShowsOf : List Call → List PendingCall → Fault → Type 0
ShowsOf done pending (Nowhere g) = FromNowhere done pending g
ShowsOf done pending (Stale c g) = IsStale done pending c g
ShowsOf done pending (Alternate a b c d) = IsAlternation done pending a b c d

-- the events show this fault
abbrev pub Shows : List Event → Fault → Type 0
Shows past fault = ShowsOf (completed_calls past) (pending_calls past) fault
