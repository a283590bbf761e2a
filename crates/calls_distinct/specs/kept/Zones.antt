-- Zones, and their order. Only the proofs and the private contracts use this.
use Rattle.std.specs.Prelude.{◌≡◌, ℕ, ◌≤◌, min, max, true, false, ◌&&◌}
use Rattle.std.specs.Prelude.{nat_lt, List, [], ◌++◌, map, reverse}
use Rattle.std.specs.Prelude.{Option, Some}
use Rattle.std.specs.Prelude.{None, if◌then◌else◌}
use Rattle.std.specs.List.{Contains}
use Rattle.std.specs.List.Sorted.{IsPermutation}
use Rattle.std.specs.declared.cmp.Ordering.{Ordering}
use Rattle.std.specs.Ordering.{nat_cmp, ordering_then}
use Rattle.calls_core.specs.declared.history.Reply.{Reply}
use Rattle.calls_core.specs.declared.history.Reply.TheVariants.{Done}
use Rattle.calls_core.specs.declared.history.PendingCall.{PendingCall}
use Rattle.calls_core.specs.declared.history.Call.{Call}
use Rattle.calls_core.specs.Lists.{Each, EachPair}
use Rattle.calls_core.specs.Linearizations.{answered_calls, Precedes, KeepsOrder}
use Rattle.calls_distinct.specs.declared.zone.Zone.{Zone}
use Rattle.calls_distinct.specs.declared.cell.Fault.{Fault}
use Rattle.calls_distinct.specs.declared.cell.Fault.TheVariants.{Stale, Alternate}
use Rattle.calls_distinct.specs.Cells.{is_put, value_put_or_returned, value, gets, is_got}

-- WHICH CALLS TAKE EFFECT

-- the answer by which each pending put counts as completed
abbrev pub put_answer : PendingCall → Option Reply
put_answer o = if is_put o.op then Some Done else None

-- the completed calls, and all pending puts with a response at t
abbrev pub begun_calls : List Call → List PendingCall → ℕ → List Call
begun_calls done pending t = reverse done ++ answered_calls t put_answer pending

-- a pending put of a value that was got takes effect, and no other pending call
abbrev pub store_answer : List Call → PendingCall → Option Reply
store_answer done o =
    if is_put o.op && is_got done (value_put_or_returned o.op Done) then Some Done else None

abbrev pub all_of : List Call → List PendingCall → ℕ → List Call
all_of done pending t = answered_calls t (store_answer done) pending ++ done

-- ZONES

-- z is a zone, if all are the calls that take effect
pub record IsZone (all done : List Call) (z : Zone) : Type 0 where
  pub known : Contains all z.call
  pub known_early : Contains all z.early
  pub known_late : Contains all z.late
  pub early : value z.early ≡ value z.call
  pub late : value z.late ≡ value z.call
  pub returned : z.early.last ≤ z.call.last
  pub invoked : z.call.first ≤ z.late.first
  pub single : is_got done (value z.call) ≡ false → (z.early ≡ z.call) × (z.late ≡ z.call)
  pub least : is_got done (value z.call) ≡ true →
      Each (λ (c : Call). value c ≡ value z.call → z.early.last ≤ c.last) all
  pub most : is_got done (value z.call) ≡ true →
      Each (λ (c : Call). value c ≡ value z.call → c.first ≤ z.late.first) all

abbrev pub zone_calls : List Zone → List Call
zone_calls zs = map (λ (z : Zone). z.call) zs

-- THEIR ORDER

-- the key of a zone: the earlier of its first response and its last invocation; 0 for a get of 0
abbrev pub key : Zone → ℕ
key z = if gets 0 z.call then 0 else min z.early.last z.late.first

-- within a zone: the put, and then the gets by invocations
abbrev pub rank : Call → ℕ
rank c = if is_put c.op then 0 else max 1 c.first

abbrev pub zone_cmp : Zone → Zone → Ordering
zone_cmp x y =
    ordering_then (nat_cmp (key x) (key y)) (ordering_then (nat_cmp (value x.call) (value y.call))
    (nat_cmp (rank x.call) (rank y.call)))

-- x may be before y: by keys, then by values, then by ranks
pub record NotAfter (x y : Zone) : Type 0 where
  pub keys : key x ≤ key y
  pub values : key x ≡ key y → value x.call ≤ value y.call
  pub ranks : key x ≡ key y → value x.call ≡ value y.call → rank x.call ≤ rank y.call

-- the zones of these calls, in order
pub record AreSorted (all done : List Call) (zs : List Zone) : Type 0 where
  pub zones : Each (IsZone all done) zs
  pub sorted : EachPair NotAfter zs
  pub moved : IsPermutation all (zone_calls zs)

-- two zones in the wrong order: x is sorted before z, but the call of z precedes that of x
pub record AreCrossed (zs : List Zone) (x z : Zone) : Type 0 where
  pub known_x : Contains zs x
  pub known_z : Contains zs z
  pub sorted : NotAfter x z
  pub crossed : Precedes z.call x.call

-- the fault that they show
abbrev pub crossing_fault : Zone → Zone → Fault
crossing_fault x z =
    if gets 0 x.call then Stale z.call x.call else Alternate x.early z.late z.call x.call

abbrev pub KeepZoneOrder : Zone → Zone → Type 0
KeepZoneOrder x z = KeepsOrder x.call z.call

abbrev pub IsCrossing : List Zone → Option (Zone × Zone) → Type 0
IsCrossing zs None = EachPair KeepZoneOrder zs
IsCrossing zs (Some p) = AreCrossed zs p.0 p.1

-- a zone whose call has the latest invocation
abbrev pub IsLatest : List Zone → Option Zone → Type 0
IsLatest zs None = zs ≡ []
IsLatest zs (Some x) = Contains zs x × Each (λ (z : Zone). z.call.first ≤ x.call.first) zs

abbrev pub latest : Option Zone → Zone → Zone
latest None z = z
latest (Some x) z = if nat_lt x.call.first z.call.first then z else x
