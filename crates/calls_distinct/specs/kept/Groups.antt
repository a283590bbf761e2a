-- The calls, grouped by value. Only the proofs and the private contracts use this.
use Rattle.std.specs.Prelude.{◌≡◌, ℕ, ◌+◌, ◌<◌, ◌≤◌, Bool, true, false, ◌&&◌, ◌||◌, not}
use Rattle.std.specs.Prelude.{◌==◌, nat_lt, count_by, List, map, Option, Some, None}
use Rattle.std.specs.Prelude.{if◌then◌else◌}
use Rattle.std.specs.List.{Contains, filter}
use Rattle.calls_core.specs.declared.history.Call.{Call}
use Rattle.calls_core.specs.Lists.{Each}
use Rattle.calls_distinct.specs.declared.zone.Group.{Group}
use Rattle.calls_distinct.specs.declared.zone.GroupedCall.{GroupedCall}
use Rattle.calls_distinct.specs.declared.zone.Zone.{Zone}
use Rattle.calls_distinct.specs.Cells.{is_put, value, put_call, is_got}
use Rattle.calls_distinct.specs.Outcomes.{is_put_at}

-- g is the group of value v, of the calls seen so far
pub record IsGroup (seen : List Call) (v : ℕ) (g : Group) : Type 0 where
  pub got : g.got ≡ is_got seen v
  pub puts : g.puts ≡ count_by (put_call v) seen
  pub put : 0 < g.puts → 0 < count_by (is_put_at v g.put) seen
  pub known_early : Contains seen g.early
  pub known_late : Contains seen g.late
  pub early : value g.early ≡ v
  pub late : value g.late ≡ v
  pub least : Each (λ (c : Call). value c ≡ v → g.early.last ≤ c.last) seen
  pub most : Each (λ (c : Call). value c ≡ v → c.first ≤ g.late.first) seen

abbrev pub earlier : Call → Call → Call
earlier a b = if nat_lt b.last a.last then b else a

abbrev pub later : Call → Call → Call
later a b = if nat_lt a.first b.first then b else a

-- the group with one more call
abbrev pub with_call : Group → Call → Group
with_call g c =
    record {
      got = not (is_put c.op) || g.got;
      puts = if is_put c.op then g.puts + 1 else g.puts;
      put = if is_put c.op then c.first else g.put;
      early = earlier g.early c;
      late = later g.late c;
    }

abbrev pub IsGroupOf : List Call → ℕ → Option Group → Type 0
IsGroupOf seen v None = Each (λ (c : Call). value c ≡ v → ⊥) seen
IsGroupOf seen v (Some g) = IsGroup seen v g

abbrev pub AreGroups : List Call → (ℕ → Option Group) → Type 0
AreGroups seen group_at = (v : ℕ) → IsGroupOf seen v (group_at v)

abbrev pub grouped_calls : List GroupedCall → List Call
grouped_calls zs = map (λ (z : GroupedCall). z.call) zs

-- these calls, each with its group among all calls
pub record AreGrouped (all cs : List Call) (zs : List GroupedCall) : Type 0 where
  pub calls : grouped_calls zs ≡ cs
  pub groups : Each (λ (z : GroupedCall). IsGroup all (value z.call) z.group) zs

-- TESTS

-- a get of a value that was put twice, or of 0, which was put
abbrev pub repeats : GroupedCall → Bool
repeats z = not (is_put z.call.op) &&
    (nat_lt 1 z.group.puts || ((value z.call == 0) && nat_lt 0 z.group.puts))

-- a get of a value that was not put before its response
abbrev pub lacks_put : GroupedCall → Bool
lacks_put z = (not (is_put z.call.op) && not (value z.call == 0)) &&
    ((z.group.puts == 0) || nat_lt z.call.last z.group.put)

-- a call that passes a test, or none does
abbrev pub IsFirst : (GroupedCall → Bool) → List GroupedCall → Option GroupedCall → Type 0
IsFirst test zs None = Each (λ (z : GroupedCall). test z ≡ false) zs
IsFirst test zs (Some z) = Contains zs z × (test z ≡ true)

-- ZONES

-- a completed call, or a pending put of a value that was got
abbrev pub takes_effect : ℕ → GroupedCall → Bool
takes_effect t z = nat_lt z.call.last t || z.group.got

abbrev pub zone_of : GroupedCall → Zone
zone_of z =
    record {
      call = z.call;
      early = if z.group.got then z.group.early else z.call;
      late = if z.group.got then z.group.late else z.call;
    }

abbrev pub zones_of : ℕ → List GroupedCall → List Zone
zones_of t zs = map zone_of (filter (takes_effect t) zs)
