-- Which orders of the completed calls are linearizations.
use Rattle.std.specs.Prelude.{◌<◌, List, map}
use Rattle.std.specs.List.{AllPairs}
use Rattle.std.specs.List.Sorted.{IsPermutation}
use Rattle.ec_count.specs.Tables.{Tables}
use Rattle.ec_core.specs.declared.act.Entry.{Entry}
use Rattle.ec_order.specs.declared.call.Call.{Call}
use Rattle.ec_order.specs.declared.placed.Placed.{Placed}
use Rattle.ec_order.specs.Calls.{finished_calls}
use Rattle.ec_order.specs.Sequential.{zero_state, IsLegalHistory}

-- a ended before b began
abbrev pub Precedes : Call → Call → Type 0
Precedes a b = a.last < b.first

-- a linearization: the completed calls, each once and no others; none comes after one that it
-- precedes in real-time order; and they are a legal sequential history
pub record IsLinearization (t : Tables) (past : List Entry) (cs : List Call) : Type 0 where
  pub each_once : IsPermutation (finished_calls t past) cs
  pub in_order : AllPairs (λ a b. Precedes b a → ⊥) cs
  pub run : IsLegalHistory zero_state cs

abbrev pub calls_in : List Placed → List Call
calls_in ps = map (λ (p : Placed). p.call) ps
