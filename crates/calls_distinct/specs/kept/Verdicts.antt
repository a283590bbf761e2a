-- The grouped calls of a history, and its verdict. Only the proofs and the private contracts use
-- this.
use Rattle.std.specs.Prelude.{ℕ, List, Option, None, Some}
use Rattle.calls_core.specs.declared.history.Kind.{Kind}
use Rattle.calls_core.specs.declared.history.Event.{Event}
use Rattle.calls_core.specs.declared.history.Call.{Call}
use Rattle.calls_core.specs.Histories.{completed_calls, pending_calls}
use Rattle.calls_core.specs.Outcomes.{IsOrderOf, HasOrderOf}
use Rattle.calls_distinct.specs.declared.cell.Fault.{Fault}
use Rattle.calls_distinct.specs.declared.zone.GroupedCall.{GroupedCall}
use Rattle.calls_distinct.specs.declared.verdict.Verdict.{Verdict}
use Rattle.calls_distinct.specs.declared.verdict.Verdict.TheVariants.{Ordered, Faulty}
use Rattle.calls_distinct.specs.Cells.{IsStore, Shows}
use Rattle.calls_distinct.specs.Outcomes.{IsRepeated}
use Rattle.calls_distinct.specs.kept.Zones.{begun_calls, zone_calls}
use Rattle.calls_distinct.specs.kept.Groups.{AreGrouped}

abbrev pub calls_of_history : List Event → ℕ → List Call
calls_of_history past t = begun_calls (completed_calls past) (pending_calls past) t

abbrev pub AreGroupedOf : List Event → ℕ → List GroupedCall → Type 0
AreGroupedOf past t zs = AreGrouped (calls_of_history past t) (calls_of_history past t) zs

-- a value that the events show to be repeated, and the position of a put of it
abbrev pub IsRepeatedIn : List Event → ℕ × ℕ → Type 0
IsRepeatedIn past p = IsRepeated (completed_calls past) (pending_calls past) p.0 p.1

abbrev pub IsVerdict : List Event → ℕ → Verdict → Type 0
IsVerdict past t (Ordered zs) =
    (kind : Kind) → IsStore kind → IsOrderOf kind past t (zone_calls zs.items)
IsVerdict past t (Faulty fault) = Shows past fault

-- a fault of these events, or none if they have a linearization
abbrev pub IsFaultOf : List Event → Option Fault → Type 0
IsFaultOf past None = (kind : Kind) → IsStore kind → HasOrderOf kind past
IsFaultOf past (Some fault) = Shows past fault
