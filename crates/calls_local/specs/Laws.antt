-- Theorems about every history.
use Rattle.std.specs.Prelude.{◌≡◌, ◌↔◌, ℕ, ◌≤◌, List, [], ◌∷◌, ◌++◌, map, Some, slice_get}
use Rattle.std.specs.List.{AllPairs}
use Rattle.calls_core.specs.declared.history.Kind.{Kind}
use Rattle.calls_core.specs.declared.history.Event.{Event}
use Rattle.calls_core.specs.declared.history.PendingCall.{PendingCall}
use Rattle.calls_core.specs.declared.history.Call.{Call}
use Rattle.calls_core.specs.declared.history.Placed.{Placed}
use Rattle.calls_core.specs.Lists.{Each, EachPair}
use Rattle.calls_core.specs.Histories.{clock, IsHistory, IsHistoryOf, completed_calls}
use Rattle.calls_core.specs.Histories.{pending_calls, part}
use Rattle.calls_core.specs.Linearizations.{IsLegalHistory, IsRun, start, IsLinearOrder}
use Rattle.calls_core.specs.Linearizations.{IsAnsweredLinearization, IsAnsweredLinearizationOn}
use Rattle.calls_core.specs.Linearizations.{calls_on, pending_on, KeepsOrder}
use Rattle.calls_core.specs.Completions.{IsLinearization, IsLinearizable, IsLinearizableOn}
use Rattle.calls_core.specs.Completions.{known_at}
use Rattle.calls_core.specs.Calls.{AreCalls, AreCallsOf}
use Rattle.calls_core.specs.Outcomes.{HasOrderOf}
use Rattle.calls_core.specs.Points.{placed_one, by_points, merge_calls, IsPlacedOrder, placed_on}
use Rattle.calls_core.specs.Points.{Within, NoLater, calls_of}

-- what holds of the completed and pending calls of every history
abbrev pub HistoriesHaveCalls : Type 0
HistoriesHaveCalls = (kinds : List Kind) (past : List Event) → IsHistory kinds past
    → AreCalls kinds (completed_calls past) (pending_calls past) (clock past)

-- the events of the calls of one object are a history, and its calls are those of that object
abbrev pub APartIsAHistory : Type 0
APartIsAHistory = (kinds : List Kind) (k : ℕ) (past : List Event) → IsHistory kinds past
    → IsHistory kinds (part k past)
    × (completed_calls (part k past) ≡ calls_on k (completed_calls past))
    × (pending_calls (part k past) ≡ pending_on k (pending_calls past))
    × (clock (part k past) ≤ clock past)
    × ((kind : Kind) → slice_get kinds k ≡ Some kind → IsHistoryOf kind (part k past))

-- a linearization, restricted to one object, is a linearization of that object's calls
abbrev pub PartsAreLinearized : Type 0
PartsAreLinearized = (kinds : List Kind) (past : List Event) (cs : List Call)
    → IsAnsweredLinearization kinds past cs → (k : ℕ) → IsAnsweredLinearizationOn kinds k past
    (calls_on k cs)

-- a list that is a linearization of each object's calls, if restricted to them, is one of all calls
-- once it is merged by points; the calls of each object keep their order
abbrev pub PartsMakeWhole : Type 0
PartsMakeWhole = (kinds : List Kind) (past : List Event) (cs : List Call) → IsHistory kinds past
    → ((k : ℕ) → IsAnsweredLinearizationOn kinds k past (calls_on k cs))
    → IsAnsweredLinearization kinds past (merge_calls cs) × ((k : ℕ)
    → calls_on k (merge_calls cs) ≡ calls_on k cs)

-- a linearization by later responses is one by answers
abbrev pub ResponsesBecomeAnswers : Type 0
ResponsesBecomeAnswers = (kinds : List Kind) (past : List Event) (cs : List Call)
    → IsHistory kinds past → IsLinearization kinds past cs
    → IsAnsweredLinearization kinds past (map (known_at (clock past)) cs)

-- and a linearization by answers is one by later responses, which count as ones at the end
abbrev pub AnswersBecomeResponses : Type 0
AnswersBecomeResponses = (kinds : List Kind) (past : List Event) (cs : List Call)
    → IsHistory kinds past → IsAnsweredLinearization kinds past cs
    → (ds : List Call) × IsLinearization kinds past ds × (map (known_at (clock past)) ds ≡ cs)

-- a history is linearizable exactly when the events of each object are (Herlihy and Wing's
-- locality)
abbrev pub Locality : Type 0
Locality = (kinds : List Kind) (past : List Event) → IsHistory kinds past
    → IsLinearizable kinds past ↔ ((k : ℕ) → IsLinearizableOn kinds k past)

-- the same by answers: exactly when the part of each object has an order of its kind
abbrev pub LinearizableByOrders : Type 0
LinearizableByOrders = (kinds : List Kind) (past : List Event) → IsHistory kinds past
    → IsLinearizable kinds past ↔ ((k : ℕ) (kind : Kind) → slice_get kinds k ≡ Some kind
    → HasOrderOf kind (part k past))

-- the same for a history of one object
abbrev pub OneObject : Type 0
OneObject = (kind : Kind) (past : List Event) → IsHistory (kind ∷ []) past
    → IsLinearizable (kind ∷ []) past ↔ HasOrderOf kind past

-- a prefix of a linearizable history is linearizable
abbrev pub APrefixIsLinearizable : Type 0
APrefixIsLinearizable = (kinds : List Kind) (late past : List Event)
    → IsHistory kinds (late ++ past) → IsLinearizable kinds (late ++ past)
    → IsLinearizable kinds past

-- in an order of the calls of one object each call has a point between its invocation and its
-- response, and the points never fall
abbrev pub OrderHasPoints : Type 0
OrderHasPoints = (kind : Kind) (m : ℕ → ℕ) (done : List Call) (pending : List PendingCall) (t : ℕ)
    (cs : List Call) → AreCallsOf kind done pending t → IsLinearOrder (IsLegalHistory m) done
    pending t cs
    → IsPlacedOrder (IsLegalHistory m) done pending t (placed_one 0 cs)

-- the same for the calls of object k among those of many
abbrev pub OrderOnHasPoints : Type 0
OrderOnHasPoints = (kinds : List Kind) (k : ℕ) (done : List Call) (pending : List PendingCall)
    (t : ℕ) (cs : List Call) → AreCalls kinds done pending t
    → IsLinearOrder (IsLegalHistory (start kinds k)) (calls_on k done) (pending_on k pending) t cs
    → IsPlacedOrder (IsLegalHistory (start kinds k)) (calls_on k done) (pending_on k pending) t
    (placed_one 0 cs)

-- and the converse: if each call has a point between its invocation and its response, and the
-- points never fall, the calls keep the real-time order
abbrev pub PointsKeepTheOrder : Type 0
PointsKeepTheOrder = (ps : List Placed) → Each Within ps → EachPair NoLater ps
    → AllPairs KeepsOrder (calls_of ps)

-- a list that has a placed order for each object, sorted by points, is a placed order of all calls
abbrev pub PlacedPartsMakeWhole : Type 0
PlacedPartsMakeWhole = (kinds : List Kind) (done : List Call) (pending : List PendingCall) (t : ℕ)
    (ps : List Placed)
    → ((k : ℕ) → IsPlacedOrder (IsLegalHistory (start kinds k)) (calls_on k done)
    (pending_on k pending) t (placed_on k ps))
    → IsPlacedOrder (IsRun (start kinds)) done pending t (by_points ps)
