-- Theorems about every accepted history, over the history in its natural order: the oldest entry
-- first, so that `past_at k h` is moment k, at which the first k entries have happened.
use Rattle.std.specs.Prelude.{◌≡◌, ◌⊎◌, ℕ, ◌<◌, ◌≤◌, ◌==◌, true, false, List, reverse, map}
use Rattle.std.specs.List.{AllPairs, Contains, filter}
use Rattle.ec_count.specs.Tables.{Tables, IsDeclared}
use Rattle.ec_core.specs.declared.act.Entry.{Entry}
use Rattle.ec_core.specs.Counts.{total, past_at}
use Rattle.ec_core.specs.Rounds.{event_or}
use Rattle.ec_core.specs.Acceptance.{IsAccepted}
use Rattle.ec_core.specs.Following.{CompletedCall}
use Rattle.ec_core.specs.JoinedLists.{completed_calls_of}
use Rattle.ec_order.specs.declared.call.Call.{Call}
use Rattle.ec_order.specs.declared.placed.Placed.{Placed}
use Rattle.ec_order.specs.Calls.{finished_calls, is_reading}
use Rattle.ec_core.specs.CallLists.{reply_number}
use Rattle.ec_order.specs.Cuts.{IsFinishedCall}
use Rattle.ec_order.specs.Orders.{IsLinearization, calls_in}
use Rattle.ec_order.specs.Points.{IsPoint, point_of, ordered_by_points}
use Rattle.ec_order.specs.Verdicts.{IsLinearizationWithPoints}

-- the completed calls are exactly the calls that the workers' entries are cut into, in order of
-- their responses
pub record AreFinishedCalls (t : Tables) (h : List Entry) (cs : List Call) : Type 0 where
  pub each : (c : Call) → Contains cs c → IsFinishedCall t h c
  pub every : (c : Call) → IsFinishedCall t h c → Contains cs c
  pub by_last : AllPairs (λ (a b : Call). a.last < b.last) cs

abbrev pub CallsAreCutInOrder : Type 0
CallsAreCutInOrder = (t : Tables) (h : List Entry) → IsDeclared t → IsAccepted t (reverse h) → AreFinishedCalls t h (finished_calls t (reverse h))

-- the act and the reply of a call
abbrev pub op_and_reply : Call → CompletedCall
op_and_reply c = record { op = c.op; reply = c.reply }

-- the calls of w among these, as acts and replies
abbrev pub completed_by : ℕ → List Call → List CompletedCall
completed_by w calls = map op_and_reply (filter (λ c. c.worker == w) calls)

-- the completed calls of a worker that protocols speak of, when they say that a history follows
-- them, are those listed here
abbrev pub ProtocolsSpeakOfTheseCalls : Type 0
ProtocolsSpeakOfTheseCalls = (t : Tables) (h : List Entry) (w : ℕ) → IsAccepted t (reverse h)
    → completed_by w (finished_calls t (reverse h)) ≡ completed_calls_of w (reverse h)

-- each completed call has its point
abbrev pub PointsExist : Type 0
PointsExist = (t : Tables) (h : List Entry) (c : Call) → IsDeclared t → IsAccepted t (reverse h)
    → Contains (finished_calls t (reverse h)) c → IsPoint h c (point_of (reverse h) c)

-- a moment between the invocation and the response of a call at which the total of its eventcount
-- was its answer
pub record StoodBetween (h : List Entry) (c : Call) : Type 0 where
  pub moment : ℕ
  pub from_first : c.first ≤ moment
  pub to_last : moment ≤ c.last
  pub total_is : total (event_or c.op) (past_at moment h) ≡ reply_number c.reply

-- the order by points is a linearization of the completed calls, each with its point
abbrev pub OrderByPointsIsGood : Type 0
OrderByPointsIsGood = (t : Tables) (h : List Entry) → IsDeclared t → IsAccepted t (reverse h) → IsLinearizationWithPoints t (reverse h) (ordered_by_points t (reverse h))

-- p comes before q: its point is less; or they have one point, p is a read or an await, and q is none or ended later
abbrev pub ComesFirst : Placed → Placed → Type 0
ComesFirst p q = (p.point < q.point) ⊎ ((p.point ≡ q.point) × (is_reading p.call.op ≡ true) × ((is_reading q.call.op ≡ false) ⊎ (p.call.last < q.call.last)))

-- the list has exactly the completed calls with their points, and each comes before each later one;
-- so no call is there twice, since a call has one point, and nothing comes before itself
pub record AreFinishedCallsByPoints (t : Tables) (h : List Entry) (ps : List Placed) : Type 0 where
  pub each : (p : Placed) → Contains ps p → IsFinishedCall t h p.call × IsPoint h p.call p.point
  pub every : (p : Placed) → IsFinishedCall t h p.call → IsPoint h p.call p.point → Contains ps p
  pub ascends : AllPairs ComesFirst ps

-- the order by points is such a list
abbrev pub OrderByPointsAscends : Type 0
OrderByPointsAscends = (t : Tables) (h : List Entry) → IsDeclared t → IsAccepted t (reverse h) → AreFinishedCallsByPoints t h (ordered_by_points t (reverse h))

-- no other list is one
abbrev pub OrderByPointsIsTheOnlyOne : Type 0
OrderByPointsIsTheOnlyOne = (t : Tables) (h : List Entry) (ps : List Placed) → IsDeclared t → IsAccepted t (reverse h) → AreFinishedCallsByPoints t h ps → ps ≡ ordered_by_points t (reverse h)

-- a linearization of the completed calls, the order by points; and for every completed read or
-- await a moment during the call at which the total was its answer
pub record HasAnOrder (t : Tables) (h : List Entry) : Type 0 where
  pub order : List Call
  pub by_points : order ≡ calls_in (ordered_by_points t (reverse h))
  pub legal : IsLinearization t (reverse h) order
  pub stood : (c : Call) → Contains (finished_calls t (reverse h)) c → is_reading c.op ≡ true → StoodBetween h c

-- the main theorem: whatever the interleaving, every accepted history has a linearization, the
-- order by points
abbrev pub EveryAcceptedHistoryHasAnOrder : Type 0
EveryAcceptedHistoryHasAnOrder = (t : Tables) (h : List Entry) → IsDeclared t → IsAccepted t (reverse h) → HasAnOrder t h
