-- What the definitions mean, in order of time: entry i, counted from 0, of a history h happens at moment i, after the
-- first i entries.
use Rattle.std.specs.Prelude.{◌≡◌, ◌↔◌, ℕ, ◌+◌, ◌-◌, ◌%◌, ◌<◌, ◌≤◌, ◌⊎◌, Bool, true, false, List, [], length, reverse, take, Some, Ok, slice_get, slice_index_or, count_by, ◌&&◌, Option, None, if◌then◌else◌, ◌∷◌, ◌++◌}
use Rattle.ec_count.specs.Tables.{Tables, IsDeclared, signallers, may_hand}
use Rattle.ec_count.specs.Members.{has_repeat}
use Rattle.ec_core.specs.declared.act.Entry.{Entry}
use Rattle.ec_core.specs.declared.act.TheConstants.{VALUE_MAX}
use Rattle.ec_core.specs.Counts.{past_at, hand_of, signallers_at, signaller_at, total, component_total, issued, cell_value, is_advance, is_ticket, sum_to, is_place, component_at, put_in}
use Rattle.ec_core.specs.Calls.{CallSoFar, call_with, under_way}
use Rattle.ec_core.specs.CallsInOrder.{IsUnderWay, is_own_at, own_moments}
use Rattle.ec_core.specs.Rounds.{component_count, sum_read, round_sum, round_start, read_event, IsPastOfEach, EachIsPastOf}
use Rattle.ec_core.specs.Acceptance.{answer_of, IsAccepted}
use Rattle.ec_core.specs.Silence.{IsSilent, without}
use Rattle.ec_core.specs.Values.{TellsAtMost}
use Rattle.ec_core.specs.Procedures.{IsReply, IsWritten, IsRestAfter}
use Rattle.std.specs.Option.{option_map_or, option_and_then}
use Rattle.ec_core.specs.declared.act.Act.TheVariants.{Await, Go}
use Rattle.ec_core.specs.declared.act.Reply.TheVariants.{Pending}
use Rattle.ec_core.specs.Progress.{Progress}
use Rattle.ec_core.specs.Standing.{progress_of}
use Rattle.ec_core.specs.declared.act.Act.{Act}
use Rattle.ec_core.specs.declared.act.Reply.{Reply}
use Rattle.ec_core.specs.Following.{CompletedCall, Rule, Follow, BreaksAt}
use Rattle.ec_core.specs.JoinedLists.{completed_calls_of, calls_on, going_on, op_of, SpeaksOf, IsUnbroken, IsJoined, IsSideBySide}

-- 1 if entry i advances component c of e: it advances e, and its worker signals c at moment i
abbrev pub advances_at : Tables → ℕ → ℕ → List Entry → ℕ → ℕ
advances_at t e c h i = option_map_or (λ (x : Entry). if is_advance e x.act && is_place c (component_at t e (past_at i h) x.worker) then 1 else 0) (slice_get h i) 0

-- the worker to which entry i transfers component c of e: the entry is a hand of e, and its worker
-- signals c at moment i
abbrev pub handed_at : Tables → ℕ → ℕ → List Entry → ℕ → Option ℕ
handed_at t e c h i =
    option_and_then (λ (x : Entry). if is_place c (component_at t e (past_at i h) x.worker) then hand_of e x.act else None) (slice_get h i)

-- the value that entry i puts into cell x
abbrev pub put_at : ℕ → List Entry → ℕ → Option ℕ
put_at x h i = option_and_then (λ (y : Entry). put_in x y.act) (slice_get h i)

-- v was the last value put into cell x before moment k: by an entry i, and by none after it
pub record IsLastPut (x : ℕ) (h : List Entry) (k v : ℕ) : Type 0 where
  pub i : ℕ
  pub before : i < k
  pub put : put_at x h i ≡ Some v
  pub none_since : (j : ℕ) → i < j → j < k → put_at x h j ≡ None

-- component c of e was last transferred to the signaller before moment k: by an entry i, and by
-- none after it
pub record IsLastHand (t : Tables) (e c : ℕ) (h : List Entry) (k : ℕ) (signaller : Option ℕ) : Type 0 where
  pub i : ℕ
  pub receiver : ℕ
  pub before : i < k
  pub hand : handed_at t e c h i ≡ Some receiver
  pub none_since : (j : ℕ) → i < j → j < k → handed_at t e c h j ≡ None
  pub is : signaller ≡ Some receiver

-- component c of e was not transferred before moment k, and the signaller is the declared one
pub record IsUnhanded (t : Tables) (e c : ℕ) (h : List Entry) (k : ℕ) (signaller : Option ℕ) : Type 0 where
  pub none : (i : ℕ) → i < k → handed_at t e c h i ≡ None
  pub is : signaller ≡ signaller_at t e [] c

-- nothing was put into cell x before moment k, and v is 0
pub record IsUntouched (x : ℕ) (h : List Entry) (k v : ℕ) : Type 0 where
  pub none : (i : ℕ) → i < k → put_at x h i ≡ None
  pub zero : v ≡ 0

-- COUNTS, CALLS AND ROUNDS

-- the total of e at moment k is the number of advances of e among the first k entries
abbrev pub TotalsCountAdvances : Type 0
TotalsCountAdvances = (e k : ℕ) (h : List Entry) → total e (past_at k h) ≡ count_by (λ x. is_advance e x.act) (take k h)

-- component c is the number of entries before moment k that advance e and whose worker signalled c at its own moment
abbrev pub ComponentsCountAdvances : Type 0
ComponentsCountAdvances = (t : Tables) (e c k : ℕ) (h : List Entry) → component_total t e c (past_at k h) ≡ sum_to (advances_at t e c h) k

-- the tickets of q drawn by moment k are the ticket entries among the first k
abbrev pub IssuedCountsTickets : Type 0
IssuedCountsTickets = (q k : ℕ) (h : List Entry) → issued q (past_at k h) ≡ count_by (λ x. is_ticket q x.act) (take k h)

-- a cell holds the value last put into it, and 0 if none was
abbrev pub CellsHoldTheLastPut : Type 0
CellsHoldTheLastPut = (x k : ℕ) (h : List Entry) → IsLastPut x h k (cell_value x (past_at k h)) ⊎ IsUntouched x h k (cell_value x (past_at k h))

-- a call of w is pending at moment k exactly if it began, was continued and has not ended
abbrev pub CallsUnderWayAreCutInOrder : Type 0
CallsUnderWayAreCutInOrder = (w k : ℕ) (h : List Entry) (call : CallSoFar) → (under_way w (past_at k h) ≡ Some call) ↔ IsUnderWay w h k call

-- in an accepted history it is a read or an await of a declared eventcount
abbrev pub CallsUnderWayRead : Type 0
CallsUnderWayRead = (t : Tables) (w k : ℕ) (h : List Entry) (call : CallSoFar) → IsAccepted t (reverse h) → under_way w (past_at k h) ≡ Some call
    → (e : ℕ) × (read_event call.op ≡ Some e) × (e < length t.events)

-- the sum of components 0 to n - 1, read at the newest n of a call's moments: component c as it was at its own moment,
-- n - 1 - c before the newest
abbrev pub RoundsAddTheirComponents : Type 0
RoundsAddTheirComponents = (t : Tables) (e n : ℕ) (moments : List (List Entry)) → n ≤ length moments
    → sum_read t e n moments ≡ sum_to (λ c. component_total t e c (slice_index_or moments (n - 1 - c) [])) n

-- the components of an eventcount add up to its total
abbrev pub ComponentsAddUp : Type 0
ComponentsAddUp = (t : Tables) (e k : ℕ) (h : List Entry) → IsAccepted t (reverse h) → sum_to (λ c. component_total t e c (past_at k h)) (component_count t e) ≡ total e (past_at k h)

-- from one moment to the next a total never falls and rises by at most one
abbrev pub TotalsRiseByOne : Type 0
TotalsRiseByOne = (e k : ℕ) (h : List Entry) → (total e (past_at k h) ≤ total e (past_at (k + 1) h)) × (total e (past_at (k + 1) h) ≤ total e (past_at k h) + 1)

-- no component, and no number of tickets drawn, exceeds the limit
abbrev pub CountsKeepTheLimit : Type 0
CountsKeepTheLimit = (t : Tables) (k : ℕ) (h : List Entry) → IsAccepted t (reverse h)
    → ((e c : ℕ) → component_total t e c (past_at k h) ≤ t.limit) × ((q : ℕ) → issued q (past_at k h) ≤ t.limit)

-- a list of reversed histories, as many as e has components, none of them earlier than early or
-- later than late: the sum of their components is at least the total at early and at most that at
-- late
abbrev pub RoundsLieBetween : Type 0
RoundsLieBetween = (t : Tables) (e : ℕ) (early late : List Entry) (moments : List (List Entry)) → IsAccepted t early → IsAccepted t late
    → length moments ≡ component_count t e → IsPastOfEach early moments → EachIsPastOf moments late
    → (total e early ≤ sum_read t e (component_count t e) moments) × (sum_read t e (component_count t e) moments ≤ total e late)

-- if entry k ends a round of a call that reads e, the round's sum is at least the total at the moment of the round's
-- first entry and at most the total at moment k
abbrev pub RoundsOfCallsLieBetween : Type 0
RoundsOfCallsLieBetween = (t : Tables) (h : List Entry) (k e : ℕ) (x : Entry) (call : CallSoFar) → IsDeclared t → IsAccepted t (reverse h)
    → slice_get h k ≡ Some x → call_with x (past_at k h) ≡ Some call → read_event call.op ≡ Some e → length call.moments % component_count t e ≡ 0
    → (total e (past_at (round_start t e call.moments) h) ≤ round_sum t e call.moments) × (round_sum t e call.moments ≤ total e (past_at k h))

-- every prefix of an accepted history is accepted
abbrev pub PrefixesAreAccepted : Type 0
PrefixesAreAccepted = (t : Tables) (k : ℕ) (h : List Entry) → IsAccepted t (reverse h) → IsAccepted t (past_at k h)

-- a history is accepted exactly if each entry has the answer to its act at its own moment
abbrev pub AcceptedMeansAnswered : Type 0
AcceptedMeansAnswered = (t : Tables) (h : List Entry)
    → IsAccepted t (reverse h) ↔ ((k : ℕ) (x : Entry) → slice_get h k ≡ Some x → answer_of t (past_at k h) x.worker x.act ≡ Ok x.reply)

-- no number in an accepted history is above the greatest value
abbrev pub NumbersAreSmall : Type 0
NumbersAreSmall = (t : Tables) (h : List Entry) (k : ℕ) (x : Entry) → IsDeclared t → IsAccepted t (reverse h) → slice_get h k ≡ Some x
    → TellsAtMost VALUE_MAX x.reply

-- each reply in an accepted history is of a kind that its act can get
abbrev pub RepliesFitTheirActs : Type 0
RepliesFitTheirActs = (t : Tables) (h : List Entry) (k : ℕ) (x : Entry) → IsDeclared t → IsAccepted t (reverse h) → slice_get h k ≡ Some x
    → IsReply x.act x.reply

-- in an accepted history the signallers of an eventcount at each moment are different workers, as many as it has components
abbrev pub SignallersAreDifferent : Type 0
SignallersAreDifferent = (t : Tables) (e k : ℕ) (h : List Entry) → IsDeclared t → IsAccepted t (reverse h)
    → (has_repeat (signallers_at t e (past_at k h)) ≡ false) × (length (signallers_at t e (past_at k h)) ≡ component_count t e)

-- in an accepted history a fixed eventcount keeps its signallers at every moment
abbrev pub FixedEventsKeepTheirSignallers : Type 0
FixedEventsKeepTheirSignallers = (t : Tables) (e k : ℕ) (h : List Entry) → IsAccepted t (reverse h) → may_hand t e ≡ false
    → signallers_at t e (past_at k h) ≡ signallers t e

-- the signaller of a component at moment k is the receiver of its last hand before k, or the
-- declared one if there is none
abbrev pub SignallersAreTheLastReceivers : Type 0
SignallersAreTheLastReceivers = (t : Tables) (e c k : ℕ) (h : List Entry)
    → IsLastHand t e c h k (signaller_at t e (past_at k h) c) ⊎ IsUnhanded t e c h k (signaller_at t e (past_at k h) c)

-- if entry k is a hand, each total, each component, each number of tickets and each cell is after it as before
abbrev pub HandsChangeNoNumber : Type 0
HandsChangeNoNumber = (t : Tables) (h : List Entry) (k e b : ℕ) (x : Entry) → slice_get h k ≡ Some x → hand_of e x.act ≡ Some b
    → ((f : ℕ) → total f (past_at (k + 1) h) ≡ total f (past_at k h))
    × ((f c : ℕ) → component_total t f c (past_at (k + 1) h) ≡ component_total t f c (past_at k h))
    × ((q : ℕ) → issued q (past_at (k + 1) h) ≡ issued q (past_at k h))
    × ((y : ℕ) → cell_value y (past_at (k + 1) h) ≡ cell_value y (past_at k h))

-- an accepted history without the entries of some read-only workers is accepted, and each other
-- entry has the answer to its act at the moment that it then has
abbrev pub OthersStand : Type 0
OthersStand = (t : Tables) (s : ℕ → Bool) (h : List Entry) → IsAccepted t (reverse h) → ((w : ℕ) → s w ≡ true → IsSilent t h w)
    → IsAccepted t (reverse (without s h))
    × ((k : ℕ) (x : Entry) → slice_get h k ≡ Some x → s x.worker ≡ false → answer_of t (reverse (without s (take k h))) x.worker x.act ≡ Ok x.reply)

-- AWAITS WHOSE LAST ROUND FELL SHORT

-- an await of v on e by w has just ended a round that fell short, at moment k: w's entry at first
-- began it, and all of w's entries after that one continued it, each with the reply Pending; those
-- before the one at round make whole rounds; those from it on, up to w's latest one, make one round
-- more, an entry for each component; and the sum of these components, each as it was at its own
-- entry, is below v
pub record HasJustFallenShort (t : Tables) (w : ℕ) (h : List Entry) (k e v : ℕ) : Type 0 where
  pub first : ℕ
  pub opens : slice_get h first ≡ Some (record { worker = w; act = Await e v; reply = Pending })
  pub goes : (i : ℕ) (x : Entry) → first < i → i < k → slice_get h i ≡ Some x → x.worker ≡ w → (x.act ≡ Go) × (x.reply ≡ Pending)
  pub round : ℕ
  pub own : is_own_at w h round ≡ true
  pub from_first : first ≤ round
  pub before : round < k
  pub whole : length (own_moments w h first round) % component_count t e ≡ 0
  pub one : length (own_moments w h round k) ≡ component_count t e
  pub short : round_sum t e (own_moments w h round k) < v

-- a pending await reads the first component next exactly if it has just ended a round that fell
-- short; and then the sum that is stored with it is 0
abbrev pub IndexZeroMeansFallenShort : Type 0
IndexZeroMeansFallenShort = (t : Tables) (h : List Entry) (w k e v sum : ℕ) → IsDeclared t → IsAccepted t (reverse h)
    → (progress_of t w (past_at k h) ≡ Some (record { op = Await e v; index = 0; sum = sum })) ↔ (HasJustFallenShort t w h k e v × (sum ≡ 0))

-- a pending read never reads the first component next, so a call that does is an await
abbrev pub IndexZeroIsAnAwait : Type 0
IndexZeroIsAnAwait = (t : Tables) (h : List Entry) (w k : ℕ) (progress : Progress) → IsDeclared t → IsAccepted t (reverse h)
    → progress_of t w (past_at k h) ≡ Some progress → progress.index ≡ 0 → (e : ℕ) × (v : ℕ) × (progress.op ≡ Await e v)

-- CONFORMANCE

-- each prefix of a history that conforms does so
abbrev pub FollowingHoldsOfPrefixes : Type 0
FollowingHoldsOfPrefixes = (rules : ℕ → Rule) (k : ℕ) (h : List Entry) → Follow rules (reverse h) → Follow rules (past_at k h)

-- a history conforms, or an entry of it is the first violation
abbrev pub FollowsOrBreaks : Type 0
FollowsOrBreaks = (rules : ℕ → Rule) (h : List Entry) → Follow rules (reverse h) ⊎ ((w : ℕ) × (k : ℕ) × BreaksAt rules h w k)

-- exactly the prefixes of at most k entries conform, if entry k is the first violation
abbrev pub BreaksAreFirst : Type 0
BreaksAreFirst = (rules : ℕ → Rule) (h : List Entry) (w k : ℕ) → BreaksAt rules h w k
    → (i : ℕ) → (i ≤ k → Follow rules (past_at i h)) × (k < i → Follow rules (past_at i h) → ⊥)

-- if each worker's rule concerns its calls on a group: a history conforms exactly if each worker's
-- completed calls on the group are whole lists joined end to end, then a prefix of one more, in
-- which its pending call, if that is on the group, comes next
abbrev pub FollowingMeansJoinedLists : Type 0
FollowingMeansJoinedLists = (t : Tables) (rules : ℕ → Rule) (is_on : ℕ → Act → Bool) (h : List Entry) → IsDeclared t → IsAccepted t (reverse h)
    → ((w : ℕ) → SpeaksOf (rules w) (is_on w))
    → Follow rules (reverse h)
    ↔ ((w : ℕ) → IsJoined (rules w) (calls_on (is_on w) (completed_calls_of w (reverse h))) (going_on (is_on w) (under_way w (reverse h))))

-- if within a list each call of the worker has to be the list's: a history conforms exactly if all
-- completed calls of each worker are whole lists with calls on other objects between them, then a
-- prefix of one more list, in which its pending call comes next
abbrev pub FollowingMeansUnbrokenLists : Type 0
FollowingMeansUnbrokenLists = (t : Tables) (rules : ℕ → Rule) (is_on : ℕ → Act → Bool) (h : List Entry) → IsDeclared t → IsAccepted t (reverse h)
    → ((w : ℕ) → IsUnbroken (rules w) (is_on w))
    → Follow rules (reverse h)
    ↔ ((w : ℕ) → IsSideBySide (rules w) (is_on w) (completed_calls_of w (reverse h)) (op_of (under_way w (reverse h))))

-- if the calls that were asked for and answered so far are a prefix of the written list, and what
-- is still asked for is the rest, then this is so after one more call and its reply
abbrev pub AnsweredCallsAreWritten : Type 0
AnsweredCallsAreWritten = (list rest after : List CompletedCall → Option Act) (done : List CompletedCall) (op : Act) (reply : Reply)
    → IsWritten list done → IsRestAfter list done rest → rest [] ≡ Some op
    → ((calls : List CompletedCall)
    → after calls ≡ rest (record { op = op; reply = reply } ∷ calls))
    → IsWritten list (done ++ record { op = op; reply = reply } ∷ []) × IsRestAfter list (done ++ record { op = op; reply = reply } ∷ []) after
