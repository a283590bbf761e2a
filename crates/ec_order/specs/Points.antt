-- Points: the moment at which a call takes effect, and the order of the completed calls by their
-- points.
use Rattle.std.specs.Prelude.{◌≡◌, ◌≢◌, ℕ, ◌+◌, ◌-◌, ◌<◌, ◌≤◌, Bool, ◌==◌, ◌&&◌, nat_le, nat_lt, not, List, zero, suc, [], ◌∷◌, ◌++◌, length, map, if◌then◌else◌, MatchBool}
use Rattle.std.specs.List.{filter}
use Rattle.ec_count.specs.Tables.{Tables}
use Rattle.ec_core.specs.declared.act.Entry.{Entry}
use Rattle.ec_core.specs.Counts.{total, past_at}
use Rattle.ec_core.specs.Rounds.{event_or}
use Rattle.ec_order.specs.declared.call.Call.{Call}
use Rattle.ec_order.specs.declared.placed.Placed.{Placed}
use Rattle.ec_order.specs.Calls.{finished_calls, is_reading}
use Rattle.ec_core.specs.CallLists.{reply_number}

-- POINTS, as a relation over a history in its natural order

-- the least moment from the last round's start to the response at which the total was the answer
pub record IsLeastMoment (h : List Entry) (c : Call) (k : ℕ) : Type 0 where
  pub total_is : total (event_or c.op) (past_at k h) ≡ reply_number c.reply
  pub low : c.round ≤ k
  pub high : k ≤ c.last
  pub least : (j : ℕ) → c.round ≤ j → j < k → total (event_or c.op) (past_at j h) ≢ reply_number c.reply

-- that moment for a read or an await, and its position for any other call
abbrev pub IsPoint : List Entry → Call → ℕ → Type 0
IsPoint h c k = MatchBool (is_reading c.op) (IsLeastMoment h c k) (k ≡ c.last)

-- POINTS, as a function of a past

-- the first k entries of a past
unfoldable pub first_entries : ℕ → List Entry → List Entry
first_entries k [] = []
first_entries k (x ∷ past) = if nat_le k (length past) then first_entries k past else x ∷ past

-- the first of the moments k, k + 1, .. that passes, or the one that is n later
unfoldable pub first_moment : (ℕ → Bool) → ℕ → ℕ → ℕ
first_moment test k zero = k
first_moment test k (suc n) = if test k then k else first_moment test (k + 1) n

-- the point of a read or an await is the first moment from its last round on at which the total was
-- what it returned, and that of any other call is its position
abbrev pub point_of : List Entry → Call → ℕ
point_of past c =
    if is_reading c.op
    then first_moment (λ k. total (event_or c.op) (first_entries k past) == reply_number c.reply) c.round (c.last - c.round)
    else c.last

-- whether a call began before position `to`, and did not end before position `from`
abbrev pub is_between : ℕ → ℕ → Placed → Bool
is_between from to p = nat_lt p.call.first to && nat_le from p.call.last

-- THE ORDER BY POINTS

abbrev pub with_point : List Entry → Call → Placed
with_point past c = record { call = c; point = point_of past c }

abbrev pub reads_at : ℕ → Placed → Bool
reads_at k p = (p.point == k) && is_reading p.call.op

abbrev pub acts_at : ℕ → Placed → Bool
acts_at k p = (p.point == k) && not (is_reading p.call.op)

-- what has its point at moment k: the reads and awaits as they are listed, and then the other call
abbrev pub at_moment : List Placed → ℕ → List Placed
at_moment ps k = filter (reads_at k) ps ++ filter (acts_at k) ps

-- what has its point below moment k, moment by moment
unfoldable pub by_moments : List Placed → ℕ → List Placed
by_moments ps zero = []
by_moments ps (suc k) = by_moments ps k ++ at_moment ps k

-- the completed calls in order of their points. At one point the reads and awaits come before the
-- other call at that position; among themselves they are in order of their responses, as the
-- completed calls are listed
abbrev pub ordered_by_points : Tables → List Entry → List Placed
ordered_by_points t past = by_moments (map (with_point past) (finished_calls t past)) (length past)
