-- Linearization points: when each call takes effect.
use Rattle.std.specs.Prelude.{ℕ, ◌+◌, ◌<◌, ◌≤◌, ◌==◌, nat_le, max, List, [], ◌∷◌, map}
use Rattle.std.specs.Prelude.{if◌then◌else◌}
use Rattle.std.specs.List.{filter}
use Rattle.calls_core.specs.declared.history.Reply.{Reply}
use Rattle.calls_core.specs.declared.history.Call.{Call}
use Rattle.calls_core.specs.declared.history.PendingCall.{PendingCall}
use Rattle.calls_core.specs.declared.history.Placed.{Placed}
use Rattle.calls_core.specs.Lists.{Each, EachPair}
use Rattle.calls_core.specs.Linearizations.{set_at, IsLinearOrder}

-- the point of a call is right after the latest invocation among those of its object's calls up to
-- it. s has the point of the last call of each object
abbrev pub with_points : (ℕ → ℕ) → List Call → List Placed
with_points s [] = []
with_points s (c ∷ cs) =
    record { point = max (s c.object) (c.first + 1); call = c } ∷
    with_points (set_at c.object (max (s c.object) (c.first + 1)) s) cs

-- the same for the calls of one object, if n is the point of the call before them
abbrev pub placed_one : ℕ → List Call → List Placed
placed_one n [] = []
placed_one n (c ∷ cs) =
    record { point = max n (c.first + 1); call = c } ∷ placed_one (max n (c.first + 1)) cs

-- the point is after the invocation, and no later than the response
abbrev pub Within : Placed → Type 0
Within p = (p.call.first < p.point) × (p.point ≤ p.call.last)

abbrev pub NoLater : Placed → Placed → Type 0
NoLater p q = p.point ≤ q.point

-- p inserted before the first call whose point is no earlier
abbrev pub put_in : Placed → List Placed → List Placed
put_in p [] = p ∷ []
put_in p (q ∷ qs) = if nat_le p.point q.point then p ∷ q ∷ qs else q ∷ put_in p qs

-- sorted by points; calls with the same point keep their order
abbrev pub by_points : List Placed → List Placed
by_points [] = []
by_points (p ∷ ps) = put_in p (by_points ps)

abbrev pub calls_of : List Placed → List Call
calls_of ps = map (λ (p : Placed). p.call) ps

-- the point of the last call, if n is the point of the one before the first
abbrev pub last_point : ℕ → List Call → ℕ
last_point n [] = n
last_point n (c ∷ cs) = last_point (max n (c.first + 1)) cs

-- the call with this reply, and with its response at position t
abbrev pub with_response : ℕ → Reply → Call → Call
with_response t r c = record {
  worker = c.worker;
  object = c.object;
  op = c.op;
  reply = r;
  first = c.first;
  last = t;
}

-- calls of many objects, in order for each object, merged into an order for all
abbrev pub merge_calls : List Call → List Call
merge_calls cs = calls_of (by_points (with_points (λ k. 0) cs))

-- a linear order in which the point of each call is between its invocation and its response, and
-- the points never fall
pub record IsPlacedOrder (Run : List Call → Type 0) (done : List Call) (pending : List PendingCall)
    (t : ℕ)
    (order : List Placed) : Type 0 where
  pub legal : IsLinearOrder Run done pending t (calls_of order)
  pub within : Each Within order
  pub rises : EachPair NoLater order

-- the calls of object k among many with their points
abbrev pub placed_on : ℕ → List Placed → List Placed
placed_on k ps = filter (λ (p : Placed). p.call.object == k) ps
