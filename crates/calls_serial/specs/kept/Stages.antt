-- The invariant of the stages of the pass. Only the proofs and the private contracts use this.
use Rattle.std.specs.Prelude.{◌≡◌, ℕ, suc, ◌<◌, ◌≤◌, ◌⊎◌, ◌==◌, Bool, true, false, List, []}
use Rattle.std.specs.Prelude.{◌∷◌, ◌++◌, length, map, Option, Some, None, slice_get, take}
use Rattle.std.specs.Prelude.{drop, if◌then◌else◌}
use Rattle.std.specs.List.{filter}
use Rattle.std.specs.List.Sorted.{IsPermutation}
use Rattle.calls_core.specs.declared.history.Op.{Op}
use Rattle.calls_core.specs.declared.history.Op.TheVariants.{Advance, Read, Await, Ticket, P, V}
use Rattle.calls_core.specs.declared.history.Op.TheVariants.{PBoth, Put, Get, Produce, Consume}
use Rattle.calls_core.specs.declared.history.Reply.{Reply}
use Rattle.calls_core.specs.declared.history.Reply.TheVariants.{Done, Number}
use Rattle.calls_core.specs.declared.history.PendingCall.{PendingCall}
use Rattle.calls_core.specs.declared.history.Call.{Call}
use Rattle.calls_core.specs.Lists.{Each, EachPair}
use Rattle.calls_core.specs.Histories.{completion}
use Rattle.calls_serial.specs.declared.stage.Stage.{Stage}
use Rattle.calls_serial.specs.declared.stage.StageGet.{StageGet}
use Rattle.calls_serial.specs.declared.stage.Link.{Link}
use Rattle.calls_serial.specs.declared.search.PutChoice.{PutChoice}
use Rattle.calls_serial.specs.declared.search.PutChoice.TheVariants.{At, Shut}
use Rattle.calls_serial.specs.Faults.{Leaves}

-- a stage with a list of its gets
pub record StageView : Type 0 where
  pub put : Option Call
  pub value : ℕ
  pub moment : ℕ
  pub link : Option ℕ
  pub gets : List Call

-- a call as a get of this value
abbrev pub as_get : ℕ → Call → Call
as_get v c = record {
  worker = c.worker;
  object = c.object;
  op = Get;
  reply = Number v;
  first = c.first;
  last = c.last;
}

-- a get in a stage of this value
abbrev pub get_call : ℕ → StageGet → Call
get_call v g = record {
  worker = g.worker;
  object = g.object;
  op = Get;
  reply = Number v;
  first = g.first;
  last = g.last;
}

abbrev pub stage_gets : ℕ → List StageGet → List Call
stage_gets v gs = map (get_call v) gs

abbrev pub stage_view : Stage → StageView
stage_view s = record {
  put = s.put;
  value = s.value;
  moment = s.moment;
  link = s.link;
  gets = stage_gets s.value s.gets.items;
}

abbrev pub helds : List Stage → List StageView
helds ss = map stage_view ss

-- THE ORDER

abbrev pub put_calls : Option Call → List Call
put_calls None = []
put_calls (Some p) = p ∷ []

abbrev pub held_calls : StageView → List Call
held_calls h = put_calls h.put ++ h.gets

abbrev pub all_calls : List StageView → List Call
all_calls [] = []
all_calls (h ∷ hs) = held_calls h ++ all_calls hs

-- ONE STAGE, AND TWO IN A ROW

abbrev pub is_put : Op → Bool
is_put (Put v) = true
is_put Get = false
is_put Advance = false
is_put Read = false
is_put (Await v) = false
is_put Ticket = false
is_put (P i) = false
is_put (V i) = false
is_put (PBoth i j) = false
is_put (Produce v) = false
is_put Consume = false

-- pending puts take effect
abbrev pub put_answer : PendingCall → Option Reply
put_answer o = if is_put o.op then Some Done else None

pub record IsGot (v m t : ℕ) (g : Call) : Type 0 where
  pub op : g.op ≡ Get
  pub reply : g.reply ≡ Number v
  pub lasts : g.first < g.last
  pub early : g.last < t
  pub after : m ≤ g.last

pub record IsPutAt (v m : ℕ) (p : Call) : Type 0 where
  pub op : p.op ≡ Put v
  pub reply : p.reply ≡ Done
  pub lasts : p.first < p.last
  pub first : p.first < m
  pub last : m ≤ p.last

abbrev pub IsStored : ℕ → ℕ → Option Call → Type 0
IsStored v m None = (v ≡ 0) × (m ≡ 0)
IsStored v m (Some p) = IsPutAt v m p

abbrev pub Sooner : Call → Call → Type 0
Sooner a b = a.last < b.last

pub record IsHeld (t : ℕ) (h : StageView) : Type 0 where
  pub put : IsStored h.value h.moment h.put
  pub gets : Each (IsGot h.value h.moment t) h.gets
  pub sorted : EachPair Sooner h.gets

-- the put was completed before position n
abbrev pub IsOver : ℕ → Option Call → Type 0
IsOver n None = Unit {0}
IsOver n (Some p) = p.last < n

pub record Follows (a b : StageView) : Type 0 where
  pub put : Call
  pub is : b.put ≡ Some put
  pub over : IsOver put.first a.put
  pub moments : a.moment ≤ b.moment
  pub gets : Each (λ (g : Call). g.first ≤ b.moment) a.gets

-- the first stage has no put
abbrev pub Begins : List StageView → Type 0
Begins [] = ⊥
Begins (h ∷ hs) = h.put ≡ None

-- CHAINS OF LINKS

abbrev pub points : Option ℕ → ℕ → Bool
points None k = false
points (Some i) k = i == k

-- the gets of a link and of those that it depends on, among links with the latest first
abbrev pub gets_of_link : Option ℕ → List Link → List Call
gets_of_link i [] = []
gets_of_link i (l ∷ ls) =
    if points i (length ls) then l.get ∷ gets_of_link l.because ls else gets_of_link i ls

-- a chain by which the put invoked at f takes effect by moment m
pub record IsChain (done : List Call) (pending : List PendingCall) (cs : List Call) (f m : ℕ)
    : Type 0 where
  pub get : Call
  pub rest : List Call
  pub is : cs ≡ get ∷ rest
  pub leaves : Leaves done pending (get ∷ rest) (Some f)
  pub last : get.last ≡ m

abbrev pub IsLinked : List Call → List PendingCall → List Link → ℕ → Call → Option ℕ → Type 0
IsLinked done pending ls m p None = m ≡ p.last
IsLinked done pending ls m p (Some i) =
    (i < length ls) × IsChain done pending (gets_of_link (Some i) ls) p.first m

abbrev pub IsBacked : List Call → List PendingCall → List Link → StageView → Type 0
IsBacked done pending ls h = (p : Call) → h.put ≡ Some p
    → IsLinked done pending ls h.moment p h.link

-- THE PENDING PUT

-- a pending put with its stage
pub record Current : Type 0 where
  pub call : PendingCall
  pub stage : StageView

abbrev pub current : Option Current → List StageView
current None = []
current (Some k) = k.stage ∷ []

abbrev pub current_gets : Option Current → List Call
current_gets None = []
current_gets (Some k) = k.stage.gets

abbrev pub current_puts : Option Current → List PendingCall
current_puts None = []
current_puts (Some k) = k.call ∷ []

-- the pending put counts as one with its response at the end
abbrev pub IsCurrent : ℕ → Option Current → Type 0
IsCurrent end None = Unit {0}
IsCurrent end (Some k) = k.stage.put ≡ Some (completion end Done k.call)

abbrev pub pending_puts : List PendingCall → List PendingCall
pending_puts pending = filter (λ (o : PendingCall). is_put o.op) pending

abbrev pub IsOverAt : ℕ → StageView → Type 0
IsOverAt t h = IsOver t h.put

-- completed and pending calls, the stages of completed puts, the pending put if there is one, and
-- the links, the latest first
pub record AreStages (end t : ℕ) (done : List Call) (pending : List PendingCall) (stages : List StageView)
    (now : Option Current) (links : List Link) : Type 0 where
  pub begins : Begins stages
  pub each : Each (IsHeld t) (stages ++ current now)
  pub pairs : EachPair Follows (stages ++ current now)
  pub backed : Each (IsBacked done pending links) (stages ++ current now)
  pub over : Each (IsOverAt t) stages
  pub put : IsCurrent end now
  pub puts : pending_puts pending ≡ current_puts now
  pub once : IsPermutation done (all_calls stages ++ current_gets now)

-- WHAT AN EVENT DOES TO A STAGE

-- the stage of the initial value
abbrev pub first_stage : StageView
first_stage = record { put = None; value = 0; moment = 0; link = None; gets = [] }

-- the moment of a pending put, if at position `at` a get returns its value or it has its response:
-- the moment that a link showed, or else this position
abbrev pub moment_bound : Option ℕ → ℕ → ℕ → ℕ
moment_bound None m at = at
moment_bound (Some i) m at = m

-- the link of a stage, or the next link if it has none
abbrev pub link_index : Option ℕ → ℕ → Option ℕ
link_index None n = Some n
link_index (Some i) n = Some i

abbrev pub links_with : Option ℕ → Link → List Link → List Link
links_with None l ls = l ∷ ls
links_with (Some i) l ls = ls

abbrev pub open_stage : ℕ → ℕ → PendingCall → StageView
open_stage end v o = record {
  put = Some (completion end Done o);
  value = v;
  moment = end;
  link = None;
  gets = [];
}

abbrev pub with_get : Call → StageView → StageView
with_get c h = record {
  put = h.put;
  value = h.value;
  moment = h.moment;
  link = h.link;
  gets = h.gets ++ c ∷ [];
}

-- a get of a pending put's value is added, if n is the number of links
abbrev pub with_late : Call → ℕ → StageView → StageView
with_late c n h = record {
  put = h.put;
  value = h.value;
  moment = moment_bound h.link h.moment c.last;
  link = link_index h.link n;
  gets = h.gets ++ c ∷ [];
}

abbrev pub with_response : Call → StageView → StageView
with_response c h = record {
  put = Some c;
  value = h.value;
  moment = moment_bound h.link h.moment c.last;
  link = h.link;
  gets = h.gets;
}

-- THE SEARCH

pub record IsPassed (first x : ℕ) (h : StageView) : Type 0 where
  pub over : IsOver first h.put → ⊥
  pub other : h.value ≡ x → ⊥

-- the next put need not have taken effect at position first
abbrev pub NextLater : ℕ → List StageView → Type 0
NextLater first [] = Unit {0}
NextLater first (h ∷ hs) = first ≤ h.moment

-- the next put took effect before position first, as its link shows
abbrev pub NextEarlier : ℕ → List StageView → Option ℕ → Type 0
NextEarlier first [] because = ⊥
NextEarlier first (h ∷ hs) because = (h.moment < first) × (because ≡ h.link)

-- the stage h, the last one whose put was over, has another value than x, or is followed by a put
-- that took effect before position first
abbrev pub IsReason : ℕ → ℕ → StageView → List StageView → Option ℕ → Type 0
IsReason first x h back because =
    ((h.value ≡ x → ⊥) × (because ≡ None)) ⊎ ((h.value ≡ x) × NextEarlier first back because)

pub record IsAt (hs : List StageView) (n first x i : ℕ) : Type 0 where
  pub stage : StageView
  pub here : slice_get hs i ≡ Some stage
  pub within : i < n
  pub value : stage.value ≡ x
  pub may : (IsOver first stage.put → ⊥) ⊎ NextLater first (drop (suc i) hs)

pub record IsShutOut (hs : List StageView) (n first x : ℕ) (because : Option ℕ) : Type 0 where
  pub index : ℕ
  pub stage : StageView
  pub here : slice_get hs index ≡ Some stage
  pub within : index < n
  pub over : IsOver first stage.put
  pub passed : Each (IsPassed first x) (drop (suc index) (take n hs))
  pub reason : IsReason first x stage (drop (suc index) hs) because

abbrev pub IsFound : List StageView → ℕ → ℕ → ℕ → PutChoice → Type 0
IsFound hs n first x (At i) = IsAt hs n first x i
IsFound hs n first x (Shut because) = IsShutOut hs n first x because

-- the result for the stage at index i, whose put was over
abbrev pub IsEarly : List StageView → ℕ → ℕ → ℕ → PutChoice → Type 0
IsEarly hs first x i (At j) = (j ≡ i) × ((h : StageView) → slice_get hs i ≡ Some h
    → (h.value ≡ x) × NextLater first (drop (suc i) hs))
IsEarly hs first x i (Shut because) = (h : StageView) → slice_get hs i ≡ Some h
    → IsReason first x h (drop (suc i) hs) because

abbrev pub IsWithin : ℕ → PutChoice → Type 0
IsWithin n (At i) = i < n
IsWithin n (Shut because) = Unit {0}
