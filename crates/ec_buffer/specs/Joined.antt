-- Following a buffer in terms of each worker's calls and the written lists only. The value of a put
-- is left out of them, since an item may be any value.
use Rattle.std.specs.Prelude.{◌≡◌, ◌↔◌, ℕ, List, ◌++◌, All, length, reverse, Option, Some, IfSome, if◌then◌else◌, slice_get}
use Rattle.std.specs.List.{flat_map}
use Rattle.ec_count.specs.Tables.{Tables, IsDeclared, may_take}
use Rattle.ec_core.specs.declared.act.Act.{Act}
use Rattle.ec_core.specs.declared.act.Entry.{Entry}
use Rattle.ec_core.specs.Acceptance.{IsAccepted}
use Rattle.ec_core.specs.Calls.{under_way}
use Rattle.ec_core.specs.CallLists.{without_value}
use Rattle.ec_core.specs.Following.{CompletedCall}
use Rattle.ec_core.specs.JoinedLists.{completed_calls_of, calls_on, going_on}
use Rattle.ec_buffer.specs.Shapes.{Buffer}
use Rattle.ec_buffer.specs.CallLists.{produce_list, consume_list, drawn_ticket}
use Rattle.ec_buffer.specs.Follows.{is_on, FollowsBuffer}

-- the list of a worker, for each ticket: the producers are those that take from the sequencer of puts
abbrev pub acts_by_ticket : Tables → Buffer → ℕ → ℕ → List Act
acts_by_ticket t b w = if may_take t b.put_seq w then produce_list b 0 else consume_list b

-- each call is the one at its index in the list, for the ticket that the first one drew
abbrev pub IsActListPrefix : (ℕ → List Act) → List CompletedCall → Type 0
IsActListPrefix list calls = (k : ℕ) (c : CompletedCall) → slice_get calls k ≡ Some c → slice_get (list (drawn_ticket calls)) k ≡ Some (without_value c.op)

-- the calls are the whole list
pub record IsWhole (list : ℕ → List Act) (calls : List CompletedCall) : Type 0 where
  pub each : IsActListPrefix list calls
  pub all : length calls ≡ length (list (drawn_ticket calls))

-- the act begins the call that the list has next
abbrev pub IsNext : (ℕ → List Act) → List CompletedCall → Act → Type 0
IsNext list calls op =
    slice_get (list (drawn_ticket calls)) (length calls) ≡ Some (without_value op)

-- the calls are whole lists joined end to end, and a prefix of one more, in which a call that is
-- pending is next
pub record AreLists (list : ℕ
    → List Act) (calls : List CompletedCall) (going : Option Act) : Type 0 where
  pub lists : List (List CompletedCall)
  pub last : List CompletedCall
  pub order : calls ≡ flat_map (λ l. l) lists ++ last
  pub whole : All (IsWhole list) lists
  pub begun : IsActListPrefix list last
  pub next : IfSome going (IsNext list last)

-- an accepted history follows a buffer exactly if each worker's calls on it are its lists joined
-- end to end, and a prefix of one more
abbrev pub FollowingMeansLists : Type 0
FollowingMeansLists = (t : Tables) (b : Buffer) (h : List Entry) → IsDeclared t → IsAccepted t (reverse h)
    → FollowsBuffer t b (reverse h)
    ↔ ((w : ℕ) → AreLists (acts_by_ticket t b w) (calls_on (is_on b) (completed_calls_of w (reverse h))) (going_on (is_on b) (under_way w (reverse h))))
