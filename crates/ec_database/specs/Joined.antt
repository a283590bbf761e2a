-- Following a database in terms of each worker's calls and the written lists only. The value of a
-- put is left out of them, since it may be any.
use Rattle.std.specs.Prelude.{◌≡◌, ◌↔◌, ℕ, Bool, List, ◌++◌, All, length, replicate, reverse, Option, Some, IfSome, if◌then◌else◌, slice_get}
use Rattle.std.specs.List.{flat_map}
use Rattle.ec_count.specs.Tables.{Tables, IsDeclared}
use Rattle.ec_core.specs.declared.act.Act.{Act}
use Rattle.ec_core.specs.declared.act.Entry.{Entry}
use Rattle.ec_core.specs.Acceptance.{IsAccepted}
use Rattle.ec_core.specs.Calls.{under_way}
use Rattle.ec_core.specs.CallLists.{without_value}
use Rattle.ec_core.specs.Following.{CompletedCall}
use Rattle.ec_core.specs.JoinedLists.{completed_calls_of, calls_on, going_on}
use Rattle.ec_database.specs.Shapes.{Database}
use Rattle.ec_database.specs.Calls.{first_number, drawn_turn, write_list, try_list}
use Rattle.ec_database.specs.Following.{is_on, writes, FollowsDatabase}

-- the written list that these calls are of, by what they returned: a write's turn, or a try's
-- version
abbrev pub acts_by_replies : Database → Bool → List CompletedCall → List Act
acts_by_replies d writer calls = if writer then write_list d (replicate d.cells 0) (drawn_turn calls) else try_list d (first_number calls)

-- each call is the one at its index in the list
abbrev pub IsActListPrefix : (List CompletedCall → List Act) → List CompletedCall → Type 0
IsActListPrefix list calls = (k : ℕ) (c : CompletedCall) → slice_get calls k ≡ Some c → slice_get (list calls) k ≡ Some (without_value c.op)

-- the calls are the whole list
pub record IsWhole (list : List CompletedCall
    → List Act) (calls : List CompletedCall) : Type 0 where
  pub each : IsActListPrefix list calls
  pub all : length calls ≡ length (list calls)

-- the act begins the call that the list has next
abbrev pub IsNext : (List CompletedCall → List Act) → List CompletedCall → Act → Type 0
IsNext list calls op = slice_get (list calls) (length calls) ≡ Some (without_value op)

-- the calls are whole lists joined end to end, and a prefix of one more, in which a call that is
-- pending is next
pub record AreLists (list : List CompletedCall → List Act) (calls : List CompletedCall) (going : Option Act) : Type 0 where
  pub lists : List (List CompletedCall)
  pub last : List CompletedCall
  pub order : calls ≡ flat_map (λ l. l) lists ++ last
  pub whole : All (IsWhole list) lists
  pub begun : IsActListPrefix list last
  pub next : IfSome going (IsNext list last)

-- an accepted history follows a database exactly if each worker's calls on it are its lists joined
-- end to end, and a prefix of one more
abbrev pub FollowingMeansLists : Type 0
FollowingMeansLists = (t : Tables) (d : Database) (h : List Entry) → IsDeclared t → IsAccepted t (reverse h)
    → FollowsDatabase t d (reverse h)
    ↔ ((w : ℕ) → AreLists (acts_by_replies d (writes t d w)) (calls_on (is_on d) (completed_calls_of w (reverse h))) (going_on (is_on d) (under_way w (reverse h))))
