-- Conformance in terms of a worker's calls: they are whole lists joined end to end, then a prefix
-- of one more.
use Rattle.std.specs.Prelude.{◌≡◌, ℕ, ◌⊎◌, Bool, true, false, ◌==◌, ◌&&◌, not, List, [], ◌∷◌, ◌++◌, All, take, Option, Some, None, IfSome, if◌then◌else◌, slice_get}
use Rattle.std.specs.List.{flat_map, filter}
use Rattle.std.specs.Option.{option_map}
use Rattle.ec_core.specs.declared.act.Act.{Act}
use Rattle.ec_core.specs.declared.act.Entry.{Entry}
use Rattle.ec_core.specs.Calls.{CallSoFar, under_way, is_pending}
use Rattle.ec_core.specs.Following.{CompletedCall, Rule, opening_act}

-- the completed calls of w after past, in order: an entry whose reply is not Pending ends one
unfoldable pub completed_calls_of : ℕ → List Entry → List CompletedCall
completed_calls_of w [] = []
completed_calls_of w (x ∷ past) =
    if x.worker == w && not (is_pending x.reply)
    then completed_calls_of w past
    ++ record { op = opening_act x.act (under_way w past); reply = x.reply } ∷ []
    else completed_calls_of w past

-- the calls are a whole list
abbrev pub is_whole : Rule → List CompletedCall → Bool
is_whole r [] = false
is_whole r (c ∷ calls) = r.ends (c ∷ calls)

-- the call that the act begins is next in the list after these: the rule has it there, and the list is not whole yet
pub record ComesNext (r : Rule) (calls : List CompletedCall) (op : Act) : Type 0 where
  pub fits : r.fits calls op ≡ true
  pub goes_on : is_whole r calls ≡ false

-- each call is next after those before it: the calls are a list, or a prefix of one
abbrev pub IsListPrefix : Rule → List CompletedCall → Type 0
IsListPrefix r calls = (k : ℕ) (c : CompletedCall) → slice_get calls k ≡ Some c → ComesNext r (take k calls) c.op

pub record IsWholeList (r : Rule) (calls : List CompletedCall) : Type 0 where
  pub each : IsListPrefix r calls
  pub whole : is_whole r calls ≡ true

-- the calls are whole lists joined end to end, then a prefix of one more, in which a call that is
-- pending comes next
pub record IsJoined (r : Rule) (calls : List CompletedCall) (going : Option Act) : Type 0 where
  pub lists : List (List CompletedCall)
  pub last : List CompletedCall
  pub order : calls ≡ flat_map (λ b. b) lists ++ last
  pub whole : All (IsWholeList r) lists
  pub begun : IsListPrefix r last
  pub next : IfSome going (ComesNext r last)

-- the rule concerns exactly the calls on a group, at any position in a list
abbrev pub SpeaksOf : Rule → (Act → Bool) → Type 0
SpeaksOf r is_on = (calls : List CompletedCall) (op : Act) → r.concerns calls op ≡ is_on op

-- the calls on the group
abbrev pub calls_on : (Act → Bool) → List CompletedCall → List CompletedCall
calls_on is_on calls = filter (λ c. is_on c.op) calls

-- the act that began the pending call, if it is on the group
abbrev pub going_on : (Act → Bool) → Option CallSoFar → Option Act
going_on is_on None = None
going_on is_on (Some call) = if is_on call.op then Some call.op else None

-- LISTS WITHIN WHICH THE WORKER MAKES NO OTHER CALL

-- the act that began the pending call
abbrev pub op_of : Option CallSoFar → Option Act
op_of o = option_map (λ (call : CallSoFar). call.op) o

-- a single call that is not on the group
pub record IsOther (is_on : Act → Bool) (calls : List CompletedCall) : Type 0 where
  pub call : CompletedCall
  pub is : calls ≡ call ∷ []
  pub off : is_on call.op ≡ false

-- between two lists any call that is not on the group may come
abbrev pub MayComeNext : Rule → (Act → Bool) → List CompletedCall → Act → Type 0
MayComeNext r is_on [] op = (is_on op ≡ false) ⊎ ComesNext r [] op
MayComeNext r is_on (c ∷ calls) op = ComesNext r (c ∷ calls) op

-- all calls, also those on other objects, are whole lists with calls on other objects between them,
-- then a prefix of one more list
pub record IsSideBySide (r : Rule) (is_on : Act → Bool) (calls : List CompletedCall) (going : Option Act) : Type 0 where
  pub pieces : List (List CompletedCall)
  pub last : List CompletedCall
  pub order : calls ≡ flat_map (λ b. b) pieces ++ last
  pub each : All (λ b. IsOther is_on b ⊎ IsWholeList r b) pieces
  pub begun : IsListPrefix r last
  pub next : IfSome going (MayComeNext r is_on last)

-- within a list each call of the worker has to be the list's, and between lists those on the group
pub record IsUnbroken (r : Rule) (is_on : Act → Bool) : Type 0 where
  pub between : (op : Act) → r.concerns [] op ≡ is_on op
  pub within : (c : CompletedCall) (calls : List CompletedCall) (op : Act)
      → r.concerns (c ∷ calls) op ≡ true
  pub first : (op : Act) → r.fits [] op ≡ true → is_on op ≡ true
