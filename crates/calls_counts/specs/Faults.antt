-- The faults of an eventcount: what each says, by counting.
use Rattle.std.specs.Prelude.{◌≡◌, ◌⊎◌, ℕ, ◌+◌, ◌-◌, ◌<◌, ◌≤◌, Option, Some, None, Bool, true}
use Rattle.std.specs.Prelude.{false, ◌&&◌, nat_le, nat_lt, count_by, List}
use Rattle.std.specs.List.{Contains}
use Rattle.calls_core.specs.declared.history.Op.{Op}
use Rattle.calls_core.specs.declared.history.Op.TheVariants.{Advance, Read, Await}
use Rattle.calls_core.specs.declared.history.Reply.{Reply}
use Rattle.calls_core.specs.declared.history.Reply.TheVariants.{Done, Number, Timeout}
use Rattle.calls_core.specs.declared.history.Action.{Action}
use Rattle.calls_core.specs.declared.history.Action.TheVariants.{Invoke, Respond}
use Rattle.calls_core.specs.declared.history.Event.{Event}
use Rattle.calls_core.specs.declared.history.Call.{Call}
use Rattle.calls_core.specs.Histories.{completed_calls}
use Rattle.calls_core.specs.Linearizations.{Precedes}
use Rattle.calls_counts.specs.declared.fault.Fault.{Fault}
use Rattle.calls_counts.specs.declared.fault.Fault.TheVariants.{Below, Few, Many, Since}

-- ADVANCES

abbrev pub is_advance : Op → Bool
is_advance Advance = true
is_advance _ = false

abbrev pub invokes_advance : Action → Bool
invokes_advance (Invoke k op) = is_advance op
invokes_advance (Respond r) = false

-- how many advances were invoked up to position d
abbrev pub invoked_upto : ℕ → List Event → ℕ
invoked_upto d past = count_by (λ (x : Event). invokes_advance x.action && nat_le x.at d) past

abbrev pub advances_invoked : List Event → ℕ
advances_invoked past = count_by (λ (x : Event). invokes_advance x.action) past

-- an advance that was invoked at position a or later, and has its response before position d
abbrev pub lies_between : ℕ → ℕ → Call → Bool
lies_between a d c = is_advance c.op && (nat_le a c.first && nat_lt c.last d)

abbrev pub made_between : ℕ → ℕ → List Call → ℕ
made_between a d cs = count_by (lies_between a d) cs

-- OBSERVATIONS: a completed read or await says that at some moment of it the count was at least
-- this number, and at most that

-- the least count at which an eventcount gives this reply
abbrev pub least : Op → Reply → ℕ
least Read (Number n) = n
least (Await v) Done = v
least (Await v) (Number n) = n
least _ _ = 0

-- the greatest, if there is one
abbrev pub most : Op → Reply → Option ℕ
most Read (Number n) = Some n
most (Await v) (Number n) = Some n
most (Await v) Timeout = Some (v - 1)
most _ _ = None

-- no count gives this reply: an await returned a number below its threshold, or one of 0 gave up
abbrev pub Contradicts : Op → Reply → Type 0
Contradicts (Await v) (Number n) = n < v
Contradicts (Await v) Timeout = v ≡ 0
Contradicts _ _ = ⊥

-- WHAT THE FAULTS SHOW

-- a completed read or await that says that the count was at most n
pub record SaysAtMost (past : List Event) (c : Call) (n : ℕ) : Type 0 where
  pub known : Contains (completed_calls past) c
  pub reading : is_advance c.op ≡ false
  pub number : most c.op c.reply ≡ Some n

pub record FromBelow (past : List Event) (c : Call) : Type 0 where
  pub known : Contains (completed_calls past) c
  pub below : Contradicts c.op c.reply

-- it says more than the advances make that were invoked up to its response
pub record FromFew (start : ℕ) (past : List Event) (c : Call) : Type 0 where
  pub known : Contains (completed_calls past) c
  pub reading : is_advance c.op ≡ false
  pub more : start + invoked_upto c.last past < least c.op c.reply

-- it says less than the advances make that returned before its invocation
pub record FromMany (start : ℕ) (past : List Event) (c : Call) : Type 0 where
  pub number : ℕ
  pub call : SaysAtMost past c number
  pub fewer : number < start + made_between 0 c.first (completed_calls past)

-- it says less than an earlier call s, plus the advances that lie between the two
pub record FromSince (past : List Event) (c s : Call) : Type 0 where
  pub number : ℕ
  pub call : SaysAtMost past c number
  pub known : Contains (completed_calls past) s
  pub reading : is_advance s.op ≡ false
  pub before : Precedes s c
  pub fewer : number < least s.op s.reply
      + made_between (s.last + 1) c.first (completed_calls past)

-- what each fault says about the history, if the eventcount is start at first
abbrev pub Shows : ℕ → List Event → Fault → Type 0
Shows start past (Below c) = FromBelow past c
Shows start past (Few c) = FromFew start past c
Shows start past (Many c) = FromMany start past c
Shows start past (Since c s) = FromSince past c s

-- WHAT THE COUNT HAS REACHED

-- a completed read or await with its response before position d: each advance after it adds one to
-- what it says
pub record Source (calls : List Call) (d from base : ℕ) : Type 0 where
  pub call : Call
  pub known : Contains calls call
  pub reading : is_advance call.op ≡ false
  pub before : call.last < d
  pub from_is : from ≡ call.last + 1
  pub base_is : base ≡ least call.op call.reply

-- by counting, from the beginning or from such a call, the count was at least n at position d
pub record Reached (start : ℕ) (calls : List Call) (d n : ℕ) : Type 0 where
  pub from : ℕ
  pub base : ℕ
  pub source : ((from ≡ 0) × (base ≡ start)) ⊎ Source calls d from base
  pub counted : n ≤ base + made_between from d calls
