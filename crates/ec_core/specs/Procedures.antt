-- What a procedure asks for, and which replies it may get.
use Rattle.std.specs.Prelude.{◌≡◌, ℕ, ◌≤◌, ◌⊎◌, Bool, true, false, List, ◌++◌, take, slice_get, Option, Some, None}
use Rattle.ec_core.specs.declared.act.Act.{Act}
use Rattle.ec_core.specs.declared.act.Act.TheVariants.{Advance, Read, Await, Go, Ticket, Put, Get, Hand}
use Rattle.ec_core.specs.declared.act.Reply.{Reply}
use Rattle.ec_core.specs.declared.act.Reply.TheVariants.{Done, Number, Pending}
use Rattle.ec_core.specs.declared.act.TheConstants.{VALUE_MAX}
use Rattle.ec_core.specs.Following.{CompletedCall}

abbrev pub next_of : Bool → Option Act → Option Act
next_of true due = Some Go
next_of false due = due

-- the reply is a number, at most the greatest value
pub record IsNumber (reply : Reply) : Type 0 where
  pub number : ℕ
  pub is : reply ≡ Number number
  pub small : number ≤ VALUE_MAX

-- the reply is of a kind that the act can get, with a number of at most the greatest value
abbrev pub IsReply : Act → Reply → Type 0
IsReply (Advance e) reply = reply ≡ Done
IsReply (Read e) reply = (reply ≡ Pending) ⊎ IsNumber reply
IsReply (Await e v) reply = (reply ≡ Pending) ⊎ IsNumber reply
IsReply Go reply = (reply ≡ Pending) ⊎ IsNumber reply
IsReply (Ticket q) reply = IsNumber reply
IsReply (Put x v) reply = reply ≡ Done
IsReply (Get x) reply = IsNumber reply
IsReply (Hand e b) reply = reply ≡ Done

-- there is an act, and the reply is of a kind that it can get
abbrev pub IsReplyTo : Option Act → Reply → Type 0
IsReplyTo None reply = ⊥
IsReplyTo (Some act) reply = IsReply act reply

-- WRITTEN LISTS, each given as the call that it has next after these calls, or none

-- the calls are a prefix of the written list: each is the one that it has next after those before
-- it
abbrev pub IsWritten : (List CompletedCall → Option Act) → List CompletedCall → Type 0
IsWritten list calls = (k : ℕ) (c : CompletedCall) → slice_get calls k ≡ Some c → list (take k calls) ≡ Some c.op

-- what is still asked for is the rest of the list after these calls
abbrev pub IsRestAfter : (List CompletedCall → Option Act) → List CompletedCall
    → (List CompletedCall → Option Act) → Type 0
IsRestAfter list done rest = (calls : List CompletedCall) → rest calls ≡ list (done ++ calls)
