-- The reply to an act is of a kind that the act can get.
use Rattle.std.proofs.Common.{◌≡◌, ℕ, suc, ◌+◌, Bool, true, false, List, [], ◌∷◌, Option, Some, None, Ok, nat_le, ◌⊎◌, inl, inr, sym, subst, cond, ◌++◌, reverse}
use Rattle.ec_count.specs.Tables.{Tables, IsDeclared}
use Rattle.ec_core.specs.declared.act.Act.{Act}
use Rattle.ec_core.specs.declared.act.Act.TheVariants.{Advance, Read, Await, Go, Ticket, Put, Get, Hand}
use Rattle.ec_core.specs.declared.act.Reply.{Reply}
use Rattle.ec_core.specs.declared.act.Reply.TheVariants.{Number, Pending}
use Rattle.ec_core.specs.declared.act.Entry.{Entry}
use Rattle.ec_core.specs.declared.act.TheConstants.{VALUE_MAX}
use Rattle.ec_core.specs.Counts.{issued, cell_value}
use Rattle.ec_core.specs.Calls.{CallSoFar, under_way}
use Rattle.ec_core.specs.Rounds.{event_or, component_count, sum_read, next_component, round_reply, read_reply, go_reply}
use Rattle.ec_core.specs.Acceptance.{reply_of, answer_of, IsAccepted}
use Rattle.ec_core.specs.Values.{TellsAtMost}
use Rattle.ec_core.specs.Procedures.{IsNumber, IsReply}
use Rattle.ec_core.proofs.shared.Answering.{allowed}
use Rattle.ec_core.proofs.shared.Bounds.{told_small}
use Rattle.ec_core.proofs.shared.Moments.{accepted_until, answered_after}

number_told : (reply : Reply) (n : ℕ) → TellsAtMost VALUE_MAX reply → reply ≡ Number n → IsNumber reply
number_told reply n small is = record { number = n; is = is; small = subst (TellsAtMost VALUE_MAX) is small }

abbrev IsReadingReply : Reply → Type 0
IsReadingReply reply = (reply ≡ Pending) ⊎ IsNumber reply

if_told : (b : Bool) (reply : Reply) (n : ℕ) → TellsAtMost VALUE_MAX reply → reply ≡ cond b (Number n) Pending → IsReadingReply reply
if_told true reply n small is = inr (number_told reply n small is)
if_told false reply n small is = inl is

round_told : (op : Act) (s : ℕ) (reply : Reply) → TellsAtMost VALUE_MAX reply → reply ≡ round_reply op s → IsReadingReply reply
round_told (Await e v) s reply small is = if_told (nat_le v s) reply s small is
round_told (Advance e) s reply small is = inr (number_told reply s small is)
round_told (Read e) s reply small is = inr (number_told reply s small is)
round_told Go s reply small is = inr (number_told reply s small is)
round_told (Ticket q) s reply small is = inr (number_told reply s small is)
round_told (Put x v) s reply small is = inr (number_told reply s small is)
round_told (Get x) s reply small is = inr (number_told reply s small is)
round_told (Hand e f) s reply small is = inr (number_told reply s small is)

last_told : (b : Bool) (op : Act) (s : ℕ) (reply : Reply) → TellsAtMost VALUE_MAX reply → reply ≡ cond b (round_reply op s) Pending → IsReadingReply reply
last_told true op s reply small is = round_told op s reply small is
last_told false op s reply small is = inl is

read_told : (t : Tables) (op : Act) (past : List Entry) (moments : List (List Entry)) (reply : Reply) → TellsAtMost VALUE_MAX reply
    → reply ≡ read_reply t op past moments → IsReadingReply reply
unfolding read_reply
read_told t op past moments reply small is =
    let e = event_or op in
    let c = next_component t e moments in
    last_told (nat_le (component_count t e) (c + 1)) op (sum_read t e (suc c) (past ∷ moments)) reply small is

go_told : (t : Tables) (past : List Entry) (o : Option CallSoFar) (reply : Reply) → TellsAtMost VALUE_MAX reply → reply ≡ go_reply t past o → IsReadingReply reply
go_told t past None reply small is = inl is
go_told t past (Some call) reply small is = read_told t call.op past call.moments reply small is

kind_told : (t : Tables) (past : List Entry) (w : ℕ) (act : Act) (reply : Reply) → TellsAtMost VALUE_MAX reply → reply ≡ reply_of t past w act → IsReply act reply
kind_told t past w (Advance e) reply small is = is
kind_told t past w (Read e) reply small is = read_told t (Read e) past [] reply small is
kind_told t past w (Await e v) reply small is = read_told t (Await e v) past [] reply small is
kind_told t past w Go reply small is = go_told t past (under_way w past) reply small is
kind_told t past w (Ticket q) reply small is = number_told reply (issued q past) small is
kind_told t past w (Put x v) reply small is = is
kind_told t past w (Get x) reply small is = number_told reply (cell_value x past) small is
kind_told t past w (Hand e b) reply small is = is

-- the reply to an act, if it is not refused
pub kind_is : (t : Tables) (past : List Entry) (w : ℕ) (act : Act) (reply : Reply) → IsDeclared t → IsAccepted t past
    → answer_of t past w act ≡ Ok reply → IsReply act reply
kind_is t past w act reply d acc h =
    kind_told t past w act reply (told_small t past w act reply d acc h) (sym (allowed t past w act reply h).1)
