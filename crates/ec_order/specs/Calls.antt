-- Completed calls. A worker's entries are cut, in order, into calls: a read or an await goes on
-- with that worker's following goes, up to its first entry whose reply is not Pending; every other
-- act is a call of one entry. A call is completed if its last reply is not Pending. A past is the
-- history before a moment, reversed: the newest entry first.
use Rattle.std.specs.Prelude.{◌≡◌, ℕ, ◌-◌, Bool, true, false, not, ◌&&◌, List, [], ◌∷◌, ◌++◌, length, Option, Some, None, if◌then◌else◌}
use Rattle.std.specs.Option.{option_map, option_to_list}
use Rattle.ec_count.specs.Tables.{Tables}
use Rattle.ec_core.specs.declared.act.Act.{Act}
use Rattle.ec_core.specs.declared.act.Act.TheVariants.{Read, Await}
use Rattle.ec_core.specs.declared.act.Reply.{Reply}
use Rattle.ec_core.specs.declared.act.Reply.TheVariants.{Number}
use Rattle.ec_core.specs.declared.act.Entry.{Entry}
use Rattle.ec_core.specs.declared.pending_calls.PendingCall.{PendingCall}
use Rattle.ec_core.specs.Acceptance.{IsAccepted}
use Rattle.ec_core.specs.Calls.{CallSoFar, under_way, call_with_act, call_with, is_go, is_pending}
use Rattle.ec_core.specs.PendingCalls.{AreCalls}
use Rattle.ec_core.specs.Rounds.{event_or, position_of, round_start}
use Rattle.ec_order.specs.declared.call.Call.{Call}

-- whether an act is a read or an await
abbrev pub is_reading : Act → Bool
is_reading (Read e) = true
is_reading (Await e v) = true
is_reading _ = false

-- whether an entry is a whole call: it begins one, and ends it
abbrev pub is_one_entry_call : Entry → Bool
is_one_entry_call x = not (is_go x.act) && not (is_pending x.reply)

-- the call whose last entry is x, begun by op, if the pasts of its entries are these, the newest first. An entry
-- stands at the position that is the length of its past
abbrev pub call_of_entries : Tables → Entry → Act → List (List Entry) → Call
call_of_entries t x op moments = record {
  worker = x.worker;
  op = op;
  reply = x.reply;
  first = position_of moments (length moments - 1);
  round = round_start t (event_or op) moments;
  last = position_of moments 0;
}

-- the call that x ends, if this is the call of its worker with x: none if its reply is Pending
abbrev pub ended_by : Tables → Entry → Option CallSoFar → List Call
ended_by t x None = []
ended_by t x (Some call) = if is_pending x.reply then [] else call_of_entries t x call.op call.moments ∷ []

-- the completed calls of a past, in order of their responses
unfoldable pub finished_calls : Tables → List Entry → List Call
finished_calls t [] = []
finished_calls t (x ∷ past) = finished_calls t past ++ ended_by t x (call_with_act x.act past (under_way x.worker past))

-- a pending call, if the entry at position i ends it
abbrev pub call_from : Entry → ℕ → PendingCall → Call
call_from x i g = record { worker = x.worker; op = g.op; reply = x.reply; first = g.first; round = g.round; last = i }

-- the call that an entry at position i ends, if it ends one, given its call with it
abbrev pub call_ended_by : Entry → ℕ → Option PendingCall → Option Call
call_ended_by x i o = if is_pending x.reply then None else option_map (call_from x i) o

-- what is returned for an entry after a past is the call that it ends, if it ends one, and these
-- are the pending calls after it
pub record EndsCall (t : Tables) (past : List Entry) (x : Entry) (returned : Option Call) (calls : List (Option PendingCall)) : Type 0 where
  pub call : ended_by t x (call_with x past) ≡ option_to_list returned
  pub after : AreCalls t calls (x ∷ past)

-- the same after every past that has these pending calls, if the entry is at position i
pub record Ending (before : List (Option PendingCall)) (i : ℕ) (x : Entry) (returned : Option Call) (calls : List (Option PendingCall)) (t : Tables) : Type 0 where
  pub ends : (past : List Entry) → IsAccepted t past → i ≡ length past → AreCalls t before past → EndsCall t past x returned calls
