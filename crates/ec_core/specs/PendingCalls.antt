-- The calls of a history, in a pass over its entries.
use Rattle.std.specs.Prelude.{◌≡◌, ℕ, ◌+◌, ◌-◌, ◌%◌, ◌<◌, nat_le, List, ◌∷◌, length, Option, Some, None, if◌then◌else◌, slice_get}
use Rattle.std.specs.Option.{option_map}
use Rattle.ec_count.specs.Tables.{Tables}
use Rattle.ec_core.specs.declared.act.Act.{Act}
use Rattle.ec_core.specs.declared.act.Act.TheVariants.{Go}
use Rattle.ec_core.specs.declared.act.Reply.{Reply}
use Rattle.ec_core.specs.declared.act.Entry.{Entry}
use Rattle.ec_core.specs.declared.pending_calls.PendingCall.{PendingCall}
use Rattle.ec_core.specs.Calls.{CallSoFar, under_way, call_with, is_pending}
use Rattle.ec_core.specs.Rounds.{event_or, component_count, position_of, round_start}

-- a call with one more entry, at position i
abbrev pub call_after_go : Tables → PendingCall → ℕ → PendingCall
call_after_go t c i = if nat_le (component_count t (event_or c.op)) (c.index + 1) then record c { round = i; index = 0 } else record c { index = c.index + 1 }

-- the call after an act at position i
abbrev pub call_after_act : Tables → Act → Option PendingCall → ℕ → Option PendingCall
call_after_act t Go None i = None
call_after_act t Go (Some c) i = Some (call_after_go t c i)
call_after_act t act o i = Some (record { op = act; first = i; round = i; index = 0 })

-- the pending call after a reply
abbrev pub call_after_reply : Reply → Option PendingCall → Option PendingCall
call_after_reply reply o = if is_pending reply then o else None

-- a call with its latest entry: its first position, that at which its last round began, and the component that is read
abbrev pub pending_call : Tables → CallSoFar → PendingCall
pending_call t call = record {
  op = call.op;
  first = position_of call.moments (length call.moments - 1);
  round = round_start t (event_or call.op) call.moments;
  index = (length call.moments - 1) % component_count t (event_or call.op);
}

-- these are the pending calls after past, by worker
abbrev pub AreCalls : Tables → List (Option PendingCall) → List Entry → Type 0
AreCalls t calls past = (w : ℕ) → w < 16 → slice_get calls w ≡ Some (option_map (pending_call t) (under_way w past))

-- the call that is returned for an entry after past is its call so far, and these are the pending
-- calls after the entry
pub record Takes (t : Tables) (past : List Entry) (x : Entry) (given : Option PendingCall) (calls : List (Option PendingCall)) : Type 0 where
  pub call : given ≡ option_map (pending_call t) (call_with x past)
  pub after : AreCalls t calls (x ∷ past)
