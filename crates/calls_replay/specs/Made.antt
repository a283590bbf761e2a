-- The calls of a linearization, made by a kernel one after another.
use Rattle.std.specs.Prelude.{ℕ, Bool, true, false, nat_lt, List, map}
use Rattle.std.specs.List.{filter}
use Rattle.calls_core.specs.declared.history.Reply.{Reply}
use Rattle.calls_core.specs.declared.history.Reply.TheVariants.{Number, Timeout}
use Rattle.calls_core.specs.declared.history.Op.{Op}
use Rattle.calls_core.specs.declared.history.Op.TheVariants.{Ticket}
use Rattle.calls_core.specs.declared.history.Call.{Call}
use Rattle.calls_core.specs.declared.history.Placed.{Placed}

-- whether a call is made: it did not time out, and is not a ticket past the limit. Only a pending
-- ticket can be past the limit, since a recorded number is below it
abbrev pub is_made_as : ℕ → Op → Reply → Bool
is_made_as limit op Timeout = false
is_made_as limit Ticket (Number n) = nat_lt n limit
is_made_as limit op reply = true

abbrev pub is_made : ℕ → Call → Bool
is_made limit c = is_made_as limit c.op c.reply

-- the calls of an order that are made
abbrev pub made_of : ℕ → List Placed → List Call
made_of limit order = filter (is_made limit) (map (λ (p : Placed). p.call) order)
