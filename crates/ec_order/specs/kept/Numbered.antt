-- The sequential object as the check represents it, in three tables.
use Rattle.std.specs.Prelude.{ℕ, ◌+◌, ◌≤◌, nat_le, Option, Some, None, slice_index, slice_set, if◌then◌else◌}
use Rattle.ec_core.specs.declared.act.Act.{Act}
use Rattle.ec_core.specs.declared.act.Act.TheVariants.{Advance, Read, Await, Go, Ticket, Put, Get, Hand}
use Rattle.ec_core.specs.declared.act.Reply.{Reply}
use Rattle.ec_core.specs.declared.act.Reply.TheVariants.{Done, Number}
use Rattle.ec_order.specs.declared.numbers.Numbers.{Numbers}

abbrev pub reply_in : Numbers → Act → Option Reply
reply_in n (Advance e) = Some Done
reply_in n (Read e) = Some (Number (slice_index n.events e))
reply_in n (Await e v) = if nat_le v (slice_index n.events e) then Some (Number (slice_index n.events e)) else None
reply_in n (Ticket q) = Some (Number (slice_index n.sequencers q))
reply_in n (Put x v) = Some Done
reply_in n (Get x) = Some (Number (slice_index n.cells x))
reply_in n (Hand e b) = Some Done
reply_in n Go = None

abbrev pub after_in : Numbers → Act → Numbers
after_in n (Advance e) = record n { events = slice_set n.events e (slice_index n.events e + 1) }
after_in n (Ticket q) = record n { sequencers = slice_set n.sequencers q (slice_index n.sequencers q + 1) }
after_in n (Put x v) = record n { cells = slice_set n.cells x v }
after_in n _ = n

-- each number is at most i
pub record AreFew (n : Numbers) (i : ℕ) : Type 0 where
  pub events : (k : ℕ) → slice_index n.events k ≤ i
  pub sequencers : (k : ℕ) → slice_index n.sequencers k ≤ i
