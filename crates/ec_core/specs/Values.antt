-- How large the number of a reply is.
use Rattle.std.specs.Prelude.{ℕ, ◌≤◌}
use Rattle.ec_core.specs.declared.act.Reply.{Reply}
use Rattle.ec_core.specs.declared.act.Reply.TheVariants.{Done, Number, Pending}

-- the number of the reply, if it has one, is at most this
abbrev pub TellsAtMost : ℕ → Reply → Type 0
TellsAtMost most Done = Unit {0}
TellsAtMost most (Number n) = n ≤ most
TellsAtMost most Pending = Unit {0}
