-- What a procedure keeps of its completed calls.
use Rattle.std.specs.Prelude.{ℕ}
use Rattle.ec_core.specs.declared.act.Act.TheVariants.{Go}
use Rattle.ec_core.specs.declared.act.Reply.TheVariants.{Done, Number}
use Rattle.ec_core.specs.Following.{CompletedCall}

-- one of which nothing is needed any more
abbrev pub unneeded_call : CompletedCall
unneeded_call = record { op = Go; reply = Done }

-- one of which the number that it returned is needed
abbrev pub call_with_number : ℕ → CompletedCall
call_with_number n = record { op = Go; reply = Number n }
