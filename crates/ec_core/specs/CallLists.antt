-- Written lists of calls, and the acts in them.
use Rattle.std.specs.Prelude.{ℕ, Bool, true, false, ◌==◌, ◌&&◌, not, List, Option, Some, None, is_some}
use Rattle.ec_core.specs.declared.act.Act.{Act}
use Rattle.ec_core.specs.declared.act.Act.TheVariants.{Advance, Read, Await, Go, Ticket, Put, Get, Hand}
use Rattle.ec_core.specs.declared.act.Reply.{Reply}
use Rattle.ec_core.specs.declared.act.Reply.TheVariants.{Number}
use Rattle.ec_core.specs.Following.{CompletedCall, Rule}

abbrev pub is_act : Act → Act → Bool
is_act (Advance e) (Advance f) = e == f
is_act (Read e) (Read f) = e == f
is_act (Await e v) (Await f u) = e == f && v == u
is_act Go Go = true
is_act (Ticket q) (Ticket r) = q == r
is_act (Put x v) (Put y u) = x == y && v == u
is_act (Get x) (Get y) = x == y
is_act (Hand e b) (Hand f c) = e == f && b == c
is_act _ _ = false

abbrev pub is_due : Option Act → Act → Bool
is_due None act = false
is_due (Some due) act = is_act due act

-- the act, with 0 for the value that it puts
abbrev pub without_value : Act → Act
without_value (Put x v) = Put x 0
without_value act = act

abbrev pub reply_number : Reply → ℕ
reply_number (Number n) = n
reply_number _ = 0

-- whether an act names one of these objects
abbrev pub is_among : (ℕ → Bool) → (ℕ → Bool) → (ℕ → Bool) → Act → Bool
is_among events sequencers cells (Advance e) = events e
is_among events sequencers cells (Read e) = events e
is_among events sequencers cells (Await e v) = events e
is_among events sequencers cells Go = false
is_among events sequencers cells (Ticket q) = sequencers q
is_among events sequencers cells (Put x v) = cells x
is_among events sequencers cells (Get x) = cells x
is_among events sequencers cells (Hand e b) = events e

-- the rule of a written list, given as the call that comes after these
abbrev pub rule_of : (Act → Bool) → (List CompletedCall → Option Act) → Rule
rule_of is_on list = record {
  concerns = λ b op. is_on op;
  fits = λ b op. is_due (list b) (without_value op);
  ends = λ b. not (is_some (list b));
}
