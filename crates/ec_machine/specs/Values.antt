-- The numbers that the values of a command evaluate to, if `last` is the number of the last
-- completed call that returned one.
use Rattle.std.specs.Prelude.{ℕ, ◌+◌, Bool, false, nat_lt, List, map}
use Rattle.std.specs.List.{list_any}
use Rattle.ec_core.specs.declared.act.TheConstants.{VALUE_MAX}
use Rattle.ec_machine.specs.declared.command.Value.{Value}
use Rattle.ec_machine.specs.declared.command.Value.TheVariants as values
use Rattle.ec_machine.specs.declared.command.Command.{Command, Await, Put, Produce, WriteAll}

abbrev pub eval : ℕ → Value → ℕ
eval last (values.Number n) = n
eval last values.Last = last
eval last (values.LastPlus n) = last + n

abbrev pub is_large : ℕ → Value → Bool
is_large last v = nat_lt VALUE_MAX (eval last v)

-- whether a value of the command is above VALUE_MAX
abbrev pub has_large : ℕ → Command → Bool
has_large last (Await e v) = is_large last v
has_large last (Put x v) = is_large last v
has_large last (Produce b v) = is_large last v
has_large last (WriteAll d vs) = list_any (is_large last) vs.items
has_large last _ = false

abbrev pub values_of : ℕ → List Value → List ℕ
values_of last vs = map (eval last) vs
