use Rattle.std.proofs.Common.{◌≡◌, ◌+◌, drop}
use Rattle.ec_machine.specs.Limits.{count}
use Rattle.ec_machine.proofs.limits.+count.Given as goal

abbrev pub invariant-room_within-loop-command : goal.invariant-room_within-loop-command
invariant-room_within-loop-command l = l.bound + count (drop l.command-index l.commands) ≡ l.left + count l.commands
