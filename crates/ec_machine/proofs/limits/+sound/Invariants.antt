use Rattle.std.proofs.Common.{◌≡◌, drop}
use Rattle.ec_machine.specs.Limits.{is_sound}
use Rattle.ec_machine.proofs.limits.+sound.Given as goal

abbrev pub invariant-is_sound-loop-command : goal.invariant-is_sound-loop-command
invariant-is_sound-loop-command l = is_sound l.commands ≡ is_sound (drop l.command-index l.commands)
