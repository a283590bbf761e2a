use Rattle.std.proofs.Common.{◌↔◌, ◌≤◌, drop}
use Rattle.ec_machine.specs.Limits.{nesting}
use Rattle.ec_machine.proofs.limits.+nesting.Given as goal

abbrev pub invariant-loop-command : goal.invariant-loop-command
invariant-loop-command l = (nesting l.commands ≤ l.bound) ↔ (nesting (drop l.command-index l.commands) ≤ l.bound)
