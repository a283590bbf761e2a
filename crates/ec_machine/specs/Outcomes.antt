-- How programs end.
use Rattle.std.specs.Prelude.{Bool, true, false, ◌&&◌, if◌then◌else◌}
use Rattle.ec_machine.specs.declared.outcome.Outcome.{Outcome}
use Rattle.ec_machine.specs.declared.outcome.Outcome.TheVariants as outcomes

abbrev pub is_running : Outcome → Bool
is_running outcomes.Running = true
is_running _ = false

-- whether it comes from outside, by `refuse`
abbrev pub is_external : Outcome → Bool
is_external (outcomes.Refused r) = true
is_external outcomes.Stopped = true
is_external outcomes.OutOfTurns = true
is_external outcomes.Memory = true
is_external _ = false

-- the outcome after `refuse`, which takes effect only if the program is running and the new outcome comes from outside
abbrev pub outcome_after_refusal : Outcome → Outcome → Outcome
outcome_after_refusal old new = if is_running old && is_external new then new else old
