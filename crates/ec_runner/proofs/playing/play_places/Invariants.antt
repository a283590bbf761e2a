use Rattle.std.proofs.Common.{[], List, take}
use Rattle.ec_count.specs.Tables.{Tables}
use Rattle.ec_machine.specs.declared.command.Command.{Command}
use Rattle.ec_runner.specs.kept.Machines.{IsPlayed}
use Rattle.ec_runner.specs.Schedules.{Turn}
use Rattle.ec_runner.proofs.playing.play_places.Given as goal

abbrev pub invariant-loop-place : goal.invariant-loop-place
invariant-loop-place l = (t : Tables) (programs : List (List Command)) → IsPlayed t programs [] [] l.initial.run l.initial.machines
    → (turns : List Turn) × IsPlayed t programs (take l.place l.schedule) turns l.run l.machines
