-- What is left of a P in each phase of it.
use Rattle.std.specs.Prelude.{ℕ, List, [], ◌∷◌, ◌++◌, Option}
use Rattle.ec_core.specs.declared.act.Act.{Act}
use Rattle.ec_core.specs.Following.{CompletedCall}
use Rattle.ec_semaphore.specs.declared.down.DownPhase.{DownPhase}
use Rattle.ec_semaphore.specs.declared.down.DownPhase.TheVariants.{Draw, Wait, Over}
use Rattle.ec_semaphore.specs.Shapes.{Semaphore}
use Rattle.ec_semaphore.specs.Uses.{down_call}
use Rattle.ec_semaphore.specs.Spent.{unneeded_call, call_with_number}

-- the ticket that is needed; 0 if none is
abbrev pub ticket_of : DownPhase → ℕ
ticket_of Draw = 0
ticket_of (Wait ticket) = ticket
ticket_of Over = 0

-- what is kept of the calls that are completed in a phase
abbrev pub completed_calls_at : DownPhase → List CompletedCall
completed_calls_at Draw = []
completed_calls_at (Wait ticket) = call_with_number ticket ∷ []
completed_calls_at Over = unneeded_call ∷ unneeded_call ∷ []

-- the call that comes after these further calls, or none
abbrev pub down_rest : Semaphore → DownPhase → List CompletedCall → Option Act
down_rest s phase calls = down_call s (completed_calls_at phase ++ calls)
