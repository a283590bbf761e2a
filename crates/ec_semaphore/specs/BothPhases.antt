-- What is left of a P on two semaphores in each phase of it.
use Rattle.std.specs.Prelude.{ℕ, List, [], ◌∷◌, ◌++◌, Option}
use Rattle.ec_core.specs.declared.act.Act.{Act}
use Rattle.ec_core.specs.Following.{CompletedCall}
use Rattle.ec_semaphore.specs.declared.down_both.BothPhase.{BothPhase}
use Rattle.ec_semaphore.specs.declared.down_both.BothPhase.TheVariants.{Line, Enter, DrawFirst, DrawSecond, Leave, WaitFirst, WaitSecond, Over}
use Rattle.ec_semaphore.specs.Shapes.{Semaphore}
use Rattle.ec_semaphore.specs.Both.{down_both_call}
use Rattle.ec_semaphore.specs.Spent.{unneeded_call, call_with_number}

-- the first of the two tickets if it is needed, 0 otherwise
abbrev pub first_ticket : BothPhase → ℕ
first_ticket (DrawSecond first) = first
first_ticket (Leave first second) = first
first_ticket (WaitFirst first second) = first
first_ticket _ = 0

-- the second
abbrev pub second_of : BothPhase → ℕ
second_of (Leave first second) = second
second_of (WaitFirst first second) = second
second_of (WaitSecond second) = second
second_of _ = 0

-- what is kept of the calls that are completed in a phase
abbrev pub completed_calls_at : BothPhase → List CompletedCall
completed_calls_at Line = []
completed_calls_at (Enter turn) = call_with_number turn ∷ []
completed_calls_at DrawFirst = unneeded_call ∷ unneeded_call ∷ []
completed_calls_at (DrawSecond first) = unneeded_call ∷ unneeded_call ∷ call_with_number first ∷ []
completed_calls_at (Leave first second) =
    unneeded_call ∷ unneeded_call ∷ call_with_number first ∷ call_with_number second ∷ []
completed_calls_at (WaitFirst first second) =
    unneeded_call ∷ unneeded_call ∷ call_with_number first ∷ call_with_number second ∷ unneeded_call ∷ []
completed_calls_at (WaitSecond second) =
    unneeded_call ∷ unneeded_call ∷ unneeded_call ∷ call_with_number second ∷ unneeded_call ∷ unneeded_call ∷ []
completed_calls_at Over =
    unneeded_call ∷ unneeded_call ∷ unneeded_call ∷ unneeded_call ∷ unneeded_call ∷ unneeded_call ∷ unneeded_call ∷ []

-- the phase that follows, if the call returned this number
abbrev pub next_phase : BothPhase → ℕ → BothPhase
next_phase Line number = Enter number
next_phase (Enter turn) number = DrawFirst
next_phase DrawFirst number = DrawSecond number
next_phase (DrawSecond first) number = Leave first number
next_phase (Leave first second) number = WaitFirst first second
next_phase (WaitFirst first second) number = WaitSecond second
next_phase (WaitSecond second) number = Over
next_phase Over number = Over

-- the call that comes after these further calls, or none
abbrev pub both_rest : Semaphore → Semaphore → Semaphore → BothPhase → List CompletedCall
    → Option Act
both_rest c one other phase calls = down_both_call c one other (completed_calls_at phase ++ calls)
