-- If programs use a group only by its procedures, their accepted histories follow the group.
use Rattle.std.specs.Prelude.{◌≡◌, ℕ, Bool, List, reverse}
use Rattle.ec_count.specs.Tables.{Tables}
use Rattle.ec_core.specs.declared.act.Entry.{Entry}
use Rattle.ec_core.specs.Acceptance.{IsAccepted}
use Rattle.ec_core.specs.Following.{Follow}
use Rattle.ec_buffer.specs.Shapes as buffers
use Rattle.ec_buffer.specs.Follows.{FollowsBuffer}
use Rattle.ec_database.specs.Shapes as databases
use Rattle.ec_database.specs.Following.{FollowsDatabase}
use Rattle.ec_semaphore.specs.Shapes.{Semaphore}
use Rattle.ec_semaphore.specs.Uses.{use_rules}
use Rattle.ec_semaphore.specs.Both.{both_rules}
use Rattle.ec_machine.specs.declared.command.Command.{Command}
use Rattle.ec_machine.specs.Steps.{own}
use Rattle.ec_script_theorems.specs.Uses.{UsesBuffer, UsesDatabase, UsesSemaphore, UsesBoth, EachCommand, AreRuns}

-- an accepted history of programs whose commands use a declared buffer only by Produce and Consume
-- follows it
abbrev pub BuffersAreFollowed : Type 0
BuffersAreFollowed = (t : Tables) (b : buffers.Buffer) (programs : ℕ → List Command) (h : List Entry) → buffers.IsShape b → buffers.Fits b t → IsAccepted t (reverse h)
    → EachCommand t (UsesBuffer b) programs → AreRuns t programs h → FollowsBuffer t b (reverse h)

-- an accepted history of programs whose commands use a declared database only by WriteAll and
-- Snapshot follows it
abbrev pub DatabasesAreFollowed : Type 0
DatabasesAreFollowed = (t : Tables) (d : databases.Database) (programs : ℕ → List Command) (h : List Entry) → databases.Fits d t → IsAccepted t (reverse h)
    → EachCommand t (UsesDatabase d) programs → AreRuns t programs h → FollowsDatabase t d (reverse h)

-- an accepted history of programs whose commands use a semaphore only by P and V follows it
abbrev pub SemaphoresAreFollowed : Type 0
SemaphoresAreFollowed = (t : Tables) (s : Semaphore) (programs : ℕ → List Command) (h : List Entry) → IsAccepted t (reverse h)
    → EachCommand t (UsesSemaphore s) programs → AreRuns t programs h → Follow (use_rules s) (reverse h)

-- an accepted history of programs whose commands use the common semaphore of `both` only by P on
-- two semaphores with these sequencers follows `both`
abbrev pub BothIsFollowed : Type 0
BothIsFollowed = (t : Tables) (s : Semaphore) (lines : ℕ → Bool) (programs : ℕ → List Command) (h : List Entry) → IsAccepted t (reverse h)
    → EachCommand t (UsesBoth s lines) programs → AreRuns t programs h → Follow (both_rules s lines) (reverse h)

-- the reversed entries of a worker are its entries in the reversed history
abbrev pub OwnEntriesAreReversed : Type 0
OwnEntriesAreReversed = (w : ℕ) (h : List Entry) → own w (reverse h) ≡ reverse (own w h)
