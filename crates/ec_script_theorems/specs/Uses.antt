-- Which commands use a group of objects only by its own procedures.
use Rattle.std.specs.Prelude.{◌≡◌, ℕ, ◌<◌, ◌⊎◌, Bool, true, false, ◌==◌, List, reverse, Some}
use Rattle.std.specs.List.{All}
use Rattle.ec_count.specs.Tables.{Tables}
use Rattle.ec_core.specs.declared.act.Act.{Act}
use Rattle.ec_core.specs.declared.act.Entry.{Entry}
use Rattle.ec_core.specs.Following.{CompletedCall}
use Rattle.ec_buffer.specs.Shapes.{Buffer}
use Rattle.ec_buffer.specs.Follows as buffers
use Rattle.ec_database.specs.Shapes.{Database}
use Rattle.ec_database.specs.Following as databases
use Rattle.ec_semaphore.specs.Shapes.{Semaphore}
use Rattle.ec_semaphore.specs.Uses as semaphores
use Rattle.ec_machine.specs.declared.command.Command.{Command, Produce, Consume, WriteAll, Snapshot, Down, Up, DownBoth}
use Rattle.ec_machine.specs.Runs.{command_call, IsRunOf}
use Rattle.ec_machine.specs.Steps.{own}
use Rattle.ec_machine.specs.Unrolled.{unroll}

-- no call of the command is on these objects, whatever number was returned before it and whatever
-- its own calls return
abbrev pub IsApart : (Act → Bool) → Command → Type 0
IsApart is_on c = (last : ℕ) (calls : List CompletedCall) (op : Act) → command_call last c calls ≡ Some op → is_on op ≡ false

-- A BUFFER

abbrev pub IsOfBuffer : Buffer → Command → Type 0
IsOfBuffer b (Produce e v) = e ≡ b
IsOfBuffer b (Consume e) = e ≡ b
IsOfBuffer b _ = ⊥

-- the command is Produce or Consume of the buffer, or none of its calls is on the buffer
abbrev pub UsesBuffer : Buffer → Command → Type 0
UsesBuffer b c = IsOfBuffer b c ⊎ IsApart (buffers.is_on b) c

-- A DATABASE

abbrev pub IsOfDatabase : Database → Command → Type 0
IsOfDatabase d (WriteAll e vs) = e ≡ d
IsOfDatabase d (Snapshot e tries) = e ≡ d
IsOfDatabase d _ = ⊥

-- the command is WriteAll or Snapshot of the database, or none of its calls is on the database
abbrev pub UsesDatabase : Database → Command → Type 0
UsesDatabase d c = IsOfDatabase d c ⊎ IsApart (databases.is_on d) c

-- A SEMAPHORE

-- two semaphores without a common object
pub record AreSeparate (s u : Semaphore) : Type 0 where
  pub counts : (s.count == u.count) ≡ false
  pub lines : (s.line == u.line) ≡ false

-- three semaphores without common objects, of which the first has initial value 1
pub record AreThree (common one other : Semaphore) : Type 0 where
  pub initial : common.initial ≡ 1
  pub first : AreSeparate common one
  pub second : AreSeparate common other
  pub pair : AreSeparate one other

abbrev pub IsOfSemaphore : Semaphore → Command → Type 0
IsOfSemaphore s (Down u) = u ≡ s
IsOfSemaphore s (Up u) = u ≡ s
IsOfSemaphore s (DownBoth common one other) = AreThree common one other × ((common ≡ s) ⊎ (one ≡ s) ⊎ (other ≡ s))
IsOfSemaphore s _ = ⊥

-- the command is Down or Up of the semaphore, or DownBoth of three semaphores of which it is one, or none of its calls is on it
abbrev pub UsesSemaphore : Semaphore → Command → Type 0
UsesSemaphore s c = IsOfSemaphore s c ⊎ IsApart (semaphores.is_on s) c

-- BOTH

abbrev pub IsOfBoth : Semaphore → (ℕ → Bool) → Command → Type 0
IsOfBoth s lines (DownBoth common one other) = (common ≡ s) × AreThree common one other × (lines one.line ≡ true) × (lines other.line ≡ true)
IsOfBoth s lines _ = ⊥

-- the command is DownBoth by the common semaphore, on two of those with these sequencers, or none of its calls is on the common one
abbrev pub UsesBoth : Semaphore → (ℕ → Bool) → Command → Type 0
UsesBoth s lines c = IsOfBoth s lines c ⊎ IsApart (semaphores.is_on s) c

-- PROGRAMS

-- each command of each declared worker's program, with the repeats unrolled
abbrev pub EachCommand : Tables → (Command → Type 0) → (ℕ → List Command) → Type 0
EachCommand t P programs = (w : ℕ) → w < t.workers → All P (unroll (programs w))

-- each declared worker's entries are a run of its program, perhaps unfinished
abbrev pub AreRuns : Tables → (ℕ → List Command) → List Entry → Type 0
AreRuns t programs h = (w : ℕ) → w < t.workers → IsRunOf (programs w) (own w (reverse h))
