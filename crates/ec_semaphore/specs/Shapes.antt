-- The objects of a semaphore, and how they are declared.
use Rattle.std.specs.Prelude.{ℕ, ◌==◌, ◌||◌, nat_le, nat_lt, List, [], ◌∷◌, length, Option}
use Rattle.ec_count.specs.declared.setup.SetupFault.{SetupFault}
use Rattle.ec_count.specs.declared.setup.SetupFault.TheVariants.{TooMany, UnknownWorker, Repeated, Empty}
use Rattle.ec_count.specs.Declares.{DeclaresFixedEvent, DeclaresSequencer, with_sequencer}
use Rattle.ec_count.specs.Members.{has_repeat}
use Rattle.ec_count.specs.Tables.{Tables, first_that, names_unknown, with_fixed_event}
use Rattle.ec_semaphore.specs.declared.shape.TheConstants.{INITIAL_MAX}

-- the eventcount of a semaphore, the sequencer from which each P draws its ticket, and the initial
-- value
pub record Semaphore : Type 0 where
  pub count : ℕ
  pub line : ℕ
  pub initial : ℕ

-- why a semaphore can't be declared, if it can't
abbrev pub semaphore_fault : Tables → ℕ → List ℕ → Option SetupFault
semaphore_fault t initial users = first_that (
    (nat_lt INITIAL_MAX initial || nat_le 32 (length t.events) || nat_le 32 (length t.takers) || nat_lt 16 (length users), TooMany)
    ∷ (names_unknown t users, UnknownWorker)
    ∷ (has_repeat users, Repeated)
    ∷ (length users == 0, Empty)
    ∷ [])

-- the tables with one more semaphore: an eventcount that its users signal and observe, whose
-- components are not transferable, then a sequencer that they draw from
abbrev pub with_semaphore : Tables → List ℕ → Tables
with_semaphore t users = with_sequencer (with_fixed_event t users users) users

-- the objects of a semaphore that is added to the tables
abbrev pub next_semaphore : Tables → ℕ → Semaphore
next_semaphore t initial = record { count = length t.events; line = length t.takers; initial = initial }

-- the objects of the semaphore are declared for these users
pub record DeclaresSemaphore (s : Semaphore) (t : Tables) (users : List ℕ) : Type 0 where
  pub count : DeclaresFixedEvent t s.count users users
  pub line : DeclaresSequencer t s.line users

-- the objects of the semaphore are declared for some users
abbrev pub Fits : Semaphore → Tables → Type 0
Fits s t = (users : List ℕ) × DeclaresSemaphore s t users
