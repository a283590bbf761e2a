-- A declared semaphore stays declared if more is declared.
use Rattle.std.proofs.Common.{ℕ, List}
use Rattle.ec_count.specs.Declares.{KeepsObjects}
use Rattle.ec_count.specs.Tables.{Tables, with_fixed_event}
use Rattle.ec_count.proofs.shared.Keeping.{keeps_then, keeps_fixed_event, keeps_sequencer}
use Rattle.ec_semaphore.specs.Shapes.{Semaphore, DeclaresSemaphore, with_semaphore}
use Rattle.ec_semaphore.specs.Laws.{SemaphoresStay}

pub still_declared : (s : Semaphore) (old new : Tables) (users : List ℕ) → KeepsObjects old new → DeclaresSemaphore s old users → DeclaresSemaphore s new users
still_declared s old new users k d = record { count = k.events _ _ d.count; line = k.takers _ _ d.line }

-- a semaphore that is declared stays so if more is declared
pub semaphores_stay : SemaphoresStay
semaphores_stay s old new k f = (f.0, still_declared s old new f.0 k f.1)
