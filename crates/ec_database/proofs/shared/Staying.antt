-- A declared database stays declared if more is declared.
use Rattle.std.proofs.Common.{ℕ, List, ◌++◌}
use Rattle.ec_count.specs.Declares.{KeepsObjects, with_sequencer}
use Rattle.ec_count.specs.Tables.{Tables, with_fixed_event}
use Rattle.ec_count.proofs.shared.Keeping.{keeps_then, keeps_fixed_event, keeps_sequencer, keeps_cells}
use Rattle.ec_database.specs.Shapes.{Database, DeclaresDatabase, with_database}
use Rattle.ec_database.specs.Laws.{DatabasesStay}

pub still_declared : (d : Database) (old new : Tables) (write read : List ℕ) → KeepsObjects old new → DeclaresDatabase d old write read → DeclaresDatabase d new write read
still_declared d old new write read k h = record {
  start = k.events _ _ h.start;
  done = k.events _ _ h.done;
  turn = k.takers _ _ h.turn;
  cells = λ i lt. k.cells _ _ (h.cells i lt);
  readers = h.readers;
  apart = h.apart;
}

-- a database that is declared stays so if more is declared
pub databases_stay : DatabasesStay
databases_stay d old new k f = (f.0, f.1, still_declared d old new f.0 f.1 k f.2)
