-- A declared buffer stays declared if more is declared.
use Rattle.std.proofs.Common.{ℕ, List, ◌++◌}
use Rattle.ec_count.specs.Declares.{KeepsObjects, with_sequencer}
use Rattle.ec_count.specs.Tables.{Tables, with_fixed_event}
use Rattle.ec_count.proofs.shared.Keeping.{keeps_then, keeps_fixed_event, keeps_sequencer, keeps_cells}
use Rattle.ec_buffer.specs.Shapes.{Buffer, DeclaresBuffer, with_buffer}
use Rattle.ec_buffer.specs.Laws.{BuffersStay}

pub still_declared : (b : Buffer) (old new : Tables) (produce consume : List ℕ) → KeepsObjects old new → DeclaresBuffer b old produce consume → DeclaresBuffer b new produce consume
still_declared b old new produce consume k d = record {
  in_count = k.events _ _ d.in_count;
  out_count = k.events _ _ d.out_count;
  put_seq = k.takers _ _ d.put_seq;
  take_seq = k.takers _ _ d.take_seq;
  cells = λ i lt. k.cells _ _ (d.cells i lt);
  apart = d.apart;
}

-- a buffer that is declared stays so if more is declared
pub buffers_stay : BuffersStay
buffers_stay b old new k f = (f.0, f.1, still_declared b old new f.0 f.1 k f.2)
