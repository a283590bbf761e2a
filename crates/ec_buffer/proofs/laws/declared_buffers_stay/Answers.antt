use Rattle.ec_buffer.proofs.shared.Staying.{buffers_stay}
use Rattle.ec_buffer.proofs.laws.declared_buffers_stay.Goals as goal

pub returns : goal.returns
returns c = buffers_stay
