use Rattle.std.proofs.Common.{rules}
use Rattle.ec_trace.proofs.PackedBytesLemmas.{four_held}
use Rattle.ec_trace.proofs.packed_bytes.four_from.Goals as goal

pub returns : goal.returns
returns c = four_held c.args.text.now c.args.from _ c.requires (search rules) c.from_le_bytes.ensures
