use Rattle.std.proofs.Common.{refl}
use Rattle.ec_core.specs.kept.Packed.{unpack_entries}
use Rattle.ec_core.proofs.segment.EntryIter.none.Goals as goal

pub returns : goal.returns
unfolding unpack_entries
returns c = refl
