use Rattle.std.proofs.Common.{arith}
use Rattle.std.proofs.lemmas.Slice.{drop-put_mid}
use Rattle.evc_c.proofs.room.put_after.Goals as goal

pub returns-clause-rest : goal.returns-clause-rest
returns-clause-rest c = drop-put_mid _ _ _ _ _ (omega arith) c.requires (omega (arith, c.copy_from_slice.ensures.len))
