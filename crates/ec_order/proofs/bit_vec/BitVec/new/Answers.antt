use Rattle.std.proofs.Common.{ap, ◌∙◌}
use Rattle.ec_order.specs.kept.BitVec.{bits_of_words}
use Rattle.ec_order.proofs.Marking.{marks_none}
use Rattle.ec_order.proofs.bit_vec.BitVec.new.Goals as goal

pub returns : goal.returns
returns c = ap (λ ws. bits_of_words ws 1) c.new.ensures.items ∙ marks_none
