use Rattle.std.proofs.Common.{ap, ◌∙◌}
use Rattle.ec_order.specs.kept.BitVec.{bits_of_words}
use Rattle.ec_order.proofs.Marking.{marks_put}
use Rattle.ec_order.proofs.bit_vec.begin_word.Goals as goal

pub returns-clause-same : goal.returns-clause-same
returns-clause-same c = ap (λ ws. bits_of_words ws 1) c.in_ok-push.ensures.items ∙ marks_put c.args.words.now.items c.args.last.now
