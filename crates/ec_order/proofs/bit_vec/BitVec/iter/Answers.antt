use Rattle.std.proofs.Common.{◌<◌, ◌∙◌, ◌^◌, ap, subst, length, List, Bool}
use Rattle.ec_order.specs.kept.BitVec.{low_bits, bits_of_words}
use Rattle.ec_order.proofs.Marking.{marks_few}
use Rattle.ec_order.proofs.bit_vec.BitVec.iter.Goals as goal

pub returns-clause-value : goal.returns-clause-value
unfolding low_bits
returns-clause-value c = ap (λ ws. bits_of_words ws c.self.inside.last) c.deref.ensures.value ∙ c.self.view_is

pub returns-clause-few : goal.returns-clause-few
returns-clause-few c = subst (λ (ms : List Bool). length ms < 2 ^ 64) c.self.view_is (marks_few c.self.inside.words.items c.self.inside.last c.self.invariant)
