use Rattle.std.proofs.Common.{◌≡◌, ◌+◌, ◌*◌, ◌∙◌, ◌++◌, ◌∷◌, [], ap, sym, arith}
use Rattle.ec_order.specs.kept.BitVec.{bits_of_word}
use Rattle.ec_order.proofs.Marking.{marks_more}
use Rattle.ec_order.proofs.bit_vec.with_bit.Goals as goal

pub returns-then-mark-clause-value : goal.returns-then-mark-clause-value
returns-then-mark-clause-value c =
    marks_more c.args.word 1 c.requires.some c.requires.room (omega arith) ∙ ap (λ b. bits_of_word c.args.word ++ b ∷ []) (sym c.if-mark.true)

pub returns-else-mark-clause-value : goal.returns-else-mark-clause-value
returns-else-mark-clause-value c =
    let same : c.args.word * 2 ≡ c.args.word * 2 + 0 = omega arith in
    ap bits_of_word same ∙ marks_more c.args.word 0 c.requires.some c.requires.room (omega arith) ∙ ap (λ b. bits_of_word c.args.word ++ b ∷ []) (sym c.if-mark.false)
