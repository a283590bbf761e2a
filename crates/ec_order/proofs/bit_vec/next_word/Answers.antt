use Rattle.std.proofs.Common.{◌≤◌, ◌∙◌, ◌++◌, length, drop, ap, sym, arith}
use Rattle.std.proofs.lemmas.Bool.Decides.{nat_tests}
use Rattle.ec_order.specs.kept.BitVec.{bits_of_word, bits_of_words}
use Rattle.ec_order.proofs.Marking.{left_none, left_last}
use Rattle.ec_order.proofs.bit_vec.next_word.Goals as goal

pub returns-in-None-clause-end : goal.returns-in-None-clause-end
returns-in-None-clause-end c = λ one.
    let past : length c.args.words.now ≤ c.args.place.now = grind (arith, nat_tests, c.in-None.ensures.lookup) in
    ap (bits_of_words (drop c.args.place.now c.args.words.now)) c.replace.ensures.after ∙ left_none c.args.words.now c.args.place.now past

pub returns-in-None-clause-marks : goal.returns-in-None-clause-marks
returns-in-None-clause-marks c =
    let past : length c.args.words.now ≤ c.args.place.now = grind (arith, nat_tests, c.in-None.ensures.lookup) in
    let rest = bits_of_words (drop c.args.place.now c.args.words.now) in
    left_last c.args.words.now c.args.place.now c.args.last.now past
    ∙ ap (λ w. bits_of_word w ++ rest 1) (sym c.replace.ensures.value) ∙ ap (λ w. bits_of_word c.replace.result ++ rest w) (sym c.replace.ensures.after)
