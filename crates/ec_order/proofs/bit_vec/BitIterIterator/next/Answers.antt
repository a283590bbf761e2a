use Rattle.std.proofs.Common.{◌≡◌, ◌*◌, ◌^◌, ◌<◌, ◌∙◌, drop, ap, sym, arith, rules}
use Rattle.ec_order.specs.kept.BitVec.{bits_of_words}
use Rattle.ec_order.proofs.Marking.{word_begins, word_without, left_next}
use Rattle.ec_order.proofs.bit_vec.BitIterIterator.next.Goals as goal
use Rattle.ec_order.proofs.bit_vec.BitIterIterator.next.Goals.{then-self-eq0+else-self-eq0-2, else-self-eq0}

pub returns-then-self-eq0-2-clause-steps : goal.returns-then-self-eq0-2-clause-steps
returns-then-self-eq0-2-clause-steps c =
    let s = c.self.inside in
    let next = c.next_word-self-inside in
    let log = c.ilog2-self-inside in
    let zero : log.result ≡ 0 = c.if-self-eq0-2.true in
    let some = next.ensures.some in
    let below : next.result < 2 * 2 ^ log.result = log.ensures.next_power_gt in
    let power : 2 ^ log.result ≡ 1 = ap (λ k. 2 ^ k) zero in
    let one : next.result ≡ 1 = omega arith in
    let left = word_without log.result next.result (bits_of_words (drop next.new.place s.words.now) next.new.last) zero (next.ensures.end one) in
    (word_begins c.args.self.now s.left s.word log.result next.result _ _ c.self.view_is c.if-self-eq0.true next.ensures.marks log.ensures.bound log.ensures.power_le below ∙ left, left)

pub returns-clause-steps : goal.returns-clause-steps
returns-clause-steps c =
    elim c.if-self-eq0.branch [
      | then-self-eq0+else-self-eq0-2 w ↦
          rw w.self-inside-is (
          word_begins c.args.self.now c.self.inside.left c.self.inside.word w.ilog2-self-inside.result w.next_word-self-inside.result _ _ c.self.view_is w.if-self-eq0.true w.next_word-self-inside.ensures.marks
          w.ilog2-self-inside.ensures.bound w.ilog2-self-inside.ensures.power_le w.ilog2-self-inside.ensures.next_power_gt
          ∙ left_next w.ilog2-self-inside.result w.next_word-self-inside.result (bits_of_words (drop w.next_word-self-inside.new.place c.self.inside.words.now) w.next_word-self-inside.new.last) (omega (arith, w.if-self-eq0-2.false)))
      | else-self-eq0 w ↦
          rw w.self-inside-is (
          sym c.self.view_is ∙ left_next c.self.inside.left c.self.inside.word (bits_of_words (drop c.self.inside.place c.self.inside.words.now) c.self.inside.last) (omega (arith, w.if-self-eq0.false)))
    ]

pub returns-clause-goes : goal.returns-clause-goes
returns-clause-goes c = let e = returns-clause-steps c in search (rules, e)
