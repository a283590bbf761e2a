use Rattle.std.proofs.Common.{◌≡◌, ◌+◌, ◌*◌, ◌≤◌, suc, length, sym, ap, ◌∙◌, refl, arith, take}
use Rattle.std.proofs.lemmas.List.{take_all}
use Rattle.std.proofs.lemmas.Option.{slice_get_read}
use Rattle.ec_core.specs.kept.Packed.{word_count, total_word_count}
use Rattle.ec_core.proofs.Keeping.{widths_step}
use Rattle.ec_core.proofs.packed.total_word_count.Goals as goal

pub loop-one-init : goal.loop-one-init
unfolding total_word_count
loop-one-init c = (refl, omega arith)

pub overflow_add-sum : goal.overflow_add-sum
overflow_add-sum c =
    let few : c.loop-one.sum ≤ 4 * c.loop-one.one-index = c.loop-one.invariant.1 in
    let small : c.word_count-sum.result ≤ 4 = c.word_count-sum.ensures.small in
    omega arith

pub loop-one-preserved : goal.loop-one-preserved
loop-one-preserved c =
    let i = c.loop-one.one-index in
    let few : c.loop-one.sum ≤ 4 * i = c.loop-one.invariant.1 in
    let small : c.word_count-sum.result ≤ 4 = c.word_count-sum.ensures.small in
    let on : i + 1 ≡ suc i = omega arith in
    let step : total_word_count (take (suc i) c.args.stored.now) ≡ total_word_count (take i c.args.stored.now) + word_count c.one-item.result =
    widths_step c.args.stored.now i c.one-item.result (slice_get_read c.args.stored.now (length c.args.stored.now) i c.one-item.result refl c.loop-one-test.true c.one-item.is) in
    let sum : c.loop-one.sum ≡ total_word_count (take i c.args.stored.now) =
    c.loop-one.invariant.0 in
    let value : c.word_count-sum.result ≡ word_count c.one-item.result =
    c.word_count-sum.ensures.value in
    let all : c.loop-one.sum + c.word_count-sum.result ≡ total_word_count (take (suc i) c.args.stored.now) = omega arith in
    (all ∙ ap (λ n. total_word_count (take n c.args.stored.now)) (sym on), omega arith)

pub returns : goal.returns
returns c =
    c.loop-one.invariant.0 ∙ ap total_word_count (take_all c.loop-one.one-index c.args.stored.now (omega arith))
