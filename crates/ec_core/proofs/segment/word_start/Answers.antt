use Rattle.std.proofs.Common.{◌≡◌, ◌+◌, ◌-◌, ◌*◌, ◌/◌, ◌≤◌, ◌∙◌, drop, take, length, slice_index_or, ap, sym, arith, Fits}
use Rattle.std.proofs.lemmas.List.{length-drop, length-take-le}
use Rattle.ec_core.specs.kept.Packed.{total_word_count}
use Rattle.ec_core.proofs.Keeping.{widths_cut, widths_small}
use Rattle.ec_core.proofs.segment.word_start.Goals as goal

pub overflow_add-result : goal.overflow_add-result
overflow_add-result c =
    let m = c.args.i / 16 in
    let fits : Fits mir.Syntax.w16 (slice_index_or c.args.starts.now m 0) = c.type_inv.starts m in
    let rest = take (c.args.i - m * 16) (drop (m * 16) c.args.stored.now) in
    let left : length (drop (m * 16) c.args.stored.now) ≡ length c.args.stored.now - m * 16 = length-drop (m * 16) c.args.stored.now in
    let few : length rest ≡ c.args.i - m * 16 = length-take-le (c.args.i - m * 16) (drop (m * 16) c.args.stored.now) (omega arith) in
    let small : total_word_count rest ≤ 4 * length rest = widths_small rest in
    let is : c.total_word_count.result ≡ total_word_count rest = c.total_word_count.ensures in
    omega arith

pub returns : goal.returns
returns c =
    let i = c.args.i in
    let m = i / 16 in
    let ss = c.args.stored.now in
    let many : length ss ≤ 16 * length c.args.starts.now = c.requires.starts.many in
    let start : slice_index_or c.args.starts.now m 0 ≡ total_word_count (take (16 * m) ss) = c.requires.starts.each m (omega arith) in
    let back : 16 * m ≡ m * 16 = omega arith in
    let cut : total_word_count (take (m * 16 + (i - m * 16)) ss) ≡ total_word_count (take (m * 16) ss) + total_word_count (take (i - m * 16) (drop (m * 16) ss)) = widths_cut (m * 16) (i - m * 16) ss in
    let sum : m * 16 + (i - m * 16) ≡ i = omega arith in
    ap (λ n. n + c.total_word_count.result) (start ∙ ap (λ n. total_word_count (take n ss)) back) ∙ ap (λ n. total_word_count (take (m * 16) ss) + n) c.total_word_count.ensures
    ∙ sym cut ∙ ap (λ n. total_word_count (take n ss)) sum
