use Rattle.std.proofs.Common.{◌≡◌, take, length, eqb, sym, ap, ◌∙◌, arith, w8, length-take}
use lib.Count.{count_trailing_zeros}
use Rattle.std.proofs.lemmas.Simd.{bitmask_splat, leading_from_mask_l, trailing_mask_l}
use Rattle.ec_text.proofs.words.first_word_length_of.Goals as goal

pub returns-then-spaces-eq0 : goal.returns-then-spaces-eq0
returns-then-spaces-eq0 g c =
    let v = take g.row.N c.args.line.now in
    let long : length v ≡ g.row.N = omega (arith, c.requires.long, length-take g.row.N c.args.line.now) in
    let spaces = bitmask_splat w8 eqb v g.row.N 32 long (omega arith) in
    sym (leading_from_mask_l (λ x. eqb x 32) v (sym spaces ∙ c.if-spaces-eq0.true) ∙ long)

pub returns-else-spaces-eq0 : goal.returns-else-spaces-eq0
returns-else-spaces-eq0 g c =
    let v = take g.row.N c.args.line.now in
    let long : length v ≡ g.row.N = omega (arith, c.requires.long, length-take g.row.N c.args.line.now) in
    let spaces = bitmask_splat w8 eqb v g.row.N 32 long (omega arith) in
    ap (count_trailing_zeros 64) spaces ∙ trailing_mask_l (λ x. eqb x 32) 64 v (omega (arith, long, c.requires.wide)) (omega arith)
