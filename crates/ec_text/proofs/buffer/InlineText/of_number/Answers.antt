use Rattle.std.proofs.Common.{rules, arith, ◌≡◌, ℕ, ◌∙◌, ◌-◌, ap, length, take, drop, sym}
use Rattle.std.proofs.lemmas.List.{take_all, take-take}
use Rattle.ec_text.proofs.shared.DecimalLemmas.{at_most_20, spelled_front}
use Rattle.ec_text.proofs.buffer.InlineText.of_number.Goals as goal

pub write_digits-start-requires : goal.write_digits-start-requires
write_digits-start-requires c = (at_most_20 c.args.n (search rules), omega arith)

pub returns : goal.returns
returns c =
    let start = c.write_digits-start.result in
    let text = c.write_prefix.new.table in
    let size : length text ≡ 32 = c.write_prefix.ensures.len ∙ c.text.invariant.1 in
    let copied = sym (take_all 32 text (omega (arith, size))) ∙ c.write_prefix.ensures.prefix ∙ take-take 32 (52 - start) (drop start c.write_digits-start.new.buf) (omega (arith, c.write_digits-start.ensures.start))
    ∙ ap (λ (k : ℕ). take k (drop start c.write_digits-start.new.buf)) (sym size) in
    spelled_front c.args.n (20 - start) _ _ text c.write_digits-start.ensures.written (omega (arith, c.write_digits-start.ensures.start)) (omega (arith, size)) copied
