use Rattle.std.proofs.Common.{◌≡◌, ◌++◌, true, sym, ◌∙◌, ap, subst}
use Rattle.ec_machine.specs.Limits.{is_sound_one}
use Rattle.ec_machine.specs.Unrolled.{unroll, unroll_command}
use Rattle.ec_machine.specs.kept.Left.{left_of}
use Rattle.ec_machine.proofs.Frames.{entered, split_first, is_done_once, written_repeat}
use Rattle.ec_machine.proofs.remaining.+enter.Goals as goal

pub returns-in-len1-up-clause-left : goal.returns-in-len1-up-clause-left
returns-in-len1-up-clause-left t c =
    let sound = subst (λ d. is_sound_one d ≡ true) c.in-Repeat.is c.requires.sound in
    ap (λ d. unroll_command d ++ left_of c.args.frames.now.items) (c.in-Repeat.is) ∙ ap (λ xs. xs ++ left_of c.args.frames.now.items) (written_repeat c.in-Repeat.count c.in-Repeat.block) ∙ (entered c.in-Repeat.count (unroll c.in-Repeat.block.items) (unroll_command c.first-item.result) _ _ _ _
    (is_done_once _ _ sound)
    (ap unroll (sym c.as_slice.ensures.value) ∙ split_first _ _ c.in-len1-up.len_at_least c.first-item.is)
    (rw c.as_slice-in-Repeat.ensures.value at c.push_rest.ensures.left)
    c.enter.ensures.left)
