use Rattle.std.proofs.Common.{sym, ◌∙◌, ap, refl}
use Rattle.ec_machine.specs.kept.Left.{left_of}
use Rattle.ec_machine.proofs.Frames.{left_none, written_none, started}
use Rattle.ec_machine.proofs.remaining.Remaining.new.Goals as goal

pub returns-then-is_empty : goal.returns-then-is_empty
returns-then-is_empty c = ap left_of c.new-frames.ensures ∙ left_none _ refl ∙ sym (written_none _ (sym c.is_empty.ensures ∙ c.if-is_empty.true))

pub returns : goal.returns
returns c = started _ _ _ c.push_rest.ensures.left c.new-frames.ensures
