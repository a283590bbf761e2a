use Rattle.std.proofs.Common.{◌∙◌, reverse, sym}
use Rattle.ec_explain.proofs.Rounds.{looks_stay, take_kept}
use Rattle.ec_explain.proofs.round.take.Goals as goal

pub returns-then-not-is_of-clause-looks : goal.returns-then-not-is_of-clause-looks
returns-then-not-is_of-clause-looks c = λ h stood right at was.
    looks_stay c.args.world.now.setup c.args.worker (reverse h) c.args.entry.now
    c.args.looks.now.items (sym c.is_of.ensures ∙ c.if-not-is_of.true) was

pub returns-clause-looks : goal.returns-clause-looks
returns-clause-looks c = λ h stood right at was.
    take_kept c.add_look.result c.args.world.now.setup c.args.worker (reverse h) c.args.entry.now
    c.next_look-look.result c.args.looks.now.items c.add_look.new.looks.items
    (sym c.is_of.ensures ∙ c.if-not-is_of.false) (c.next_look-look.ensures h stood at) was
    c.add_look.ensures
