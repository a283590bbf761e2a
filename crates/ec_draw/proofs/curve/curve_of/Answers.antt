use Rattle.std.proofs.Common.{◌≤◌, ℕ, sym, subst, take}
use Rattle.ec_draw.proofs.Counting.{count_small}
use Rattle.ec_draw.proofs.curve.curve_of.Goals as goal

pub heights-requires-clause-first : goal.heights-requires-clause-first
heights-requires-clause-first c =
    c.count_in-first.ensures (take c.args.window.from c.args.run.now.entries) c.requires.represents

pub heights-requires-clause-small : goal.heights-requires-clause-small
heights-requires-clause-small c =
    subst (λ (n : ℕ). n ≤ c.args.window.from)
    (sym (c.count_in-first.ensures (take c.args.window.from c.args.run.now.entries)
    c.requires.represents)) (count_small c.args.object c.args.run.now.entries c.args.window.from)
