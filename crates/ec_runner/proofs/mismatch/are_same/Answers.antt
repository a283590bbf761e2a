use Rattle.std.proofs.lemmas.Bool.Decides.{Decides-at}
use Rattle.ec_count.specs.kept.Same.{tables_decide}
use Rattle.ec_runner.proofs.mismatch.are_same.Goals as goal

pub returns : goal.returns
returns c = Decides-at _ _ c.eq.ensures (tables_decide c.args.setup.now c.args.other.now)
