use Rattle.std.proofs.lemmas.Bool.Decides.{Decides-at}
use Rattle.ec_count.specs.kept.Same.{tables_decide}
use Rattle.ec_count.proofs.setup.SetupPartialEq.eq.Goals as goal

pub returns-clause-same : goal.returns-clause-same
returns-clause-same c = Decides-at _ _ c.has_same_tables.ensures (tables_decide c.args.self.now c.args.other.now)
