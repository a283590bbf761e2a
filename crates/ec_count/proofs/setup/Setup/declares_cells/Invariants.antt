use Rattle.ec_count.specs.Declares.{DeclaresCells}
use Rattle.ec_count.proofs.setup.Setup.declares_cells.Given as goal

abbrev pub invariant-loop-k : goal.invariant-loop-k
invariant-loop-k l = DeclaresCells l.self l.first l.k l.write l.read
