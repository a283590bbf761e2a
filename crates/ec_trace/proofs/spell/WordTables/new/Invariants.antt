use Rattle.std.proofs.Common.{drop}
use Rattle.ec_trace.specs.kept.WordTables.{Spells}
use Rattle.ec_trace.proofs.spell.WordTables.new.Given as goal

abbrev pub invariant-loop-place : goal.invariant-loop-place
invariant-loop-place l = Spells (drop l.place l.vocabulary) l.words
