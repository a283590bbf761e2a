use Rattle.std.proofs.Common.{◌∙◌}
use Rattle.ec_draw.specs.declared.arrow.Move.TheVariants as moves
use Rattle.ec_draw.proofs.Arrowing.{places_first}
use Rattle.ec_draw.proofs.arrow.Moves.new.Goals as goal

pub returns-clause-first : goal.returns-clause-first
returns-clause-first c = record {
  shape = c.new.ensures.shape;
  audit = c.new.ensures.first;
  puts = λ ok. c.new-2.ensures.items ∙ places_first moves.Put c.args.shape.now;
  gets = λ ok. c.new-3.ensures.items ∙ places_first moves.Get c.args.shape.now;
}
