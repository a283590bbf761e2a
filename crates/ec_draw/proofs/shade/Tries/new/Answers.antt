use Rattle.std.proofs.Common.{map, ap, ◌∙◌}
use Rattle.ec_draw.specs.Shades.{shade_model}
use Rattle.ec_draw.proofs.Shading.{starts_first, shades_first}
use Rattle.ec_draw.proofs.shade.Tries.new.Goals as goal

pub returns-clause-first : goal.returns-clause-first
returns-clause-first c = record {
  shape = c.new.ensures.shape;
  audit = c.new.ensures.first;
  starts = starts_first c.new.result.setup c.args.shape.now c.no_starts.result c.no_starts.ensures;
  shades = λ ok. ap (map shade_model) c.new-2.ensures.items
      ∙ shades_first c.new.result.setup c.args.shape.now c.args.window;
}
