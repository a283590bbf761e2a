use Rattle.std.proofs.Common.{◌∙◌}
use Rattle.calls_shapes.proofs.Among.{among}
use Rattle.calls_shapes.proofs.stairs.is_among.Goals as goal

pub returns : goal.returns
returns c = c.is_ok.ensures.value ∙ among c.args.positions.now c.args.at c.binary_search.result
    c.requires c.binary_search.ensures.position
