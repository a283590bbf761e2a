use Rattle.ec_draw.proofs.Beginning.{shades_begin}
use Rattle.ec_draw.proofs.laws.shades_begin_lists.Goals as goal

pub returns : goal.returns
returns c = shades_begin
