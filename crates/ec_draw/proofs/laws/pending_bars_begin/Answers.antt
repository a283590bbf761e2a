use Rattle.ec_draw.proofs.Opening.{bars_begin}
use Rattle.ec_draw.proofs.laws.pending_bars_begin.Goals as goal

pub returns : goal.returns
returns c = bars_begin c.calls_under_way_are_cut_in_order.ensures
