use Rattle.ec_draw.proofs.Telling.{arrows_deliver}
use Rattle.ec_draw.proofs.laws.arrows_are_deliveries.Goals as goal

pub returns : goal.returns
returns c = arrows_deliver
