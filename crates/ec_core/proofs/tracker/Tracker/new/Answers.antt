use Rattle.ec_core.proofs.shared.Tracking.{tracked_first}
use Rattle.ec_core.proofs.tracker.Tracker.new.Goals as goal

pub returns : goal.returns
returns g c =
    tracked_first (g.P.Protocol.rules c.args.protocol.now) (g.P.Protocol.keeps c.args.protocol.now) c.filled.result c.start.result c.start.ensures c.filled.ensures.at
