use Rattle.calls_watch.proofs.DecidingLemmas.{history_stops, history_ends}
use Rattle.calls_watch.proofs.watcher.Watcher.end_history.Goals as goal

pub returns-in-Err : goal.returns-in-Err
returns-in-Err c =
    history_stops c.args.self.now.monitor c.args.self.now c.decide_unjudged.new.self c.in-Err.stop
    c.in-Err.ensures.decides

pub returns : goal.returns
returns c =
    history_ends c.args.self.now.monitor c.args.self.now c.decide_unjudged.new.self
    c.begin_again.new.self c.begin_again.result c.in_default.ensures.decides
    c.decide_unjudged.ensures.number c.decide_unjudged.ensures.load c.begin_again.ensures
