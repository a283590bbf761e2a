use Rattle.std.proofs.Common.{refl}
use Rattle.calls_watch.specs.declared.watcher.Watcher.{Watcher}
use Rattle.calls_watch.proofs.LineLemmas.{event_done}
use Rattle.calls_watch.proofs.watcher.Watcher.event.Goals as goal

pub returns : goal.returns
returns c =
    let new : Watcher = record c.args.self.now {
      monitor = c.judge.new.monitor;
      load = c.add_event.new.self;
    } in
    event_done c.args.self.now.monitor c.args.event c.args.self.now new c.pending.result
    c.add_event.result c.in_ok-judge.ensures
    (record { follower = refl; number = refl; first = refl; kept = refl })
    c.pending.ensures c.add_event.ensures.calls
    c.add_event.ensures.others c.add_event.ensures.histories c.add_event.ensures.err
