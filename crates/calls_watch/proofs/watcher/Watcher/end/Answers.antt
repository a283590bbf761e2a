use Rattle.calls_watch.proofs.LineLemmas.{over_all, cut_stops}
use Rattle.calls_watch.proofs.watcher.Watcher.end.Goals as goal

pub returns-then-may_end : goal.returns-then-may_end
returns-then-may_end c = λ ps w.
    over_all ps c.args.rest.now c.args.self.now w (c.may_end.ensures.over c.if-may_end.true)

pub returns : goal.returns
returns c = λ ps w.
    cut_stops ps c.args.rest.now c.args.self.now _ w c.cut_off.result
    (c.may_end.ensures.going c.if-may_end.false)
    (c.cut_off.ensures w.events w.seen w.going)
