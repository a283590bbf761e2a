use Rattle.std.proofs.Common.{sym, ◌∙◌}
use Rattle.calls_watch.proofs.DecidingLemmas.{all_judged, not_judged}
use Rattle.calls_watch.proofs.watcher.Watcher.decide_unjudged.Goals as goal

pub returns-then-is_some-clause-decides : goal.returns-then-is_some-clause-decides
returns-then-is_some-clause-decides c =
    all_judged c.args.self.now.monitor c.args.self.now c.args.self.now
    (sym c.is_some.ensures ∙ c.if-is_some.true)

pub returns-clause-decides : goal.returns-clause-decides
returns-clause-decides c =
    not_judged c.args.self.now.monitor c.args.self.now c.decide.new.self c.decide.result
    (sym c.is_some.ensures ∙ c.if-is_some.false) c.decide.ensures.decides
