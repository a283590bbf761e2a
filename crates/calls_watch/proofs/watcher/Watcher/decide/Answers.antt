use Rattle.std.proofs.Common.{Some, refl}
use Rattle.calls_watch.proofs.DecidingLemmas.{decides_by}
use Rattle.calls_watch.proofs.watcher.Watcher.decide.Goals as goal

pub returns-clause-decides : goal.returns-clause-decides
returns-clause-decides c =
    decides_by c.args.self.now
    (record c.args.self.now { decided = Some c.in-Ok-decide_text.decided }) c.in-Ok.text
    c.in-Ok-decide_text.decided c.in-Ok.ensures c.in-Ok-decide_text.ensures.ok refl
    c.outcome_of-outcome.result c.outcome_of-outcome.ensures
