use Rattle.std.proofs.Common.{subst}
use Rattle.calls_monitor.specs.declared.object.Watch.{Watch}
use Rattle.calls_monitor.specs.kept.Watching.{WatchesOf}
use Rattle.calls_monitor.proofs.Objects.{units_judged}
use Rattle.calls_monitor.proofs.object.Watch.event.Goals as goal

pub returns-in-Units-clause-judges : goal.returns-in-Units-clause-judges
returns-in-Units-clause-judges c = λ kind past h needs w few.
    units_judged c.args.event past c.in-Units.monitor c.event-in-Units.new.self
    c.event-in-Units.result c.map_err-in-Units.result c.event-in-Units.ensures.judges
    c.event-in-Units.ensures.grows c.map_err-in-Units.ensures.cases kind h
    (subst (λ (v : Watch). WatchesOf kind past v) c.in-Units.is w) few
