use Rattle.std.proofs.Common.{reverse}
use Rattle.evc_explain_engine.proofs.Ending.{all_ends}
use Rattle.evc_explain_engine.proofs.worker_ends.ends_of.Goals as goal

pub returns-clause-each : goal.returns-clause-each
returns-clause-each c =
    all_ends c.args.run.now.setup (reverse c.args.run.now.entries) c.args.schedule.now
    c.args.outcomes.now c.new-ends.result.items c.add_ends.new.ends.items c.in_ok-add_ends.ensures
    c.new-ends.ensures.items
