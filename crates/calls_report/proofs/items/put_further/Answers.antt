use Rattle.calls_report.specs.Items.{next_bound}
use Rattle.calls_schedule.specs.declared.job.Bound.{Bound}
use Rattle.calls_report.proofs.Loops.{puts_more}
use Rattle.calls_report.proofs.items.put_further.Goals as goal

pub loop-bound-preserved : goal.loop-bound-preserved
loop-bound-preserved g c =
    puts_more (λ (b : Bound). next_bound c.args.site.now b) c.args.bounds.now
    c.loop-bound.bound-index (record { at = 0; due = 0; jobs = 0 }) _ _ _ c.loop-bound-test.true
    c.loop-bound.invariant c.put_next_bound.ensures
