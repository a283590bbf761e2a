use Rattle.calls_report.specs.Outruns.{next_step}
use Rattle.calls_turns.specs.declared.turn.Step.{Step}
use Rattle.calls_turns.specs.declared.turn.Reason.TheVariants.{Due}
use Rattle.calls_report.proofs.Loops.{puts_more}
use Rattle.calls_report.proofs.outruns.put_further_steps.Goals as goal

pub loop-step-preserved : goal.loop-step-preserved
loop-step-preserved g c =
    puts_more (λ (x : Step). next_step c.args.site.now c.args.flow x) c.args.steps.now
    c.loop-step.step-index (record { at = 0; count = 0; reason = Due }) _ _ _
    c.loop-step-test.true c.loop-step.invariant c.put_next_step.ensures
