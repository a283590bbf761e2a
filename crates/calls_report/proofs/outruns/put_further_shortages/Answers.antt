use Rattle.calls_report.specs.Outruns.{next_shortage}
use Rattle.calls_turns.specs.declared.turn.Shortage.{Shortage}
use Rattle.calls_report.proofs.Loops.{puts_more}
use Rattle.calls_report.proofs.outruns.put_further_shortages.Goals as goal

pub loop-shortage-preserved : goal.loop-shortage-preserved
loop-shortage-preserved g c =
    puts_more (λ (x : Shortage). next_shortage c.args.site.now c.args.flow x) c.args.shortages.now
    c.loop-shortage.shortage-index
    (record { at = 0; turn = 0; item = 0; turns = 0; takers = 0 }) _ _ _
    c.loop-shortage-test.true c.loop-shortage.invariant c.put_next_shortage.ensures
