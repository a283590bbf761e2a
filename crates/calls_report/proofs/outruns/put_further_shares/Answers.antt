use Rattle.std.proofs.Common.{None}
use Rattle.calls_report.specs.Outruns.{next_share}
use Rattle.calls_turns.specs.declared.turn.Share.{Share}
use Rattle.calls_report.proofs.Loops.{puts_more}
use Rattle.calls_report.proofs.outruns.put_further_shares.Goals as goal

pub loop-share-preserved : goal.loop-share-preserved
loop-share-preserved g c =
    puts_more (λ (x : Share). next_share c.args.site.now c.args.flow x) c.args.shares.now
    c.loop-share.share-index (record { item = 0; after = None; takers = 0; turns = 0 }) _ _ _
    c.loop-share-test.true c.loop-share.invariant c.put_next_share.ensures
