use Rattle.std.proofs.Common.{refl, reverse, sym}
use Rattle.ec_semaphore.specs.Both.{is_semaphore_sequencer, both_rules}
use Rattle.ec_draw.proofs.Balancing.{follow_yes, broken_no}
use Rattle.ec_draw.proofs.finding.follows_both.Goals as goal

pub returns-in-Ok : goal.returns-in-Ok
returns-in-Ok c =
    let pairs = c.args.pairs in
    sym (follow_yes (both_rules pairs.common (is_semaphore_sequencer pairs.common pairs.shapes))
    (reverse c.args.run.now.entries) (c.in-Ok.ensures.followed refl))

pub returns-in-Err-NotFollowed : goal.returns-in-Err-NotFollowed
returns-in-Err-NotFollowed c =
    let pairs = c.args.pairs in
    broken_no (both_rules pairs.common (is_semaphore_sequencer pairs.common pairs.shapes)) c.args.run.now.entries _
    _ _ c.in-Err-NotFollowed.field-0-is c.in-Err-NotFollowed.ensures.err
