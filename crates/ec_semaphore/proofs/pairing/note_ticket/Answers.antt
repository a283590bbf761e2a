use Rattle.ec_core.specs.Following.{block}
use Rattle.ec_semaphore.specs.Both.{both_rule}
use Rattle.ec_semaphore.proofs.Latest.{drawn_more}
use Rattle.ec_semaphore.proofs.pairing.note_ticket.Goals as goal

pub returns : goal.returns
returns c = λ s lines t past kept dec acc f was.
    (let x = c.args.entry.now in
    drawn_more s lines t x past c.args.latest.now c.index-latest-worker.result _ c.drawn_after.result c.get-worker.result c.complete_pair-pair.result
    c.told-latest c.get-worker.ensures.value c.get-worker.ensures.small c.drawn_after.ensures
    (λ drawn. c.complete_pair-pair.ensures (block (both_rule s lines) x.worker past) kept drawn) dec acc f was)
