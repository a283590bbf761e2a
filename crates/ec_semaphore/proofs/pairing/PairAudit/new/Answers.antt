use Rattle.ec_semaphore.specs.Both.{is_semaphore_sequencer}
use Rattle.ec_semaphore.proofs.Latest.{paired_none}
use Rattle.ec_semaphore.proofs.pairing.PairAudit.new.Goals as goal

pub returns-clause-first : goal.returns-clause-first
returns-clause-first c =
    let s = c.new-sections.result.common in
    record {
      tracked = c.new-tracker.ensures;
      paired = λ room t declared accepted follows. paired_none s (is_semaphore_sequencer s c.new-sections.result.shapes.now) _ _ c.new-pairs.ensures.items;
    }
