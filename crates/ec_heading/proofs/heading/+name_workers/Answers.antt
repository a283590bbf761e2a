use Rattle.ec_heading.proofs.shared.NameWords.{added_short}
use Rattle.ec_heading.proofs.heading.+name_workers.Goals as goal

pub add-requires-clause-short : goal.add-requires-clause-short
add-requires-clause-short t c = added_short c.cut_word.result.0.now c.args.names.now c.in_ok-add_bytes.field-0 c.in_ok-add_bytes.ensures.fault
