use Rattle.ec_trace.proofs.SpelledLemmas.{no_words}
use Rattle.ec_trace.proofs.spell.WordTable.none.Goals as goal

pub returns : goal.returns
returns c =
    no_words c.filled.result c.filled-2.result c.filled-3.result c.filled-4.result c.as_slice-word.result c.as_slice-word.ensures c.filled.ensures.at c.filled-2.ensures.at c.filled-3.ensures.at c.filled-4.ensures.at
