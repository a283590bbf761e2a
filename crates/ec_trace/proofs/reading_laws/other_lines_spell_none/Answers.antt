use Rattle.ec_trace.proofs.EntryLines.{others_spell_none}
use Rattle.ec_trace.proofs.reading_laws.other_lines_spell_none.Goals as goal

pub returns : goal.returns
returns c = others_spell_none
