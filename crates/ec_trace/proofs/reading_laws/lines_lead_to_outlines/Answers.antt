use Rattle.ec_trace.proofs.LinesToTrees.{lines_lead}
use Rattle.ec_trace.proofs.reading_laws.lines_lead_to_outlines.Goals as goal

pub returns : goal.returns
returns c = lines_lead
