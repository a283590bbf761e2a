use Rattle.ec_script.proofs.LedHeadings.{lines_lead}
use Rattle.ec_script.proofs.laws.lines_lead_to_headings.Goals as goal

pub returns : goal.returns
returns c = lines_lead
