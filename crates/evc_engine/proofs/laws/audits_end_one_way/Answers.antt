use Rattle.evc_engine.proofs.OneText.{text_or_break}
use Rattle.evc_engine.proofs.laws.audits_end_one_way.Goals as goal

pub returns : goal.returns
returns c = text_or_break
