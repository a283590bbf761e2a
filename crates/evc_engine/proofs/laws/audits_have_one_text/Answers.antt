use Rattle.evc_engine.proofs.OneText.{one_text}
use Rattle.evc_engine.proofs.laws.audits_have_one_text.Goals as goal

pub returns : goal.returns
returns c = one_text
