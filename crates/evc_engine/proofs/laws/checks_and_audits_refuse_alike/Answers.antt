use Rattle.evc_engine.proofs.OneNote.{alike}
use Rattle.evc_engine.proofs.laws.checks_and_audits_refuse_alike.Goals as goal

pub returns : goal.returns
returns c = alike
