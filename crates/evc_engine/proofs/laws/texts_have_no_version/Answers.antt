use Rattle.evc_engine.proofs.UpgradeLemmas.{texts_same}
use Rattle.evc_engine.proofs.laws.texts_have_no_version.Goals as goal

pub returns : goal.returns
returns c = texts_same
