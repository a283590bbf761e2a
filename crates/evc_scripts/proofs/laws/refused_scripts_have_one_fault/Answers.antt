use Rattle.evc_scripts.proofs.OneNote.{one_fault}
use Rattle.evc_scripts.proofs.laws.refused_scripts_have_one_fault.Goals as goal

pub returns : goal.returns
returns c = one_fault
