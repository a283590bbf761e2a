use Rattle.evc_scripts.proofs.OneNote.{sims_note}
use Rattle.evc_scripts.proofs.laws.refused_sims_have_one_note.Goals as goal

pub returns : goal.returns
returns c = sims_note
