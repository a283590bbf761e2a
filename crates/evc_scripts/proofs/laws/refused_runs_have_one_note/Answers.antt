use Rattle.evc_scripts.proofs.OneNote.{runs_note}
use Rattle.evc_scripts.proofs.laws.refused_runs_have_one_note.Goals as goal

pub returns : goal.returns
returns c = runs_note
