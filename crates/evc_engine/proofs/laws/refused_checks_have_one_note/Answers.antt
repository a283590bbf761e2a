use Rattle.evc_engine.proofs.OneNote.{checks_note}
use Rattle.evc_engine.proofs.laws.refused_checks_have_one_note.Goals as goal

pub returns : goal.returns
returns c = checks_note
