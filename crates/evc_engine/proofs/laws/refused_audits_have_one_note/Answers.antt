use Rattle.evc_engine.proofs.OneNote.{audits_note}
use Rattle.evc_engine.proofs.laws.refused_audits_have_one_note.Goals as goal

pub returns : goal.returns
returns c = audits_note
