use Rattle.evc_engine.proofs.NoteLemmas.{notes_are_written_out}
use Rattle.evc_engine.proofs.laws.notes_are_written_out.Goals as goal

pub returns : goal.returns
returns c = notes_are_written_out
