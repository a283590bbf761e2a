-- Notes are not left in the buffer.
use Rattle.std.proofs.Common.{[]}
use Rattle.ec_text.specs.Puts.{Holds}
use Rattle.ec_text.proofs.shared.PutLemmas.{begins, ends_ok, ends_err}
use Rattle.evc_engine.specs.NoteLaws.{NotesAreWrittenOut}

pub notes_are_written_out : NotesAreWrittenOut
notes_are_written_out old new note none noted =
    let held : Holds old.notes new.notes note = noted.0 old.notes [] (begins old.notes none) in (
      λ well. ends_ok old.notes new.notes note held well (noted.1 well),
      λ failed. ends_err old.notes new.notes note held failed,
    )
