-- What the notes are: none is left in the buffer, and what is rejected has one.
use Rattle.std.specs.Prelude.{◌≡◌, ℕ, false, true, List, Option}
use Rattle.std.specs.Io.KnownBytes.{Appends, Keeps}
use Rattle.ec_text.specs.Puts.{AppendsPrefix, IsFresh}
use Rattle.evc_engine.specs.declared.status.Status.TheVariants.{Refused}
use Rattle.evc_engine.specs.Checks.{Outputs, Notes, Checks}
use Rattle.evc_engine.specs.Audits.{Audits}

-- if the buffer was empty before, the writer has the whole note, or a proper prefix of it if a
-- write has failed
abbrev pub NotesAreWrittenOut : Type 0
NotesAreWrittenOut = (old new : Outputs) (note : List ℕ) → IsFresh old.notes → Notes old new note
    → (new.notes.failed ≡ false → Appends old.notes.contents new.notes.contents note) × (new.notes.failed ≡ true → AppendsPrefix old.notes.contents new.notes.contents note)

-- nothing was written but this note, both times
abbrev pub BothSay : (old new before after : Outputs) → List ℕ → Type 0
BothSay old new before after note = (Keeps old.out new.out × Notes old new note) × (Keeps before.out after.out × Notes before after note)

-- for bytes that `check` rejects, it always writes the same note
abbrev pub RefusedChecksHaveOneNote : Type 0
RefusedChecksHaveOneNote = (bytes : List ℕ) (left rest : Option (List ℕ)) (old new before after : Outputs)
    → Checks bytes left Refused old new → Checks bytes rest Refused before after → (note : List ℕ) × BothSay old new before after note

-- for bytes that `audit` rejects, it always writes the same note; if they are a trace with a group
-- whose rules are broken, one group, one worker and one entry are named
abbrev pub RefusedAuditsHaveOneNote : Type 0
RefusedAuditsHaveOneNote = (bytes : List ℕ) (left rest : Option (List ℕ)) (old new before after : Outputs)
    → Audits bytes left Refused old new → Audits bytes rest Refused before after → (note : List ℕ) × BothSay old new before after note

-- if `check` rejects bytes, `audit` writes the same note, if it ends with status 1
abbrev pub RefusalsAreAlike : Type 0
RefusalsAreAlike = (bytes : List ℕ) (left rest : Option (List ℕ)) (old new before after : Outputs)
    → Checks bytes left Refused old new → Audits bytes rest Refused before after → (note : List ℕ) × BothSay old new before after note
