-- The status of the program and what it writes, for an input whose bytes are known.
use Rattle.std.specs.Prelude.{◌≡◌, ◌⊎◌, ℕ, List, Option, codes}
use Rattle.std.specs.Io.KnownBytes.{Appends, Keeps}
use Rattle.ec_text.specs.Puts.{AppendsPrefix}
use Rattle.ec_text.specs.Inputs.{looked_at, IsCutOff}
use Rattle.ec_trace.specs.declared.read.TheConstants.{TRACE_MAX}
use Rattle.evc_engine.specs.declared.status.Status.{Status}
use Rattle.evc_engine.specs.declared.status.Status.TheVariants.{InputOutput, Memory}
use Rattle.evc_engine.specs.Checks.{Outputs, Notes, KeepsNotes}
use Rattle.evc_explain_engine.specs.Explanations.{IsExplanation}
use Rattle.evc_explain_engine.specs.declared.explanation.Explanation.{Explanation}

-- the text was written, and the program ends so; or a write failed, and a prefix of it was written
abbrev pub Writes : List ℕ → Status → Status → Outputs → Outputs → Type 0
Writes text done status old new =
    ((status ≡ done) × Appends old.out new.out text × KeepsNotes old new)
    ⊎ ((status ≡ InputOutput) × AppendsPrefix old.out new.out text
    × Notes old new (codes "write fault\n"))

-- an allocation failed, and nothing was written
abbrev pub IsOutOfMemory : Status → Outputs → Outputs → Type 0
IsOutOfMemory status old new =
    (status ≡ Memory) × Keeps old.out new.out × Notes old new (codes "no memory\n")

-- how the program ended with a text that was read to its end: its explanation was written
abbrev pub ExplainsText : List ℕ → Status → Outputs → Outputs → Type 0
ExplainsText text status old new =
    IsOutOfMemory status old new
    ⊎ ((explanation : Explanation) × IsExplanation text explanation
    × Writes explanation.bytes.items explanation.status status old new)

-- a failed read is reported, and nothing was written
abbrev pub ReportsReadFault : Status → Outputs → Outputs → Type 0
ReportsReadFault status old new =
    (status ≡ InputOutput) × Keeps old.out new.out × Notes old new (codes "read fault\n")

-- how the program ended, for an input that had these bytes and has those left: the part that was
-- read is explained, which is all of it, or one byte more than a trace may have; or a read failed
abbrev pub Explains : List ℕ → Option (List ℕ) → Status → Outputs → Outputs → Type 0
Explains bytes left status old new =
    IsOutOfMemory status old new
    ⊎ (ExplainsText (looked_at TRACE_MAX bytes) status old new
    ⊎ ((text : List ℕ) × IsCutOff TRACE_MAX bytes left text × ReportsReadFault status old new))
