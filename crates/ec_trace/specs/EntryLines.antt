-- Which lines are entries: the encodings of those that may be written under a header, and no
-- others. So what a faulty line after `run` is, without how a line is read.
use Rattle.std.specs.Prelude.{◌≡◌, ◌≢◌, ◌↔◌, ℕ, ◌<◌, List, true, false, codes, reverse, Some, None, Ok, Err}
use Rattle.ec_count.specs.Tables.{Tables}
use Rattle.ec_core.specs.declared.act.Entry.{Entry}
use Rattle.ec_core.specs.declared.act.TheConstants.{VALUE_MAX}
use Rattle.ec_core.specs.Acceptance.{names_unknown_object, is_too_large, answer_of}
use Rattle.ec_core.specs.Values.{TellsAtMost}
use Rattle.ec_heading.specs.HeadingModel.{HeadingModel}
use Rattle.ec_heading.specs.HeaderTree.{HeaderTree, IsHeaderTree, heading_of_tree}
use Rattle.ec_heading.specs.HeadingInvariant.{HasHeaderTree}
use Rattle.ec_heading.specs.Spelling.{entry_line}
use Rattle.ec_heading.specs.Versions.{can_spell}
use Rattle.ec_trace.specs.declared.fault.LineFault.{LineFault}
use Rattle.ec_trace.specs.declared.fault.LineFault.TheVariants.{Bad, Refused, WrongReply}
use Rattle.ec_trace.specs.Stages.{Opening, Running}
use Rattle.ec_trace.specs.Entries.{entry_of}
use Rattle.ec_trace.specs.FirstFault.{Leads}
use Rattle.ec_trace.specs.TraceModel.{TraceModel}
use Rattle.ec_trace.specs.Step.{step}

-- the worker, the object and the receiver that an entry names are declared, and its value and the number of its reply are at most the
-- greatest value; it need not be accepted, nor allowed by the version
pub record MayBeWritten (t : Tables) (e : Entry) : Type 0 where
  pub worker : e.worker < t.workers
  pub object : names_unknown_object t e.act ≡ false
  pub value : is_too_large e.act ≡ false
  pub reply : TellsAtMost VALUE_MAX e.reply

-- the line is the encoding of this entry, which may be written
abbrev pub SpellsEntry : HeadingModel → List ℕ → Entry → Type 0
SpellsEntry h line e = MayBeWritten h.setup e × (line ≡ entry_line h.words e)

-- the line is the encoding of no entry
abbrev pub SpellsNoEntry : HeadingModel → List ℕ → Type 0
SpellsNoEntry h line = (e : Entry) → SpellsEntry h line e → ⊥

-- the line is the encoding of this entry, and the version allows it
abbrev pub SpellsInVersion : HeadingModel → List ℕ → Entry → Type 0
SpellsInVersion h line e = SpellsEntry h line e × (can_spell h.version e.act ≡ true)

-- the line is the encoding of no entry that the version allows
abbrev pub SpellsNoneInVersion : HeadingModel → List ℕ → Type 0
SpellsNoneInVersion h line = (e : Entry) → SpellsInVersion h line e → ⊥

-- why a line after `run` is rejected, after these entries: it is neither `end` nor the encoding of
-- an entry that the version allows; or it encodes such an entry that is refused; or one whose right
-- reply is another
abbrev pub IsEntryFault : TraceModel → List ℕ → LineFault → Type 0
IsEntryFault t line Bad = (line ≢ codes "end") × SpellsNoneInVersion t.heading line
IsEntryFault t line (Refused r) = (e : Entry) × SpellsInVersion t.heading line e × (answer_of t.heading.setup (reverse t.entries) e.worker e.act ≡ Err r)
IsEntryFault t line (WrongReply right) = (e : Entry) × SpellsInVersion t.heading line e × (answer_of t.heading.setup (reverse t.entries) e.worker e.act ≡ Ok right) × (right ≢ e.reply)

-- THEOREMS

-- a line is read as an entry exactly if it is the encoding of that entry
abbrev pub EntriesAreSpelled : Type 0
EntriesAreSpelled = (o : HeaderTree) (line : List ℕ) (e : Entry) → IsHeaderTree o → (entry_of (heading_of_tree o).words line ≡ Some e) ↔ SpellsEntry (heading_of_tree o) line e

-- and as none exactly if it is the encoding of none
abbrev pub OtherLinesSpellNone : Type 0
OtherLinesSpellNone = (o : HeaderTree) (line : List ℕ) → IsHeaderTree o → (entry_of (heading_of_tree o).words line ≡ None) ↔ SpellsNoEntry (heading_of_tree o) line

-- at `run` the header of a trace is what a syntax tree declares
abbrev pub LinesLeadToOutlines : Type 0
LinesLeadToOutlines = (before : List (List ℕ)) (t : TraceModel) → Leads Opening before (Running t) → HasHeaderTree t.heading

-- so a fault of a line after `run` is reported exactly if the line has it
abbrev pub FaultsOfEntries : Type 0
FaultsOfEntries = (before : List (List ℕ)) (t : TraceModel) (line : List ℕ) (fault : LineFault) → Leads Opening before (Running t)
    → (step (Running t) line ≡ Err fault) ↔ IsEntryFault t line fault
