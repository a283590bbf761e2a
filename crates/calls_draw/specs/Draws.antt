-- What `draw_calls` returned, reported and wrote.
use Rattle.std.specs.Prelude.{◌≡◌, ◌⊎◌, ◌<◌, List, [], ℕ, Option, Some, length, IsSome, codes}
use Rattle.std.specs.Io.KnownBytes.{Appends, Keeps}
use Rattle.ec_text.specs.Puts.{OutputModel, Puts, AppendsPrefix, at_first}
use Rattle.calls_report.specs.declared.status.Status.{Status}
use Rattle.calls_report.specs.declared.status.Status.TheVariants as statuses
use Rattle.calls_report.specs.Checks.{Outputs, ChecksWhole}
use Rattle.calls_draw.specs.declared.view.CallsView.{CallsView}

-- something is chosen
abbrev pub Chooses : CallsView → Type 0
Chooses view =
    (0 < length view.workers.now)
    ⊎ ((0 < length view.objects.now) ⊎ (IsSome view.from ⊎ IsSome view.to))

-- `check` ends with this status for the text, and leaves this note in an empty writer, whatever
-- becomes of its linearizations
abbrev pub IsNoteOn : List ℕ → Status → List ℕ → Type 0
IsNoteOn text status note =
    (before after : Option (List ℕ)) × (writer : ℕ)
    × ChecksWhole status text (record { out = before; notes = at_first writer (Some []) })
    (record { out = after; notes = at_first writer (Some note) })

-- the note and the status are those of `check` for this text
abbrev pub SaysAsCheck : List ℕ → Status → OutputModel → OutputModel → Type 0
SaysAsCheck text status old new =
    (note : List ℕ) × IsNoteOn text status note × Puts old new note

-- the note that only the last events are drawn
abbrev pub cut_note : List ℕ
cut_note = codes "more than 400 events: only the last 400 are drawn\n"

-- what `check` says was reported, and maybe that only the last events are drawn
abbrev pub SaysOfPicture : List ℕ → Status → OutputModel → OutputModel → Type 0
SaysOfPicture text status old new =
    (said : OutputModel) × SaysAsCheck text status old said
    × ((new ≡ said) ⊎ Puts said new cut_note)

-- a picture was written, and what `check` says was reported; or a write failed, and only a proper
-- prefix of the picture was written
abbrev pub WritesOne : List ℕ → Status → Outputs → Outputs → Type 0
WritesOne text status old new =
    (picture : List ℕ)
    × ((Appends old.out new.out picture × SaysOfPicture text status old.notes new.notes)
    ⊎ ((status ≡ statuses.InputOutput) × AppendsPrefix old.out new.out picture
    × Puts old.notes new.notes (codes "write fault\n")))

-- nothing was written: the choice is empty or not declared, or memory ran out, or the text is not
-- good, and what `check` says was reported
abbrev pub WritesNone : Type 0 → List ℕ → Status → Outputs → Outputs → Type 0
WritesNone Chosen text status old new =
    Keeps old.out new.out
    × (((status ≡ statuses.Usage) × Chosen)
    ⊎ (((status ≡ statuses.Memory) × Puts old.notes new.notes (codes "no memory\n"))
    ⊎ ((status ≡ statuses.Done → ⊥) × SaysAsCheck text status old.notes new.notes)))

-- how `draw_calls` ended; `Chosen` says that something is chosen
abbrev pub Draws : Type 0 → List ℕ → Status → Outputs → Outputs → Type 0
Draws Chosen text status old new =
    WritesOne text status old new ⊎ WritesNone Chosen text status old new
