-- Theorems about histories of steps and histories of calls.
use Rattle.std.specs.Prelude.{◌↔◌, List, reverse}
use Rattle.ec_count.specs.Tables.{Tables, IsDeclared}
use Rattle.ec_core.specs.declared.act.Entry.{Entry}
use Rattle.ec_core.specs.Acceptance.{IsAccepted}
use Rattle.calls_core.specs.declared.history.Event.{Event}
use Rattle.calls_core.specs.declared.history.Call.{Call}
use Rattle.calls_core.specs.Lists.{Each}
use Rattle.calls_core.specs.Histories.{IsHistory}
use Rattle.calls_core.specs.Linearizations.{IsAnsweredLinearization}
use Rattle.calls_core.specs.Completions.{IsLinearizable}
use Rattle.calls_kernel.specs.Outside.{kinds_of, HasOutsideHistory}
use Rattle.calls_kernel.specs.Made.{IsGranted, KeepsLimit, AreMade}
use Rattle.calls_kernel.specs.Recorded.{IsRecord, IsWithin}

-- whatever the interleaving of its steps, an accepted history is linearizable as a history of calls
abbrev pub CallsOfAcceptedHistoriesAreLinearizable : Type 0
CallsOfAcceptedHistoriesAreLinearizable = (t : Tables) (h : List Entry) → IsDeclared t
    → IsAccepted t (reverse h) → HasOutsideHistory t h

-- the calls of each linearization, within the rights and the limit, are made by an accepted history
abbrev pub LinearizationsAreAcceptedHistories : Type 0
LinearizationsAreAcceptedHistories = (t : Tables) (past : List Event) (cs : List Call)
    → IsDeclared t → IsHistory (kinds_of t) past → IsAnsweredLinearization (kinds_of t) past cs
    → Each (IsGranted t) cs → KeepsLimit t cs → AreMade t cs

-- what can have been recorded of a kernel is linearizable
abbrev pub RecordsAreLinearizable : Type 0
RecordsAreLinearizable = (t : Tables) (past : List Event) → IsDeclared t
    → IsHistory (kinds_of t) past → IsRecord t past → IsLinearizable (kinds_of t) past

-- and what has a linearization, within the rights and the limit, can have been recorded of a kernel
abbrev pub LinearizableHistoriesAreRecords : Type 0
LinearizableHistoriesAreRecords = (t : Tables) (past : List Event) (cs : List Call)
    → IsDeclared t → IsHistory (kinds_of t) past → IsAnsweredLinearization (kinds_of t) past cs
    → Each (IsGranted t) cs → KeepsLimit t cs → IsRecord t past

-- so within the rights and the limit the linearizable histories of calls are exactly those that can
-- have been recorded of a kernel
abbrev pub RecordsAreExactlyTheLinearizable : Type 0
RecordsAreExactlyTheLinearizable = (t : Tables) (past : List Event) → IsDeclared t
    → IsHistory (kinds_of t) past → IsWithin t past
    → IsRecord t past ↔ IsLinearizable (kinds_of t) past
