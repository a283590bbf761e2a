-- Which entries keep a trace from having a history of calls, and what a note says about it.
use Rattle.std.specs.Prelude.{◌≡◌, ℕ, ◌<◌, Bool, false, List, [], ◌++◌, Option, Some, None, slice_get, codes}
use Rattle.std.specs.Prelude.{if◌then◌else◌, decimal}
use Rattle.std.specs.Option.{option_and_then, option_map_or}
use Rattle.std.specs.List.{list_any}
use Rattle.ec_core.specs.declared.act.Act.{Act}
use Rattle.ec_core.specs.declared.act.Act.TheVariants as acts
use Rattle.ec_core.specs.declared.act.Entry.{Entry}
use Rattle.ec_count.specs.declared.target.Target.TheVariants.{Worker}
use Rattle.ec_heading.specs.Spelling.{NameTable, target_name}
use Rattle.ec_heading.specs.declared.group.Group.{Group}
use Rattle.ec_heading.specs.Groups.{has_event, has_sequencer, has_cell}
use Rattle.calls_extract.specs.declared.cause.Cause.{Cause}
use Rattle.calls_extract.specs.declared.cause.Cause.TheVariants.{OfGroup, HandsOver}

-- whether the object of an act belongs to a group
abbrev pub is_on_group : List Group → Act → Bool
is_on_group gs (acts.Advance e) = list_any (λ g. has_event g e) gs
is_on_group gs (acts.Read e) = list_any (λ g. has_event g e) gs
is_on_group gs (acts.Await e v) = list_any (λ g. has_event g e) gs
is_on_group gs (acts.Ticket q) = list_any (λ g. has_sequencer g q) gs
is_on_group gs (acts.Put x v) = list_any (λ g. has_cell g x) gs
is_on_group gs (acts.Get x) = list_any (λ g. has_cell g x) gs
is_on_group gs acts.Go = false
is_on_group gs (acts.Hand e b) = false

abbrev pub cause_of : List Group → Act → Option Cause
cause_of gs (acts.Hand e b) = Some HandsOver
cause_of gs act = if is_on_group gs act then Some OfGroup else None

abbrev pub cause_at : List Group → List Entry → ℕ → Option Cause
cause_at gs entries i = option_and_then (λ (x : Entry). cause_of gs x.act) (slice_get entries i)

-- none of the first n entries keeps the trace from having a history of calls
abbrev pub HasNoneBefore : List Group → List Entry → ℕ → Type 0
HasNoneBefore gs entries n = (i : ℕ) → i < n → cause_at gs entries i ≡ None

-- the entry at position i is the first that keeps it from that, and this is why
abbrev pub IsFirstCause : List Group → List Entry → ℕ → Cause → Type 0
IsFirstCause gs entries i why = (cause_at gs entries i ≡ Some why) × HasNoneBefore gs entries i

-- THE NOTE

abbrev pub cause_words : Cause → List ℕ
cause_words OfGroup = codes ": the object belongs to a group\n"
cause_words HandsOver = codes ": a component is handed over\n"

-- the name of the worker of the entry at a position
abbrev pub name_at : NameTable → List Entry → ℕ → List ℕ
name_at names entries i =
    option_map_or (λ (x : Entry). target_name names (Worker x.worker)) (slice_get entries i) []

-- the entry, by the name of its worker and its position, and why
abbrev pub cause_note : List ℕ → ℕ → Cause → List ℕ
cause_note worker i why =
    codes "no history of calls: worker " ++ worker ++ codes " entry " ++ decimal i
    ++ cause_words why
