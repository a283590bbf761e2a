-- The parser of scripts, line by line.
use Rattle.std.specs.Prelude.{◌≡◌, ℕ, Bool, false, ◌&&◌, ◌==◌, not, nat_lt, List, [], ◌∷◌, ◌++◌, length, replicate, slice_set, Option, Some, None, option_map, Result, Ok, Err, IsOk, if◌then◌else◌, bytes_eq, codes}
use Rattle.std.specs.Option.{option_map_or}
use Rattle.ec_text.specs.Words.{words_of, number_in_word, is_number_form}
use Rattle.ec_heading.specs.declared.version.Version.{Version}
use Rattle.ec_heading.specs.Versions.{is_limit, version_of}
use Rattle.ec_heading.specs.HeadingModel.{HeadingModel}
use Rattle.ec_heading.specs.HeaderTree.{empty_heading}
use Rattle.ec_heading.specs.Heading.{head_step, is_no_line}
use Rattle.ec_heading.specs.Lists.{ids_in}
use Rattle.ec_heading.specs.declared.heading.HeadFault.{HeadFault}
use Rattle.ec_script.specs.Headers.{script_header, version_limit}
use Rattle.ec_script.specs.declared.fault.Kind.{Kind}
use Rattle.ec_script.specs.declared.fault.Kind.TheVariants as kinds
use Rattle.ec_script.specs.declared.fault.StageFault.{StageFault}
use Rattle.ec_script.specs.declared.fault.StageFault.TheVariants as faults
use Rattle.ec_script.specs.declared.verb.LineWord.{LineWord}
use Rattle.ec_script.specs.declared.verb.LineWord.TheVariants as verbs
use Rattle.ec_script.specs.declared.object.Object.{Object}
use Rattle.ec_script.specs.declared.object.Object.TheVariants.{Worker}
use Rattle.ec_script.specs.declared.block_item.BlockItem.{BlockItem}
use Rattle.ec_script.specs.declared.block_item.BlockItem.TheVariants.{Begin, End}
use Rattle.ec_script.specs.declared.kinds.BlockContext.{BlockContext}
use Rattle.ec_script.specs.declared.script.OpenBlock.{OpenBlock}
use Rattle.ec_script.specs.declared.stage.Stage.{Stage}
use Rattle.ec_script.specs.declared.stage.Stage.TheVariants.{Opening, Limiting, Naming, Reading}
use Rattle.ec_script.specs.Faults.{kind_of_head}
use Rattle.ec_script.specs.Verbs.{parse_line_word, is_update, is_outer}
use Rattle.ec_script.specs.Forms.{Phrase, phrase_in}
use Rattle.ec_script.specs.Objects.{object_in}
use Rattle.ec_script.specs.DraftModel.{empty_draft, draft_with_item}
use Rattle.ec_script.specs.Kinds.{LineContextModel, phrase_fault, or_nothing}
use Rattle.ec_script.specs.BlockItems.{size_in, command_in}
use Rattle.ec_script.specs.ScriptModel.{ScriptModel}

-- WHAT THE FAULTS OF A LINE DEPEND ON

abbrev pub view_of_block : OpenBlock → BlockContext
view_of_block b = record { worker = b.worker; depth = b.draft.depth; is_empty = b.draft.is_empty; commands = b.draft.commands }

abbrev pub context_of_script : ScriptModel → LineContextModel
context_of_script s = record { heading = s.heading; named = s.named; block = option_map view_of_block s.block; scheduled = length s.schedule }

-- THE SCRIPT AFTER A LINE

-- the block of a worker begins
abbrev pub with_worker_block : ScriptModel → Object → ScriptModel
with_worker_block s (Worker w) = record s { named = s.named ++ w ∷ []; block = Some (record { worker = w; draft = empty_draft }) }
with_worker_block s _ = s

-- one more line in the block
abbrev pub block_with_item : ScriptModel → Option OpenBlock → BlockItem → ScriptModel
block_with_item s None o = s
block_with_item s (Some b) o = record s { block = Some (record { worker = b.worker; draft = draft_with_item b.draft o }) }

abbrev pub after_item : ScriptModel → BlockItem → ScriptModel
after_item s o = block_with_item s s.block o

abbrev pub after_command : ScriptModel → Option BlockItem → ScriptModel
after_command s None = s
after_command s (Some o) = after_item s o

-- an `end` closes the innermost repeat, otherwise the block, which then is the worker's program
abbrev pub with_block_end : ScriptModel → Option OpenBlock → ScriptModel
with_block_end s None = s
with_block_end s (Some b) =
    if b.draft.depth == 0 then record s { programs = slice_set s.programs b.worker b.draft.block_items; block = None }
    else block_with_item s (Some b) End

abbrev pub after_verb : LineWord → ScriptModel → Object → List (List ℕ) → ScriptModel
after_verb verbs.Worker s o ws = with_worker_block s o
after_verb verbs.Schedule s o ws = record s { schedule = s.schedule ++ ids_in s.heading.words ws }
after_verb verbs.Repeat s o ws = after_item s (Begin (size_in ws))
after_verb verbs.End s o ws = with_block_end s s.block
after_verb v s o ws = after_command s (command_in v (is_update v) o ws)

-- the script after a line of one of the forms
abbrev pub after : ScriptModel → Phrase → ScriptModel
after s p = after_verb p.verb s (or_nothing (object_in s.heading p)) p.rest

-- LINES AFTER THE WORKERS

abbrev pub fault_or : Option Kind → ScriptModel → Result ScriptModel Kind
fault_or None s = Ok s
fault_or (Some kind) s = Err kind

abbrev pub after_phrase : ScriptModel → Option Phrase → Result ScriptModel Kind
after_phrase s None = Err kinds.BadLine
after_phrase s (Some p) =
    fault_or (phrase_fault (context_of_script s) p (object_in s.heading p)) (after s p)

abbrev pub map_heading : ScriptModel → Result HeadingModel HeadFault → Result ScriptModel Kind
map_heading s (Ok h) = Ok (record s { heading = h })
map_heading s (Err fault) = Err (kind_of_head fault)

-- whether no `worker` and no `schedule` line came yet
abbrev pub is_declaring : ScriptModel → Bool
is_declaring s = length s.named == 0 && length s.schedule == 0

-- whether the words open with `worker` or `schedule`
abbrev pub opens_outer : List (List ℕ) → Bool
opens_outer [] = false
opens_outer (w ∷ ws) = option_map_or is_outer (parse_line_word w) false

-- declarations come before the first `worker` and `schedule` line
unfoldable pub script_step : ScriptModel → List ℕ → Result ScriptModel Kind
script_step s line =
    if is_declaring s && not (opens_outer (words_of line)) then map_heading s (head_step s.heading line)
    else (if is_no_line line then Err kinds.BadLine else after_phrase s (phrase_in (words_of line)))

-- THE FIRST LINES

abbrev pub stage_of_version : Option Version → Result Stage Kind
stage_of_version None = Err kinds.BadHeader
stage_of_version (Some v) = Ok (Limiting v)

abbrev pub after_limit : Version → Option ℕ → Result Stage Kind
after_limit v None = Err kinds.BadNumber
after_limit v (Some n) =
    if is_limit v n then Ok (Naming (version_limit v n)) else Err kinds.BadNumber

-- the digits after the word `limit`, if nothing else follows it
abbrev pub limit_digits : List (List ℕ) → Option (List ℕ)
limit_digits (w ∷ n ∷ []) = if bytes_eq w (codes "limit") && is_number_form n then Some n else None
limit_digits _ = None

abbrev pub limit_or : Version → Option (List ℕ) → Result Stage Kind
limit_or v None = Err kinds.BadLine
limit_or v (Some n) = after_limit v (number_in_word n)

-- the limit that was returned, or the kind
abbrev pub LimitIs : Version → Result ℕ Kind → Result Stage Kind → Type 0
LimitIs v (Ok n) stepped = stepped ≡ Ok (Naming (version_limit v n))
LimitIs v (Err kind) stepped = stepped ≡ Err kind

unfoldable pub limit_step : Version → List ℕ → Result Stage Kind
limit_step v line = if nat_lt 8192 (length line) then Err kinds.BadLine else limit_or v (limit_digits (words_of line))

-- a script with this header, before its blocks: each worker has the empty program
abbrev pub script_of : HeadingModel → ScriptModel
script_of h = record { heading = h; named = []; programs = replicate h.setup.workers []; block = None; schedule = [] }

abbrev pub stage_of_heading : Result HeadingModel HeadFault → Result Stage Kind
stage_of_heading (Ok h) = Ok (Reading (script_of h))
stage_of_heading (Err fault) = Err (kind_of_head fault)

abbrev pub read_on : Result ScriptModel Kind → Result Stage Kind
read_on (Ok s) = Ok (Reading s)
read_on (Err kind) = Err kind

-- ANY LINE

-- the stage after a line, or the least kind of fault of the line
unfoldable pub step : Stage → List ℕ → Result Stage Kind
step Opening line = stage_of_version (version_of script_header line)
step (Limiting v) line = limit_step v line
step (Naming b) line = stage_of_heading (head_step (empty_heading b.version b.limit []) line)
step (Reading s) line = read_on (script_step s line)

-- what a function returned, and the state that it left, are those of the step; out of memory is
-- reported only if the line has no fault
abbrev pub StepFails : {S : Type 0} → StageFault → Result S Kind → Type 0
StepFails faults.Memory stepped = IsOk stepped
StepFails (faults.Of kind) stepped = stepped ≡ Err kind

abbrev pub Steps : {S : Type 0} → Result (Unit {0}) StageFault → Result S Kind → S → Type 0
Steps (Ok x) stepped new = stepped ≡ Ok new
Steps (Err e) stepped new = StepFails e stepped
