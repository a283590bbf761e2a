-- The result of a text: a function of its bytes.
use Rattle.std.specs.Prelude.{◌≡◌, ℕ, ◌+◌, ◌==◌, List, [], ◌∷◌, length, map, Option, Some, None, Result, Ok, Err, if◌then◌else◌, nat_lt}
use Rattle.std.specs.List.{slice_split}
use Rattle.ec_heading.specs.declared.version.Version.{Version}
use Rattle.ec_heading.specs.Versions.{version_of}
use Rattle.ec_script.specs.Headers.{script_header}
use Rattle.ec_script.specs.declared.fault.Kind.{Kind}
use Rattle.ec_script.specs.declared.fault.Kind.TheVariants as kinds
use Rattle.ec_script.specs.declared.fault.ScriptFault.{ScriptFault}
use Rattle.ec_script.specs.declared.fault.ScriptFault.TheVariants as faults
use Rattle.ec_script.specs.declared.fault.StageFault.{StageFault}
use Rattle.ec_script.specs.declared.fault.StageFault.TheVariants as stages
use Rattle.ec_script.specs.declared.parsing.TheConstants.{SCRIPT_MAX}
use Rattle.ec_script.specs.declared.plan.Plan.{Plan}
use Rattle.ec_script.specs.declared.script.OpenBlock.{OpenBlock}
use Rattle.ec_script.specs.declared.stage.Stage.{Stage}
use Rattle.ec_script.specs.declared.stage.Stage.TheVariants.{Opening, Reading}
use Rattle.ec_script.specs.Flat.{flat}
use Rattle.ec_script.specs.ScriptModel.{ScriptModel, PlanModel}
use Rattle.ec_script.specs.Reading.{step}

-- a plan, or the faulty line and its kind
abbrev pub ParseResult : Type 0
ParseResult = Result PlanModel (ℕ × Kind)

-- the lines of a text: each part but the last ends in an LF
abbrev pub lines_of_text : List ℕ → List (List ℕ)
lines_of_text bytes = slice_split (λ b. b == 10) bytes

-- THE END OF A TEXT

-- there is a plan if no block is open
abbrev pub plan_or : ScriptModel → Option OpenBlock → Option PlanModel
plan_or s None = Some (record { heading = s.heading; programs = s.programs; schedule = s.schedule })
plan_or s (Some b) = None

abbrev pub plan_in : Stage → Option PlanModel
plan_in (Reading s) = plan_or s s.block
plan_in _ = None

abbrev pub plan_or_fault : ℕ → Option PlanModel → ParseResult
plan_or_fault n None = Err (n, kinds.Unfinished)
plan_or_fault n (Some p) = Ok p

-- goes on if the line was accepted
abbrev pub after_line : ℕ → Result Stage Kind → (Stage → ParseResult) → ParseResult
after_line n (Ok s) others = others s
after_line n (Err kind) others = Err (n, kind)

-- after the last LF comes nothing, or a line that lacks its LF, which is judged like every line
abbrev pub parse_end : ℕ → Stage → List ℕ → ParseResult
parse_end n s [] = plan_or_fault n (plan_in s)
parse_end n s (b ∷ bs) = after_line n (step s (b ∷ bs)) (λ t. Err (n, kinds.Unfinished))

-- WHOLE TEXTS

-- the lines one after another, from line n on in the stage s, up to the first fault
unfoldable pub parse_from : ℕ → Stage → List (List ℕ) → ParseResult
parse_from n s [] = parse_end n s []
parse_from n s (rest ∷ []) = parse_end n s rest
parse_from n s (line ∷ next ∷ others) =
    after_line n (step s line) (λ t. parse_from (n + 1) t (next ∷ others))

abbrev pub first_or_empty : List (List ℕ) → List ℕ
first_or_empty [] = []
first_or_empty (line ∷ lines) = line

-- of a text that is too long only line 1 is read
abbrev pub long_by : Option Version → Kind
long_by None = kinds.BadHeader
long_by (Some v) = kinds.TooMany

abbrev pub long_kind : List ℕ → Kind
long_kind line = long_by (version_of script_header line)

-- the result of a text
unfoldable pub parse_result : List ℕ → ParseResult
parse_result bytes = if nat_lt SCRIPT_MAX (length bytes) then Err (1, long_kind (first_or_empty (lines_of_text bytes))) else parse_from 1 Opening (lines_of_text bytes)

-- a plan with its programs as lists of lines
abbrev pub shown_plan : Plan → PlanModel
shown_plan p = record { heading = p.heading; programs = map flat p.programs.items; schedule = p.schedule.items }

-- what the parser returned for a text; out of memory says nothing about it
abbrev pub Returns : ParseResult → Result Plan ScriptFault → Type 0
Returns o (Ok plan) = o ≡ Ok (shown_plan plan)
Returns o (Err (faults.At line kind)) = o ≡ Err (line, kind)
Returns o (Err faults.Memory) = Unit {0}

-- the fault of a line, with its number
abbrev pub fault_at : ℕ → StageFault → ScriptFault
fault_at n stages.Memory = faults.Memory
fault_at n (stages.Of kind) = faults.At n kind
