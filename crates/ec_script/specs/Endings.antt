-- Which lines of a script are accepted, and which texts end too early.
use Rattle.std.specs.Prelude.{◌≡◌, ◌≢◌, ◌⊎◌, ◌↔◌, ℕ, ◌+◌, ◌<◌, ◌≤◌, List, [], ◌++◌, length, None, Ok, Err}
use Rattle.std.specs.List.{AllByRecursion}
use Rattle.ec_script.specs.declared.fault.Kind.{Kind}
use Rattle.ec_script.specs.declared.fault.Kind.TheVariants as kinds
use Rattle.ec_script.specs.declared.parsing.TheConstants.{SCRIPT_MAX}
use Rattle.ec_script.specs.declared.stage.Stage.{Stage}
use Rattle.ec_script.specs.declared.stage.Stage.TheVariants.{Opening, Reading}
use Rattle.ec_script.specs.Grammar.{IsLine, Leads}
use Rattle.ec_heading.specs.Spelling.{lines_text}
use Rattle.ec_script.specs.Holding.{HasKind}
use Rattle.ec_script.specs.Outcome.{parse_result}
use Rattle.ec_script.specs.Reading.{step}

-- no kind of fault holds of the line in its place
abbrev pub IsFaultless : Stage → List ℕ → Type 0
IsFaultless stage line = (kind : Kind) → HasKind stage line kind → ⊥

-- a block is open
abbrev pub IsInside : Stage → Type 0
IsInside (Reading s) = s.block ≢ None
IsInside _ = ⊥

-- the text ends without the LF of its last line, of which no other kind holds, or after an LF, with
-- no line of workers or inside a block; the line's number is one more than the number of LFs
pub record EndsEarly (text : List ℕ) (n : ℕ) : Type 0 where
  pub before : List (List ℕ)
  pub stage : Stage
  pub line : List ℕ
  pub whole : text ≡ lines_text before ++ line
  pub number : n ≡ length before + 1
  pub each : AllByRecursion IsLine before
  pub plain : IsLine line
  pub leads : Leads Opening before stage
  pub early : ((line ≢ []) × IsFaultless stage line) ⊎ ((line ≡ []) × ((length before < 3) ⊎ IsInside stage))

-- THEOREMS

-- a line is accepted exactly if no kind holds of it
abbrev pub FaultlessLinesAreAccepted : Type 0
FaultlessLinesAreAccepted = (before : List (List ℕ)) (stage : Stage) (line : List ℕ) → Leads Opening before stage → ((next : Stage) × (step stage line ≡ Ok next)) ↔ IsFaultless stage line

-- a text is reported as unfinished exactly if it is within the bound and ends too early
abbrev pub UnfinishedIsReported : Type 0
UnfinishedIsReported = (text : List ℕ) (n : ℕ) → (parse_result text ≡ Err (n, kinds.Unfinished)) ↔ ((length text ≤ SCRIPT_MAX) × EndsEarly text n)
