-- The grammar of scripts: which bytes say which plan, and which line is the first faulty one. It
-- says nothing about how a text is parsed.
use Rattle.std.specs.Prelude.{◌≡◌, ◌≢◌, ◌⊎◌, ◌↔◌, ℕ, ◌==◌, false, ◌+◌, ◌<◌, ◌≤◌, List, [], ◌∷◌, ◌++◌, length, Some, None, Ok, Err}
use Rattle.std.specs.List.{All, AllByRecursion, flat_map}
use Rattle.ec_heading.specs.declared.version.Version.{Version}
use Rattle.ec_script.specs.Headers.{script_header}
use Rattle.ec_script.specs.declared.fault.Kind.{Kind}
use Rattle.ec_script.specs.declared.fault.Kind.TheVariants as kinds
use Rattle.ec_script.specs.declared.parsing.TheConstants.{SCRIPT_MAX}
use Rattle.ec_script.specs.declared.stage.Stage.{Stage}
use Rattle.ec_script.specs.declared.stage.Stage.TheVariants.{Opening}
use Rattle.ec_script.specs.ScriptModel.{PlanModel}
use Rattle.ec_script.specs.Reading.{step}
use Rattle.ec_script.specs.Outcome.{parse_result, lines_of_text, plan_in, first_or_empty, long_kind}
use Rattle.ec_heading.specs.Spelling.{lines_text}

-- a line has no LF
abbrev pub IsLine : List ℕ → Type 0
IsLine line = All (λ b. (b == 10) ≡ false) line

-- the lines, one after another, have no fault, and lead from one stage to another
abbrev pub Leads : Stage → List (List ℕ) → Stage → Type 0
Leads s [] t = s ≡ t
Leads s (line ∷ lines) t = (next : Stage) × (step s line ≡ Ok next) × Leads next lines t

-- the bytes are a script that says this plan
pub record IsScript (bytes : List ℕ) (p : PlanModel) : Type 0 where
  pub lines : List (List ℕ)
  pub stage : Stage
  pub text : bytes ≡ lines_text lines
  pub each : AllByRecursion IsLine lines
  pub leads : Leads Opening lines stage
  pub plan : plan_in stage ≡ Some p
  pub within : length bytes ≤ SCRIPT_MAX

-- the bytes say no plan
abbrev pub IsNoScript : List ℕ → Type 0
IsNoScript bytes = (p : PlanModel) → IsScript bytes p → ⊥

-- a script is parsed to its plan
abbrev pub ScriptIsRead : Type 0
ScriptIsRead = (bytes : List ℕ) (p : PlanModel) → IsScript bytes p → parse_result bytes ≡ Ok p

-- what is parsed to a plan is a script of that plan
abbrev pub ReadIsScript : Type 0
ReadIsScript = (bytes : List ℕ) (p : PlanModel) → parse_result bytes ≡ Ok p → IsScript bytes p

-- THE FIRST FAULTY LINE

-- an LF ends the line, or it is the rest of the text and has a byte, and it is faulty in its place
abbrev pub IsRefused : Stage → List ℕ → List ℕ → Kind → Type 0
IsRefused s line behind kind = (((more : List ℕ) × (behind ≡ 10 ∷ more)) ⊎ ((behind ≡ []) × (0 < length line))) × (step s line ≡ Err kind)

-- the rest of the text lacks its LF and has no other fault, or the text ends with an LF but has no
-- plan
abbrev pub IsCutOff : Stage → List ℕ → List ℕ → Kind → Type 0
IsCutOff s line behind kind =
    (behind ≡ []) × (kind ≡ kinds.Unfinished)
    × (((0 < length line) × ((next : Stage) × (step s line ≡ Ok next))) ⊎ ((line ≡ []) × (plan_in s ≡ None)))

-- line n is the first faulty one, and this is its least kind: the lines before it have none
pub record IsFirstFault (text : List ℕ) (n : ℕ) (kind : Kind) : Type 0 where
  pub before : List (List ℕ)
  pub stage : Stage
  pub line : List ℕ
  pub behind : List ℕ
  pub whole : text ≡ lines_text before ++ (line ++ behind)
  pub number : n ≡ length before + 1
  pub each : AllByRecursion IsLine before
  pub plain : IsLine line
  pub leads : Leads Opening before stage
  pub why : IsRefused stage line behind kind ⊎ IsCutOff stage line behind kind

-- what is reported for a text within the bound is its first faulty line
abbrev pub FaultIsTheFirst : Type 0
FaultIsTheFirst = (text : List ℕ) (n : ℕ) (kind : Kind) → length text ≤ SCRIPT_MAX → parse_result text ≡ Err (n, kind) → IsFirstFault text n kind

-- for a longer one it is line 1, and the kind depends on whether that is the first line of a
-- version
abbrev pub LongIsLine1 : Type 0
LongIsLine1 = (text : List ℕ) (n : ℕ) (kind : Kind) → SCRIPT_MAX < length text → parse_result text ≡ Err (n, kind) → (n ≡ 1) × (kind ≡ long_kind (first_or_empty (lines_of_text text)))

-- the bytes before the first LF of a longer text, or all of it, are the first line of a version,
-- and the text has too many bytes; or they are not
pub record IsLongFault (text : List ℕ) (n : ℕ) (kind : Kind) : Type 0 where
  pub line : List ℕ
  pub behind : List ℕ
  pub whole : text ≡ line ++ behind
  pub plain : IsLine line
  pub ends : ((more : List ℕ) × (behind ≡ 10 ∷ more)) ⊎ (behind ≡ [])
  pub number : n ≡ 1
  pub why : ((v : Version) × (line ≡ script_header v) × (kind ≡ kinds.TooMany)) ⊎ (((v : Version) → line ≢ script_header v) × (kind ≡ kinds.BadHeader))

-- the line and the kind for which a text is rejected
abbrev pub IsFault : List ℕ → ℕ → Kind → Type 0
IsFault text n kind = ((length text ≤ SCRIPT_MAX) × IsFirstFault text n kind) ⊎ ((SCRIPT_MAX < length text) × IsLongFault text n kind)

-- a line and a kind are reported for a text exactly if they are its fault
abbrev pub FaultsAreReported : Type 0
FaultsAreReported = (text : List ℕ) (n : ℕ) (kind : Kind) → (parse_result text ≡ Err (n, kind)) ↔ IsFault text n kind
