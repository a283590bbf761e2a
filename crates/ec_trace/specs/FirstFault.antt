-- What a fault says of the text: which line is at fault, why, and that no line before it is.
use Rattle.std.specs.Prelude.{◌≡◌, ◌≢◌, ◌⊎◌, Option, ℕ, ◌+◌, ◌<◌, ◌≤◌, List, [], ◌∷◌, ◌++◌, length, take, true, Ok, Err}
use Rattle.std.specs.List.{All, AllByRecursion}
use Rattle.ec_trace.specs.declared.fault.LineFault.{LineFault}
use Rattle.ec_trace.specs.declared.fault.LineFault.TheVariants.{Bad}
use Rattle.ec_trace.specs.declared.fault.TraceFault.TheVariants.{TooLarge, Unfinished}
use Rattle.ec_trace.specs.Stages.{Stage, Opening}
use Rattle.ec_trace.specs.declared.read.TheConstants.{TRACE_MAX}
use Rattle.ec_heading.specs.Spelling.{lines_text}
use Rattle.ec_trace.specs.Step.{step, is_ended}
use Rattle.ec_trace.specs.Outcome.{fault_of_line, parse_result, HasNoFault}

-- a line, without its LF
pub record IsLine (line : List ℕ) : Type 0 where
  pub no_lf : All (λ b. b ≢ 10) line
  pub short : length line ≤ 8192

-- the lines lead from one stage to another
abbrev pub Leads : Stage → List (List ℕ) → Stage → Type 0
Leads s [] t = s ≡ t
Leads s (line ∷ lines) t = (next : Stage) × (step s line ≡ Ok next) × Leads next lines t

-- the line has more than 8192 bytes
abbrev pub IsTooLong : List ℕ → LineFault → Type 0
IsTooLong line fault = (8192 < length line) × (fault ≡ Bad)

-- bytes without an LF follow the last line
abbrev pub IsBehindTheEnd : Stage → List ℕ → List ℕ → LineFault → Type 0
IsBehindTheEnd s line behind fault = (behind ≡ []) × (is_ended s ≡ true) × (0 < length line) × (fault ≡ Bad)

-- an LF ends the line, which is not too long, and it is rejected at this stage
abbrev pub IsRefusedThere : Stage → List ℕ → List ℕ → LineFault → Type 0
IsRefusedThere s line behind fault = (length line ≤ 8192) × (more : List ℕ) × (behind ≡ 10 ∷ more) × (step s line ≡ Err fault)

-- the first faulty line of a text: the lines before it are accepted in order, and it is at fault
pub record IsFirstFault (text : List ℕ) (n : ℕ) (fault : LineFault) : Type 0 where
  pub before : List (List ℕ)
  pub stage : Stage
  pub line : List ℕ
  pub behind : List ℕ
  pub whole : text ≡ lines_text before ++ (line ++ behind)
  pub number : length before + 1 ≡ n
  pub each : AllByRecursion IsLine before
  pub leads : Leads Opening before stage
  pub no_lf : All (λ b. b ≢ 10) line
  pub why : IsTooLong line fault ⊎ (IsBehindTheEnd stage line behind fault ⊎ IsRefusedThere stage line behind fault)

-- a reported fault of a line is that of the first faulty line of the text, up to the bound
abbrev pub LineFaultIsTheFirst : Type 0
LineFaultIsTheFirst = (bytes : List ℕ) (n : ℕ) (fault : LineFault) → parse_result TRACE_MAX bytes ≡ Err (fault_of_line n fault) → IsFirstFault (take TRACE_MAX bytes) n fault

-- the fault of the first faulty line of the text, up to the bound, is reported
abbrev pub FirstFaultWins : Type 0
FirstFaultWins = (bytes : List ℕ) (n : ℕ) (fault : LineFault) → IsFirstFault (take TRACE_MAX bytes) n fault → parse_result TRACE_MAX bytes ≡ Err (fault_of_line n fault)

-- a text is too large only if it exceeds the bound, and unfinished only if it doesn't
abbrev pub FaultOfTheWhole : Type 0
FaultOfTheWhole = (bytes : List ℕ)
    → (parse_result TRACE_MAX bytes ≡ Err TooLarge → TRACE_MAX < length bytes) × (parse_result TRACE_MAX bytes ≡ Err Unfinished → length bytes ≤ TRACE_MAX)

-- if a failed read is reported, what was read before it has no faulty line
abbrev pub FailedReadHasNoFault : Type 0
FailedReadHasNoFault = (bytes : List ℕ) (left : Option (List ℕ)) (failed : HasNoFault TRACE_MAX bytes left) (n : ℕ) (fault : LineFault) → IsFirstFault failed.given n fault → ⊥
