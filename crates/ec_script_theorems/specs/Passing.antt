-- How `check` and `audit` judge what `sim` and `run` wrote.
use Rattle.std.specs.Prelude.{◌≡◌, ◌≢◌, ◌≤◌, ◌⊎◌, ℕ, List, [], ◌++◌, length, reverse, Option, Some}
use Rattle.std.specs.List.{All}
use Rattle.ec_heading.specs.Rules.{FollowsGroup}
use Rattle.ec_trace.specs.TraceModel.{TraceModel}
use Rattle.ec_trace.specs.declared.read.TheConstants.{TRACE_MAX}
use Rattle.evc_engine.specs.declared.status.Status.{Status}
use Rattle.evc_engine.specs.declared.status.Status.TheVariants.{Done, InputOutput, Memory, Stopped}
use Rattle.evc_engine.specs.Audits.{Audits}
use Rattle.evc_engine.specs.Checks.{Outputs, ReadsAs, Checks}
use Rattle.evc_scripts.specs.Runs.{Runs}
use Rattle.evc_scripts.specs.Sims.{Sims}

-- the text is a trace, and its history follows each group of its header
pub record IsFollowedTrace (text : List ℕ) : Type 0 where
  pub recounted : TraceModel
  pub reads : ReadsAs text recounted
  pub followed : All (FollowsGroup recounted.heading.setup recounted.heading.groups (reverse recounted.entries)) recounted.heading.groups

-- a command ended with status 0, or reported a failed read or write (3) or out of memory (4): it
-- rejected nothing
abbrev pub IsNoRefusal : Status → Type 0
IsNoRefusal status = (status ≡ Done) ⊎ (status ≡ InputOutput) ⊎ (status ≡ Memory)

-- however `check` and `audit` end on the text, they don't reject it
pub record Passes (text : List ℕ) : Type 0 where
  pub check : (left : Option (List ℕ)) (status : Status) (old new : Outputs) → Checks text left status old new → IsNoRefusal status
  pub audit : (left : Option (List ℕ)) (status : Status) (old new : Outputs) → Audits text left status old new → IsNoRefusal status

-- a trace that follows each group of its header passes
abbrev pub FollowedTracesPass : Type 0
FollowedTracesPass = (text : List ℕ) → IsFollowedTrace text → Passes text

-- the outlet for the text had some bytes before a command, and has this text after them
pub record HasWritten (old new : Outputs) (text : List ℕ) : Type 0 where
  pub before : List ℕ
  pub had : old.out ≡ Some before
  pub has : new.out ≡ Some (before ++ text)

-- what `sim` wrote if it ended with status 0 is such a trace, if it is within the bound of traces; so it passes
abbrev pub SimulatedTracesPass : Type 0
SimulatedTracesPass = (bytes text : List ℕ) (left : Option (List ℕ)) (old new : Outputs) → Sims bytes left Done old new → HasWritten old new text → length text ≤ TRACE_MAX
    → IsFollowedTrace text × Passes text

-- `run` wrote its whole trace: with status 0, or with 4 or 5 if it wrote anything
abbrev pub IsWhole : Status → List ℕ → Type 0
IsWhole Done text = Unit {0}
IsWhole Memory text = text ≢ []
IsWhole Stopped text = text ≢ []
IsWhole _ text = ⊥

-- the same about a whole trace that `run` wrote
abbrev pub RanTracesPass : Type 0
RanTracesPass = (turns : ℕ) (bytes text : List ℕ) (left : Option (List ℕ)) (status : Status) (old new : Outputs) → Runs turns bytes left status old new → HasWritten old new text → IsWhole status text
    → length text ≤ TRACE_MAX → IsFollowedTrace text × Passes text
