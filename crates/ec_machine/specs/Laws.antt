-- What a run of a program is in terms of its calls: they are whole lists of calls joined end to
-- end, one for each command of the unrolled program from the first on, and then a proper prefix of
-- the list of the command that follows.
use Rattle.std.specs.Prelude.{◌≡◌, ℕ, ◌⊎◌, true, false, List, [], ◌∷◌, ◌++◌, Some, None, IsSome}
use Rattle.std.specs.List.{flat_map}
use Rattle.ec_count.specs.Tables.{Tables}
use Rattle.ec_core.specs.declared.act.Act.{Act}
use Rattle.ec_core.specs.declared.act.Entry.{Entry}
use Rattle.ec_core.specs.Acceptance.{IsAccepted}
use Rattle.ec_core.specs.Calls.{under_way}
use Rattle.ec_core.specs.Following.{CompletedCall}
use Rattle.ec_core.specs.JoinedLists.{completed_calls_of, op_of}
use Rattle.ec_core.specs.Procedures.{IsWritten}
use Rattle.ec_machine.specs.declared.command.Command.{Command}
use Rattle.ec_machine.specs.Unrolled.{unroll}
use Rattle.ec_machine.specs.Values.{has_large}
use Rattle.ec_machine.specs.Steps.{opening, completed_calls, own}
use Rattle.ec_machine.specs.Runs.{command_call, last_number, next_in, outcome_in, outcome_at, state_after, start, program_call, IsRunOf}

-- the calls are the whole list of a command that is due after a call that returned the number
-- `last`
pub record IsWholeOf (last : ℕ) (c : Command) (calls : List CompletedCall) : Type 0 where
  pub fits : has_large last c ≡ false
  pub asked : IsWritten (command_call last c) calls
  pub whole : command_call last c calls ≡ None

-- the lists are those of the commands, each computed with the last number returned before it
abbrev pub AreWhole : ℕ → List Command → List (List CompletedCall) → Type 0
AreWhole last [] [] = Unit {0}
AreWhole last [] (b ∷ lists) = ⊥
AreWhole last (c ∷ cs) [] = ⊥
AreWhole last (c ∷ cs) (b ∷ lists) = IsWholeOf last c b × AreWhole (last_number last b) cs lists

-- the calls are a proper prefix of a command's list; they are none if it has too large a value
pub record IsCommandPrefix (last : ℕ) (c : Command) (calls : List CompletedCall) : Type 0 where
  pub asked : IsWritten (command_call last c) calls
  pub fits : has_large last c ≡ true → calls ≡ []
  pub unfinished : (calls ≡ []) ⊎ IsSome (command_call last c calls)

abbrev pub IsProgramPrefix : ℕ → List Command → List CompletedCall → Type 0
IsProgramPrefix last [] calls = calls ≡ []
IsProgramPrefix last (c ∷ cs) calls = IsCommandPrefix last c calls

abbrev pub number_after_lists : List (List CompletedCall) → ℕ
number_after_lists lists = last_number 0 (flat_map (λ b. b) lists)

-- the completed calls of a run of the program
pub record AreCallsOf (cs : List Command) (calls : List CompletedCall) : Type 0 where
  pub done : List Command
  pub left : List Command
  pub lists : List (List CompletedCall)
  pub last : List CompletedCall
  pub commands : unroll cs ≡ done ++ left
  pub order : calls ≡ flat_map (λ b. b) lists ++ last
  pub whole : AreWhole 0 done lists
  pub begun : IsProgramPrefix (number_after_lists lists) left last
  pub next : program_call cs calls ≡ next_in left (number_after_lists lists) last
  pub ends : outcome_at (state_after (start cs) calls) ≡ outcome_in left (number_after_lists lists)

-- in a run of a program the completed calls are those lists, and the pending call is the one that comes next
abbrev pub RunsAreOfWholeLists : Type 0
RunsAreOfWholeLists = (cs : List Command) (past : List Entry) → IsRunOf cs past
    → AreCallsOf cs (completed_calls past) × ((op : Act) → opening past ≡ Some op → program_call cs (completed_calls past) ≡ Some op)

-- in an accepted history the calls of a worker's own steps are its calls
abbrev pub OwnStepsAreCut : Type 0
OwnStepsAreCut = (t : Tables) (w : ℕ) (past : List Entry) → IsAccepted t past
    → (completed_calls (own w past) ≡ completed_calls_of w past) × (opening (own w past) ≡ op_of (under_way w past))

-- each prefix of a run is a run
abbrev pub PrefixesAreRuns : Type 0
PrefixesAreRuns = (cs : List Command) (later past : List Entry) → IsRunOf cs (later ++ past) → IsRunOf cs past
