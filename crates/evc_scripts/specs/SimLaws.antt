-- Theorems about `sim` and `run`.
use Rattle.std.specs.Prelude.{◌≡◌, ◌≤◌, ℕ, List, map, reverse, length, Ok, Option}
use Rattle.ec_count.specs.Tables.{Tables}
use Rattle.ec_core.specs.declared.act.Entry.{Entry}
use Rattle.ec_machine.specs.declared.command.Command.{Command}
use Rattle.ec_machine.specs.declared.outcome.Outcome.{Outcome}
use Rattle.ec_trace.specs.Outcome.{parse_result}
use Rattle.ec_trace.specs.declared.read.TheConstants.{TRACE_MAX}
use Rattle.ec_script.specs.declared.fault.Kind.{Kind}
use Rattle.ec_script.specs.Flat.{flat}
use Rattle.ec_script.specs.ScriptModel.{PlanModel}
use Rattle.ec_runner.specs.Schedules.{Turn, Plays, entries_of, outcome_after}
use Rattle.ec_runner.specs.ScheduleLaws.{IsHistoryOf}
use Rattle.evc_engine.specs.declared.status.Status.{Status}
use Rattle.evc_engine.specs.declared.status.Status.TheVariants.{Done, Refused}
use Rattle.evc_engine.specs.Checks.{Outputs}
use Rattle.evc_scripts.specs.Sims.{AreProgramsOf, PlaysPlan, NamesEndedWorker, IsPlayed, RefusedAt, Sims}
use Rattle.evc_scripts.specs.Runs.{HaveRun, WritesOnlyNote, Runs}

-- ONE TEXT FOR A SCRIPT

-- programs of the same lines play a schedule alike: the turns of the ones are turns of the others,
-- with the same outcomes
abbrev pub LinesPlayAlike : Type 0
LinesPlayAlike = (t : Tables) (programs others : List (List Command)) (schedule : List ℕ) (turns : List Turn)
    → map flat programs ≡ map flat others → Plays t programs schedule turns
    → Plays t others schedule turns × ((w : ℕ) → outcome_after programs w turns ≡ outcome_after others w turns)

-- a plan is played in at most one way
abbrev pub PlansHaveOneRun : Type 0
PlansHaveOneRun = (p : PlanModel) (turns others : List Turn) (outcomes ends : List Outcome)
    → PlaysPlan p turns outcomes → PlaysPlan p others ends → (turns ≡ others) × (outcomes ≡ ends)

-- a plan has at most one trace and one note
abbrev pub SimsHaveOneText : Type 0
SimsHaveOneText = (p : PlanModel) (trace note other remark : List ℕ)
    → IsPlayed p trace note → IsPlayed p other remark → (trace ≡ other) × (note ≡ remark)

-- a plan whose schedule names a worker that has ended is not played
abbrev pub EndedPlansAreNotPlayed : Type 0
EndedPlansAreNotPlayed = (p : PlanModel) (place w : ℕ) (turns : List Turn) (outcomes : List Outcome) → NamesEndedWorker p place w → PlaysPlan p turns outcomes → ⊥

-- such a plan has no history, for any programs of its lines and any outcomes
abbrev pub EndedPlansHaveNoHistory : Type 0
EndedPlansHaveNoHistory = (p : PlanModel) (place w : ℕ) (programs : List (List Command)) (h : List Entry) (outcome : ℕ → Outcome)
    → NamesEndedWorker p place w → AreProgramsOf p programs → IsHistoryOf p.heading.setup programs p.schedule h outcome → ⊥

-- the place and the worker are unique
abbrev pub PlansEndAtOnePlace : Type 0
PlansEndAtOnePlace = (p : PlanModel) (place w other v : ℕ) → NamesEndedWorker p place w → NamesEndedWorker p other v → (place ≡ other) × (w ≡ v)

-- no bytes may end with status 0 and with status 1
abbrev pub SimsEndOneWay : Type 0
SimsEndOneWay = (bytes : List ℕ) (left rest : Option (List ℕ)) (old new before after : Outputs) → Sims bytes left Done old new → Sims bytes rest Refused before after → ⊥

-- ONE NOTE FOR A REJECTION

-- for bytes that are no script only one line and one kind can be reported
abbrev pub RefusedScriptsHaveOneFault : Type 0
RefusedScriptsHaveOneFault = (bytes : List ℕ) (n m : ℕ) (kind sort : Kind) → RefusedAt bytes n kind → RefusedAt bytes m sort → (n ≡ m) × (kind ≡ sort)

-- whenever `sim` ends with status 1 on the same bytes, a script or not, it writes only the same
-- note
abbrev pub RefusedSimsHaveOneNote : Type 0
RefusedSimsHaveOneNote = (bytes : List ℕ) (left rest : Option (List ℕ)) (old new before after : Outputs) → Sims bytes left Refused old new → Sims bytes rest Refused before after
    → (note : List ℕ) × WritesOnlyNote old new note × WritesOnlyNote before after note

-- the same about `run`, whatever the bounds of turns
abbrev pub RefusedRunsHaveOneNote : Type 0
RefusedRunsHaveOneNote = (bytes : List ℕ) (left rest : Option (List ℕ)) (turns most : ℕ) (old new before after : Outputs) → Runs turns bytes left Refused old new → Runs most bytes rest Refused before after
    → (note : List ℕ) × WritesOnlyNote old new note × WritesOnlyNote before after note

-- if both end with status 1 on the same bytes, they write the same note
abbrev pub RefusalsAreAlike : Type 0
RefusalsAreAlike = (bytes : List ℕ) (left rest : Option (List ℕ)) (turns : ℕ) (old new before after : Outputs) → Sims bytes left Refused old new → Runs turns bytes rest Refused before after
    → (note : List ℕ) × WritesOnlyNote old new note × WritesOnlyNote before after note

-- WHAT IS WRITTEN IS PARSED BACK

-- the trace that `sim` writes is parsed to the same run, if it is within the bound of traces
abbrev pub SimulatedIsReadAgain : Type 0
SimulatedIsReadAgain = (p : PlanModel) (trace note : List ℕ) (played : IsPlayed p trace note) → length trace ≤ TRACE_MAX
    → parse_result TRACE_MAX trace ≡ Ok (record { heading = p.heading; entries = reverse (entries_of played.turns) })

-- the same about the trace of workers on threads
abbrev pub RanIsReadAgain : Type 0
RanIsReadAgain = (p : PlanModel) (turns : ℕ) (status : Status) (trace note : List ℕ) (ran : HaveRun p turns status trace note) → length trace ≤ TRACE_MAX
    → parse_result TRACE_MAX trace ≡ Ok (record { heading = p.heading; entries = ran.report.run.entries })
