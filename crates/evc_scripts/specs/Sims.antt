-- What `sim` returned and wrote, for an input whose bytes are known.
use Rattle.std.specs.Prelude.{◌≡◌, ◌⊎◌, ℕ, List, map, reverse, Ok, Err, Option, codes}
use Rattle.std.specs.Io.KnownBytes.{Appends, Keeps}
use Rattle.ec_core.specs.declared.act.Entry.{Entry}
use Rattle.ec_text.specs.Puts.{AppendsPrefix}
use Rattle.ec_machine.specs.declared.command.Command.{Command}
use Rattle.ec_machine.specs.declared.outcome.Outcome.{Outcome}
use Rattle.ec_heading.specs.HeadingModel.{HeadingModel}
use Rattle.ec_heading.specs.Versions.{CanSpellAll}
use Rattle.ec_heading.specs.HeaderTree.{HeaderTree, IsHeaderTree, heading_of_tree}
use Rattle.ec_heading.specs.Spelling.{trace_text}
use Rattle.ec_script.specs.declared.fault.Kind.{Kind}
use Rattle.ec_script.specs.declared.parsing.TheConstants.{SCRIPT_MAX}
use Rattle.ec_script.specs.Flat.{flat}
use Rattle.ec_script.specs.Grammar.{IsScript, IsNoScript}
use Rattle.ec_script.specs.Outcome.{parse_result}
use Rattle.ec_script.specs.ScriptModel.{PlanModel}
use Rattle.ec_runner.specs.Reported.{AreOutcomes}
use Rattle.ec_runner.specs.declared.report.SimFault.{SimFault}
use Rattle.ec_runner.specs.declared.report.SimFault.TheVariants as faults
use Rattle.ec_runner.specs.Schedules.{Turn, Plays, EndsBeforePlace, entries_of}
use Rattle.evc_engine.specs.declared.status.Status.{Status}
use Rattle.evc_engine.specs.declared.status.Status.TheVariants.{Done, Refused, Usage, InputOutput, Memory, Stopped}
use Rattle.evc_engine.specs.Checks.{Outputs, Notes}
use Rattle.ec_text.specs.Inputs.{looked_at, IsReadUp, IsCutShort}
use Rattle.evc_scripts.specs.OutcomeNotes.{outcomes_note, script_note, ended_note}

-- PLANS

-- the programs are those of the plan: commands of the same lines
abbrev pub AreProgramsOf : PlanModel → List (List Command) → Type 0
AreProgramsOf p programs = map flat programs ≡ p.programs

-- the turns are those of the plan's schedule, and the outcomes those after them
pub record PlaysPlan (p : PlanModel) (turns : List Turn) (outcomes : List Outcome) : Type 0 where
  pub programs : List (List Command)
  pub lines : AreProgramsOf p programs
  pub plays : Plays p.heading.setup programs p.schedule turns
  pub after : AreOutcomes programs p.heading.setup.workers turns outcomes

-- worker w, whom the plan's schedule names at this place, has ended before it
pub record NamesEndedWorker (p : PlanModel) (place w : ℕ) : Type 0 where
  pub programs : List (List Command)
  pub lines : AreProgramsOf p programs
  pub ended : EndsBeforePlace p.heading.setup programs p.schedule place w

-- the trace of a history with this header, whose version can encode it
pub record IsTraceUnder (h : HeadingModel) (entries : List Entry) (trace : List ℕ) : Type 0 where
  pub outline : HeaderTree
  pub is : IsHeaderTree outline
  pub declares : heading_of_tree outline ≡ h
  pub spelled : CanSpellAll h.version entries
  pub text : trace ≡ trace_text outline entries

-- a plan was played: this is the trace of its workers, and this the note on their outcomes
pub record IsPlayed (p : PlanModel) (trace note : List ℕ) : Type 0 where
  pub turns : List Turn
  pub outcomes : List Outcome
  pub played : PlaysPlan p turns outcomes
  pub written : IsTraceUnder p.heading (reverse (entries_of turns)) trace
  pub noted : note ≡ outcomes_note p.heading outcomes

-- the status if the schedule was not played, and the note
abbrev pub fault_status : SimFault → Status
fault_status (faults.Ended place w) = Refused
fault_status faults.Memory = Memory

abbrev pub sim_fault_note : HeadingModel → SimFault → List ℕ
sim_fault_note h (faults.Ended place w) = ended_note h place w
sim_fault_note h faults.Memory = codes "no memory\n"

-- how the command ended for a plan
abbrev pub PlanEnds : PlanModel → Status → Outputs → Outputs → Type 0
PlanEnds p Done old new = (trace note : List ℕ) × IsPlayed p trace note × Appends old.out new.out trace × Notes old new note
PlanEnds p Refused old new = (place w : ℕ) × NamesEndedWorker p place w × Keeps old.out new.out × Notes old new (ended_note p.heading place w)
PlanEnds p InputOutput old new = (trace note : List ℕ) × IsPlayed p trace note × AppendsPrefix old.out new.out trace × Notes old new (codes "write fault\n")
PlanEnds p Memory old new = Keeps old.out new.out × Notes old new (codes "no memory\n")
PlanEnds p Usage old new = ⊥
PlanEnds p Stopped old new = ⊥

-- THE COMMAND

-- the bytes are a script that says this plan, and they are parsed to it
pub record SaysPlan (bytes : List ℕ) (p : PlanModel) : Type 0 where
  pub script : IsScript bytes p
  pub returned : parse_result (looked_at SCRIPT_MAX bytes) ≡ Ok p

-- the bytes are no script, and this is their first faulty line
pub record RefusedAt (bytes : List ℕ) (n : ℕ) (kind : Kind) : Type 0 where
  pub none : IsNoScript bytes
  pub returned : parse_result (looked_at SCRIPT_MAX bytes) ≡ Err (n, kind)

-- how `sim` ended: the bytes are a script, its schedule was played, and the trace was written (0);
-- or they are a script whose schedule names a worker that has ended, or no script, and only a note
-- was written (1); or a failed read or write (3) or out of memory (4) is reported. It parses
-- nothing before it has read all that it needs; a failed read is reported only if it comes before
-- more bytes were read than a script may have
abbrev pub Sims : List ℕ → Option (List ℕ) → Status → Outputs → Outputs → Type 0
Sims bytes left Done old new = (p : PlanModel) × SaysPlan bytes p × PlanEnds p Done old new × IsReadUp SCRIPT_MAX bytes left
Sims bytes left Refused old new =
    ((p : PlanModel) × SaysPlan bytes p × PlanEnds p Refused old new
    × IsReadUp SCRIPT_MAX bytes left)
    ⊎ ((n : ℕ) × (kind : Kind) × RefusedAt bytes n kind × Keeps old.out new.out × Notes old new (script_note n kind) × IsReadUp SCRIPT_MAX bytes left)
Sims bytes left InputOutput old new =
    ((p : PlanModel) × SaysPlan bytes p × PlanEnds p InputOutput old new × IsReadUp SCRIPT_MAX bytes left)
    ⊎ (Keeps old.out new.out × Notes old new (codes "read fault\n") × IsCutShort SCRIPT_MAX bytes left)
Sims bytes left Memory old new = Keeps old.out new.out × Notes old new (codes "no memory\n")
Sims bytes left Usage old new = ⊥
Sims bytes left Stopped old new = ⊥
