-- What `sim` and `run` write, from the contracts of their parts.
use Rattle.std.proofs.Common.{◌≡◌, ◌≤◌, ◌<◌, ◌+◌, ◌⊎◌, inl, inr, ℕ, List, length, map, reverse, take, Option, Some, None, IfSome, Result, Ok, Err, refl, sym, ap, subst, ◌∙◌, arith, Bool, true, false, cond}
use Rattle.std.proofs.lemmas.List.{reverse-reverse, take_all, length-take}
use Rattle.ec_heading.specs.HeadingInvariant.{HasHeaderTree}
use Rattle.ec_heading.specs.Spelling.{trace_text}
use Rattle.std.specs.Io.KnownBytes.{Keeps}
use Rattle.ec_runner.specs.Reported.{IsReport}
use Rattle.ec_runner.specs.declared.report.Report.{Report}
use Rattle.ec_script.specs.declared.fault.Kind.{Kind}
use Rattle.ec_script.specs.declared.parsing.TheConstants.{SCRIPT_MAX}
use Rattle.ec_script.specs.declared.plan.Plan.{Plan}
use Rattle.ec_script.specs.Flat.{flat}
use Rattle.ec_script.specs.Grammar.{IsScript, IsNoScript}
use Rattle.ec_script.specs.Outcome.{parse_result, shown_plan}
use Rattle.ec_script.specs.ScriptModel.{PlanModel}
use Rattle.ec_script.specs.Confined.{HasItems}
use Rattle.ec_script.proofs.shared.Texts.{read_is_script, script_is_read}
use Rattle.ec_script.proofs.shared.WrittenOut.{had_lines}
use Rattle.evc_engine.specs.declared.status.Status.{Status}
use Rattle.evc_engine.specs.declared.status.Status.TheVariants.{Done, Refused, Usage, InputOutput, Memory, Stopped}
use Rattle.evc_engine.specs.Checks.{Outputs, Notes}
use Rattle.ec_text.specs.Inputs.{looked_at, IsReadUp}
use Rattle.evc_scripts.specs.OutcomeNotes.{outcomes_note, script_note}
use Rattle.evc_scripts.specs.Sims.{IsPlayed, PlanEnds, SaysPlan, RefusedAt, Sims}
use Rattle.evc_scripts.proofs.PlainActs.{turns_spelled, report_spelled}
use Rattle.ec_count.specs.Tables.{Tables}
use Rattle.ec_core.specs.Acceptance.{IsAccepted}
use Rattle.ec_runner.specs.RunReports.{IsReportOf, NamesDeclared}
use Rattle.ec_runner.specs.RunFaults.{IsRunFault}
use Rattle.ec_runner.specs.declared.run_fault.RunFault.{RunFault}
use Rattle.evc_scripts.specs.Runs.{HaveRun, WroteReport, HasNoReport, NamesWorker, WritesOnlyNote, RunEnds, Runs, status_for, is_memory, is_cut_short, run_fault_status, run_fault_note}
use Rattle.ec_runner.specs.declared.run_fault.RunFault.TheVariants as faults

-- A REPORT

-- a report of a plan, and its trace by a syntax tree of the header
pub is_played : (plan : Plan) (report : Report) (h : HasHeaderTree plan.heading) → HasItems plan.heading.version (map flat plan.programs.items) → IsReport plan.heading.setup plan.programs.items plan.schedule.items report
    → IsPlayed (shown_plan plan) (trace_text h.outline report.run.entries) (outcomes_note plan.heading report.outcomes.items)
is_played plan report h has r = record {
  turns = r.turns;
  outcomes = report.outcomes.items;
  played = record { programs = plan.programs.items; lines = refl; plays = r.plays; after = r.outcomes };
  written = record {
    outline = h.outline;
    is = h.is;
    declares = h.declares;
    spelled = turns_spelled plan.heading.version plan.heading.setup plan.programs.items r.turns (had_lines plan.heading.version plan.programs.items has) r.plays.each;
    text = ap (trace_text h.outline) (sym (reverse-reverse report.run.entries) ∙ ap reverse r.entries);
  };
  noted = refl;
}

-- BYTES

-- if the text that was read is within its bound, it is all bytes
all_of_it : (max : ℕ) (bytes : List ℕ) → length (looked_at max bytes) ≤ max → looked_at max bytes ≡ bytes
all_of_it max bytes short =
    let small : length bytes ≤ max + 1 = omega (arith, length-take (max + 1) bytes, short) in
    take_all (max + 1) bytes small

looked_at_all : (max : ℕ) (bytes : List ℕ) → length bytes ≤ max → looked_at max bytes ≡ bytes
looked_at_all max bytes short = take_all (max + 1) bytes (omega (arith, short))

-- the text was read of these bytes, if they are known
abbrev pub WasRead : List ℕ → Option (List ℕ) → Option (List ℕ) → Type 0
WasRead text left known = IfSome known (λ bytes. (text ≡ looked_at SCRIPT_MAX bytes) × IsReadUp SCRIPT_MAX bytes left)

pub says : (bytes text : List ℕ) (p : PlanModel) → text ≡ looked_at SCRIPT_MAX bytes → parse_result text ≡ Ok p → SaysPlan bytes p
says bytes text p read is =
    let returned = ap parse_result (sym read) ∙ is in
    let s : IsScript (looked_at SCRIPT_MAX bytes) p = read_is_script (looked_at SCRIPT_MAX bytes) p returned in
    record { script = subst (λ (b : List ℕ). IsScript b p) (all_of_it SCRIPT_MAX bytes s.within) s; returned = returned }

pub refused_at : (bytes text : List ℕ) (n : ℕ) (kind : Kind) → text ≡ looked_at SCRIPT_MAX bytes → parse_result text ≡ Err (n, kind) → RefusedAt bytes n kind
refused_at bytes text n kind read is = let returned = ap parse_result (sym read) ∙ is in record {
  none = λ p s.
      let script : parse_result (looked_at SCRIPT_MAX bytes) ≡ Ok p = ap parse_result (looked_at_all SCRIPT_MAX bytes s.within) ∙ script_is_read bytes p s in
      (let never : Ok p ≡ Err (n, kind) = sym script ∙ returned in cc);
  returned = returned;
}

-- `sim`

-- the plan that the bytes say was played
pub plan_sims : (known left : Option (List ℕ)) (text : List ℕ) (p : PlanModel) (status : Status) (old new : Outputs) → WasRead text left known → parse_result text ≡ Ok p → PlanEnds p status old new → IfSome known (λ bytes. Sims bytes left status old new)
plan_sims None left text p status old new read is e = tt
plan_sims (Some bytes) left text p Done old new read is e = (p, says bytes text p read.0 is, e, read.1)
plan_sims (Some bytes) left text p Refused old new read is e = inl (p, says bytes text p read.0 is, e, read.1)
plan_sims (Some bytes) left text p InputOutput old new read is e = inl (p, says bytes text p read.0 is, e, read.1)
plan_sims (Some bytes) left text p Memory old new read is e = e
plan_sims (Some bytes) left text p Usage old new read is e = e
plan_sims (Some bytes) left text p Stopped old new read is e = e

-- the bytes are no script
pub sim_refused : (known left : Option (List ℕ)) (text : List ℕ) (n : ℕ) (kind : Kind) (old new : Outputs) → WasRead text left known → parse_result text ≡ Err (n, kind) → Keeps old.out new.out × Notes old new (script_note n kind) → IfSome known (λ bytes. Sims bytes left Refused old new)
sim_refused None left text n kind old new read is said = tt
sim_refused (Some bytes) left text n kind old new read is said = inr (n, kind, refused_at bytes text n kind read.0 is, said.0, said.1, read.1)

-- `run`

-- a report of a plan, and its trace by a syntax tree of the header
pub have_run : (plan : Plan) (report : Report) (turns : ℕ) (h : HasHeaderTree plan.heading) → HasItems plan.heading.version (map flat plan.programs.items) → IsReportOf plan.heading.setup plan.programs.items turns report
    → IsAccepted report.run.setup (reverse report.run.entries)
    → HaveRun (shown_plan plan) turns (status_for report.outcomes.items) (trace_text h.outline report.run.entries) (outcomes_note plan.heading report.outcomes.items)
have_run plan report turns h has returned accepted = let acc = subst (λ (t : Tables). IsAccepted t (reverse report.run.entries)) returned.setup accepted in record {
  programs = plan.programs.items;
  lines = refl;
  report = report;
  returned = returned;
  accepted = acc;
  written = record {
    outline = h.outline;
    is = h.is;
    declares = h.declares;
    spelled = report_spelled plan.heading.version plan.heading.setup plan.programs.items turns report (had_lines plan.heading.version plan.programs.items has) returned acc;
    text = refl;
  };
  noted = refl;
  ended = refl;
}

-- what holds of the three statuses of a report holds of its status
by_status : (a b : Bool) (P : Status → Type 0) → P Memory → P Stopped → P Done → P (cond a Memory (cond b Stopped Done))
by_status true b P memory stopped done = memory
by_status false true P memory stopped done = stopped
by_status false false P memory stopped done = done

pub told_ends : (p : PlanModel) (turns : ℕ) (s : Status) (old new : Outputs) → WroteReport p turns s old new → RunEnds p turns s old new
told_ends p turns s old new t =
    subst (λ k. WroteReport p turns k old new → RunEnds p turns k old new) (sym t.2.ended)
    (by_status _ _ (λ k. WroteReport p turns k old new → RunEnds p turns k old new) inl inl (λ w. w)) t

pub names_worker : (t : Tables) (fault : RunFault) → 1 ≤ t.workers → NamesDeclared t fault → NamesWorker t fault
names_worker t (faults.Mismatch w) some named = (let one : 0 < t.workers = omega (arith, some) in named one)
names_worker t faults.Spawn some named = tt
names_worker t faults.Memory some named = tt

pub fault_ends : (plan : Plan) (turns : ℕ) (fault : RunFault) (s : Status) (old new : Outputs) → IsRunFault plan.heading.setup plan.programs.items turns fault
    → NamesWorker plan.heading.setup fault → s ≡ run_fault_status fault → WritesOnlyNote old new (run_fault_note plan.heading fault) → RunEnds (shown_plan plan) turns s old new
fault_ends plan turns (faults.Mismatch w) s old new right named is said =
    subst (λ (k : Status). RunEnds (shown_plan plan) turns k old new) (sym is)
    (inr (record { fault = faults.Mismatch w; programs = plan.programs.items; lines = refl; right = right; named = named; ended = refl; says = said }))
fault_ends plan turns faults.Spawn s old new right named is said =
    subst (λ (k : Status). RunEnds (shown_plan plan) turns k old new) (sym is)
    (inr (record { fault = faults.Spawn; programs = plan.programs.items; lines = refl; right = right; named = named; ended = refl; says = said }))
fault_ends plan turns faults.Memory s old new right named is said =
    subst (λ (k : Status). RunEnds (shown_plan plan) turns k old new) (sym is)
    (inr (record { fault = faults.Memory; programs = plan.programs.items; lines = refl; right = right; named = named; ended = refl; says = said }))

-- the plan that the bytes say was run
pub plan_runs : (known left : Option (List ℕ)) (text : List ℕ) (p : PlanModel) (turns : ℕ) (status : Status) (old new : Outputs) → WasRead text left known → parse_result text ≡ Ok p → RunEnds p turns status old new → IfSome known (λ bytes. Runs turns bytes left status old new)
plan_runs None left text p turns status old new read is e = tt
plan_runs (Some bytes) left text p turns Done old new read is e = (p, says bytes text p read.0 is, e, read.1)
plan_runs (Some bytes) left text p turns InputOutput old new read is e = inl (p, says bytes text p read.0 is, e, read.1)
plan_runs (Some bytes) left text p turns Memory old new read is e = inl (p, says bytes text p read.0 is, e, read.1)
plan_runs (Some bytes) left text p turns Stopped old new read is e = (p, says bytes text p read.0 is, e, read.1)
plan_runs (Some bytes) left text p turns Refused old new read is e = absurd e
plan_runs (Some bytes) left text p turns Usage old new read is e = absurd e

-- the bytes are no script
pub run_refused : (known left : Option (List ℕ)) (text : List ℕ) (n : ℕ) (kind : Kind) (turns : ℕ) (old new : Outputs) → WasRead text left known → parse_result text ≡ Err (n, kind) → WritesOnlyNote old new (script_note n kind) → IfSome known (λ bytes. Runs turns bytes left Refused old new)
run_refused None left text n kind turns old new read is said = tt
run_refused (Some bytes) left text n kind turns old new read is said = (n, kind, refused_at bytes text n kind read.0 is, said, read.1)
