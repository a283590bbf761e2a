-- What is rejected with status 1 has one note.
use Rattle.std.proofs.Common.{◌≡◌, ℕ, List, Err, sym, ap, ap₂, subst, inl, inr}
use Rattle.ec_script.specs.declared.fault.Kind.{Kind}
use Rattle.ec_script.specs.declared.parsing.TheConstants.{SCRIPT_MAX}
use Rattle.ec_script.specs.Outcome.{ParseResult, parse_result}
use Rattle.ec_script.specs.ScriptModel.{PlanModel}
use Rattle.evc_engine.specs.declared.status.Status.TheVariants.{Refused}
use Rattle.evc_engine.specs.Checks.{Outputs}
use Rattle.ec_text.specs.Inputs.{looked_at}
use Rattle.evc_scripts.specs.OutcomeNotes.{script_note, ended_note}
use Rattle.evc_scripts.specs.Runs.{WritesOnlyNote}
use Rattle.evc_scripts.specs.SimLaws.{RefusedScriptsHaveOneFault, RefusedSimsHaveOneNote, RefusedRunsHaveOneNote, RefusalsAreAlike}
use Rattle.evc_scripts.specs.Sims.{PlanEnds, RefusedAt}
use Rattle.evc_scripts.proofs.OneRun.{one_plan, one_place}

told_once : (returned : ParseResult) (one other : ℕ × Kind) → returned ≡ Err one
    → returned ≡ Err other → one ≡ other
told_once returned one other is too = cc

pub one_fault : RefusedScriptsHaveOneFault
one_fault bytes n m kind sort one other =
    let same = told_once (parse_result (looked_at SCRIPT_MAX bytes)) (n, kind) (m, sort) one.returned other.returned in
    (ap (λ (x : ℕ × Kind). x.0) same, ap (λ (x : ℕ × Kind). x.1) same)

-- if the line and the kind are equal, so is the note
same_note : (bytes : List ℕ) (n m : ℕ) (kind sort : Kind) → RefusedAt bytes n kind → RefusedAt bytes m sort → script_note m sort ≡ script_note n kind
same_note bytes n m kind sort one other =
    let same = one_fault bytes n m kind sort one other in
    ap₂ script_note (sym same.0) (sym same.1)

both_say : (old new before after : Outputs) (note remark : List ℕ) → remark ≡ note → WritesOnlyNote old new note → WritesOnlyNote before after remark
    → (said : List ℕ) × WritesOnlyNote old new said × WritesOnlyNote before after said
both_say old new before after note remark same one other = (note, one, subst (WritesOnlyNote before after) same other)

-- a plan whose schedule names a worker that has ended has one note
plans_say : (p : PlanModel) (old new before after : Outputs) → PlanEnds p Refused old new → PlanEnds p Refused before after
    → (note : List ℕ) × WritesOnlyNote old new note × WritesOnlyNote before after note
plans_say p old new before after one other =
    let same = one_place p other.0 other.1 one.0 one.1 other.2 one.2 in
    both_say old new before after (ended_note p.heading one.0 one.1) (ended_note p.heading other.0 other.1)
    (ap₂ (ended_note p.heading) same.0 same.1) (one.3, one.4) (other.3, other.4)

pub sims_note : RefusedSimsHaveOneNote
sims_note bytes left rest old new before after (inl one) (inl other) =
    plans_say one.0 old new before after one.2 (subst (λ p. PlanEnds p Refused before after) (one_plan bytes other.0 one.0 other.1 one.1) other.2)
sims_note bytes left rest old new before after (inl one) (inr other) = absurd (other.2.none one.0 one.1.script)
sims_note bytes left rest old new before after (inr one) (inl other) = absurd (one.2.none other.0 other.1.script)
sims_note bytes left rest old new before after (inr one) (inr other) =
    both_say old new before after (script_note one.0 one.1) (script_note other.0 other.1)
    (same_note bytes one.0 other.0 one.1 other.1 one.2 other.2) (one.3, one.4) (other.3, other.4)

pub runs_note : RefusedRunsHaveOneNote
runs_note bytes left rest turns most old new before after one other =
    both_say old new before after (script_note one.0 one.1) (script_note other.0 other.1) (same_note bytes one.0 other.0 one.1 other.1 one.2 other.2) one.3 other.3

pub alike : RefusalsAreAlike
alike bytes left rest turns old new before after (inl one) other = absurd (other.2.none one.0 one.1.script)
alike bytes left rest turns old new before after (inr one) other =
    both_say old new before after (script_note one.0 one.1) (script_note other.0 other.1)
    (same_note bytes one.0 other.0 one.1 other.1 one.2 other.2) (one.3, one.4) other.3
