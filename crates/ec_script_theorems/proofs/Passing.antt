-- What `sim` and `run` wrote passes `check` and `audit`.
use Rattle.std.proofs.Common.{◌≡◌, ◌≢◌, ◌≤◌, ℕ, List, [], ◌++◌, length, reverse, slice_get, Option, Some, Ok, inl, inr, refl, sym, ◌∙◌, subst, append-nil}
use Rattle.std.specs.Io.KnownBytes.{Appends, Keeps}
use Rattle.std.proofs.lemmas.List.{append_cancel_left, reverse-reverse}
use Rattle.ec_core.specs.declared.act.Entry.{Entry}
use Rattle.ec_core.specs.Acceptance.{IsAccepted}
use Rattle.ec_core.proofs.shared.Breaks.{follow_or_break}
use Rattle.ec_machine.specs.declared.command.Command.{Command}
use Rattle.ec_machine.specs.Follows.{program_at}
use Rattle.ec_machine.specs.Runs.{IsRunOf}
use Rattle.ec_machine.specs.Steps.{own}
use Rattle.ec_heading.specs.HeadingModel.{HeadingModel}
use Rattle.ec_heading.specs.HeadingInvariant.{IsHeading}
use Rattle.ec_heading.specs.Rules.{group_rules, FollowsGroup}
use Rattle.ec_trace.specs.Outcome.{parse_result}
use Rattle.ec_trace.specs.TraceModel.{TraceModel}
use Rattle.ec_trace.specs.declared.read.TheConstants.{TRACE_MAX}
use Rattle.ec_trace.proofs.shared.ReadTraces.{read_is_trace}
use Rattle.ec_script.specs.declared.parsing.TheConstants.{SCRIPT_MAX}
use Rattle.ec_script.specs.Confined.{AreConfined, AreConfinedPrograms}
use Rattle.ec_script.specs.ScriptModel.{PlanModel}
use Rattle.ec_script.proofs.shared.Keeping.{plans_are_confined}
use Rattle.ec_script.proofs.shared.WrittenOut.{confined_lines}
use Rattle.ec_runner.specs.Schedules.{entries_of}
use Rattle.evc_engine.specs.declared.status.Status.{Status}
use Rattle.evc_engine.specs.declared.status.Status.TheVariants.{Done, Refused, Usage, InputOutput, Memory, Stopped}
use Rattle.evc_engine.specs.Audits.{IsNotFollowed, Audits}
use Rattle.evc_engine.specs.Checks.{Outputs, Checks}
use Rattle.ec_text.specs.Inputs.{looked_at}
use Rattle.evc_scripts.specs.Runs.{HaveRun, WroteReport, HasNoReport}
use Rattle.evc_scripts.specs.Sims.{AreProgramsOf, IsTraceUnder, IsPlayed, SaysPlan}
use Rattle.evc_scripts.proofs.shared.ReadAgain.{simulated_again, ran_again, accepted_turns as turns_accepted}
use Rattle.ec_script_theorems.specs.Passing.{IsFollowedTrace, IsNoRefusal, Passes, FollowedTracesPass, HasWritten, SimulatedTracesPass, RanTracesPass}
use Rattle.ec_script_theorems.proofs.AllGroups.{groups_follow}
use Rattle.ec_script_theorems.proofs.Played.{turns_run}
use Rattle.ec_script_theorems.proofs.Reported.{reported_follow}
use Rattle.ec_count.proofs.shared.Declared.{at_place as of_all}

-- A FOLLOWED TRACE

read_once : (text : List ℕ) (t u : TraceModel) → parse_result TRACE_MAX text ≡ Ok t → parse_result TRACE_MAX text ≡ Ok u → t ≡ u
read_once text t u one other = (let same : Ok t ≡ Ok u = sym one ∙ other in cc)

never_refused : (text : List ℕ) → IsFollowedTrace text → (left : Option (List ℕ)) (old new : Outputs) → Audits text left Refused old new → ⊥
never_refused text is left old new (inl (t, reads, names)) =
    let r : TraceModel = is.recounted in
    let same : t ≡ r = read_once text t r reads.returned is.reads.returned in
    let breaks : IsNotFollowed r.heading r.entries names.group names.worker names.entry =
    subst (λ (u : TraceModel). IsNotFollowed u.heading u.entries names.group names.worker names.entry) same names.breaks in
    follow_or_break (group_rules r.heading.setup r.heading.groups breaks.group) r.entries names.worker names.entry breaks.breaks
    (of_all (FollowsGroup r.heading.setup r.heading.groups (reverse r.entries)) r.heading.groups names.group breaks.group is.followed breaks.is)
never_refused text is left old new (inr (fault, refused, keeps, notes)) = refused.none is.reads.trace.outline is.recounted.entries is.reads.trace.trace

audit_ends : (text : List ℕ) → IsFollowedTrace text → (left : Option (List ℕ)) (status : Status) (old new : Outputs) → Audits text left status old new → IsNoRefusal status
audit_ends text is left Done old new audits = inl refl
audit_ends text is left Refused old new audits = absurd (never_refused text is left old new audits)
audit_ends text is left Usage old new audits = absurd audits
audit_ends text is left InputOutput old new audits = inr (inl refl)
audit_ends text is left Memory old new audits = inr (inr refl)
audit_ends text is left Stopped old new audits = absurd audits

check_ends : (text : List ℕ) → IsFollowedTrace text → (left : Option (List ℕ)) (status : Status) (old new : Outputs) → Checks text left status old new → IsNoRefusal status
check_ends text is left Done old new checks = inl refl
check_ends text is left Refused old new (fault, refused, keeps, notes) = absurd (refused.none is.reads.trace.outline is.recounted.entries is.reads.trace.trace)
check_ends text is left Usage old new checks = absurd checks
check_ends text is left InputOutput old new checks = inr (inl refl)
check_ends text is left Memory old new checks = inr (inr refl)
check_ends text is left Stopped old new checks = absurd checks

pub pass : FollowedTracesPass
pass text is = record { check = check_ends text is; audit = audit_ends text is }

-- PLANS

heading_under : (h : HeadingModel) (entries : List Entry) (trace : List ℕ) → IsTraceUnder h entries trace → IsHeading h
heading_under h entries trace under = inr (record { outline = under.outline; is = under.is; declares = under.declares })

-- the programs of a script are confined
programs_confined : (bytes : List ℕ) (p : PlanModel) (programs : List (List Command)) → SaysPlan bytes p → AreProgramsOf p programs → AreConfinedPrograms p.heading.groups programs
programs_confined bytes p programs says lines =
    confined_lines p.heading.groups programs (subst (AreConfined p.heading.groups) (sym lines) (plans_are_confined (looked_at SCRIPT_MAX bytes) p says.returned).confined)

played_follows : (bytes : List ℕ) (p : PlanModel) (trace note : List ℕ) → SaysPlan bytes p → IsPlayed p trace note → length trace ≤ TRACE_MAX → IsFollowedTrace trace
played_follows bytes p trace note says played short =
    let past = entries_of played.turns in
    let plan = played.played in
    let back : reverse (reverse past) ≡ past = reverse-reverse past in
    let t : TraceModel = record { heading = p.heading; entries = reverse past } in
    let returned = simulated_again p trace note played short in
    record {
      recounted = t;
      reads = record { trace = read_is_trace trace t returned; returned = returned };
      followed = groups_follow p.heading plan.programs (reverse past) (heading_under p.heading (reverse past) trace played.written)
          (programs_confined bytes p plan.programs says plan.lines)
          (subst (IsAccepted p.heading.setup) (sym back) (turns_accepted p.heading.setup plan.programs played.turns plan.plays.each))
          (λ w lt. subst (λ l. IsRunOf (program_at plan.programs w) (own w l)) (sym back) (turns_run p.heading.setup plan.programs w played.turns plan.plays.each));
    }

ran_follows : (bytes : List ℕ) (p : PlanModel) (turns : ℕ) (status : Status) (trace note : List ℕ) → SaysPlan bytes p → HaveRun p turns status trace note → length trace ≤ TRACE_MAX
    → IsFollowedTrace trace
ran_follows bytes p turns status trace note says ran short =
    let t : TraceModel = record { heading = p.heading; entries = ran.report.run.entries } in
    let returned = ran_again p turns status trace note ran short in
    record {
      recounted = t;
      reads = record { trace = read_is_trace trace t returned; returned = returned };
      followed = reported_follow p.heading ran.programs turns ran.report (heading_under p.heading ran.report.run.entries trace ran.written)
          (programs_confined bytes p ran.programs says ran.lines) ran.accepted ran.returned;
    }

-- WHAT WAS WRITTEN

text_is : (old new : Outputs) (text trace : List ℕ) → HasWritten old new text → Appends old.out new.out trace → trace ≡ text
text_is old new text trace w appends =
    let known : w.before ++ text ≡ w.before ++ trace =
    subst (λ o. Appends o (Some (w.before ++ text)) trace) w.had (subst (λ n. Appends old.out n trace) w.has appends) in
    sym (append_cancel_left w.before text trace known)

nothing_is : (old new : Outputs) (text : List ℕ) → HasWritten old new text → Keeps old.out new.out → text ≡ []
nothing_is old new text w keeps =
    let known : w.before ++ text ≡ w.before = subst (λ o. Keeps o (Some (w.before ++ text))) w.had (subst (λ n. Keeps old.out n) w.has keeps) in
    append_cancel_left w.before text [] (known ∙ sym (append-nil w.before))

followed_passes : (text : List ℕ) → IsFollowedTrace text → IsFollowedTrace text × Passes text
followed_passes text is = (is, pass text is)

pub simulated_pass : SimulatedTracesPass
simulated_pass bytes text left old new (p, says, (trace, note, played, appends, notes), read) w short =
    let same : trace ≡ text = text_is old new text trace w appends in
    followed_passes text
    (subst IsFollowedTrace same (played_follows bytes p trace note says played (subst (λ l. length l ≤ TRACE_MAX) (sym same) short)))

told_passes : (turns : ℕ) (bytes text : List ℕ) (p : PlanModel) (status : Status) (old new : Outputs) → SaysPlan bytes p → WroteReport p turns status old new → HasWritten old new text → length text ≤ TRACE_MAX
    → IsFollowedTrace text × Passes text
told_passes turns bytes text p status old new says (trace, note, ran, appends, notes) w short =
    let same : trace ≡ text = text_is old new text trace w appends in
    followed_passes text
    (subst IsFollowedTrace same (ran_follows bytes p turns status trace note says ran (subst (λ l. length l ≤ TRACE_MAX) (sym same) short)))

not_nothing : (text : List ℕ) (p : PlanModel) (turns : ℕ) (status : Status) (old new : Outputs) → HasNoReport p turns status old new → HasWritten old new text → text ≢ [] → ⊥
not_nothing text p turns status old new none w some = some (nothing_is old new text w none.says.0)

pub ran_pass : RanTracesPass
ran_pass turns bytes text left Done old new (p, says, returned, read) w whole short = told_passes turns bytes text p Done old new says returned w short
ran_pass turns bytes text left Memory old new (inl (p, says, inl returned, read)) w whole short = told_passes turns bytes text p Memory old new says returned w short
ran_pass turns bytes text left Memory old new (inl (p, says, inr none, read)) w whole short = absurd (not_nothing text p turns Memory old new none w whole)
ran_pass turns bytes text left Memory old new (inr says) w whole short = absurd (whole (nothing_is old new text w says.0))
ran_pass turns bytes text left Stopped old new (p, says, inl returned, read) w whole short = told_passes turns bytes text p Stopped old new says returned w short
ran_pass turns bytes text left Stopped old new (p, says, inr none, read) w whole short = absurd (not_nothing text p turns Stopped old new none w whole)
ran_pass turns bytes text left Refused old new runs w whole short = absurd whole
ran_pass turns bytes text left Usage old new runs w whole short = absurd whole
ran_pass turns bytes text left InputOutput old new runs w whole short = absurd whole
