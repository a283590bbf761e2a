-- The explanation of a text: what is written on it, and the status of the program.
use Rattle.std.specs.Prelude.{◌≡◌, ◌⊎◌, ℕ, ◌<◌, List, [], ◌++◌, length, Ok, Err}
use Rattle.ec_trace.specs.TraceModel.{TraceModel}
use Rattle.ec_trace.specs.declared.fault.TraceFault.{TraceFault}
use Rattle.ec_trace.specs.declared.fault.TraceFault.TheVariants as faults
use Rattle.ec_trace.specs.declared.read.TheConstants.{TRACE_MAX}
use Rattle.evc_engine.specs.declared.status.Status.TheVariants.{Done, Refused}
use Rattle.evc_engine.specs.Checks.{ReadsAs, RefusedFor}
use Rattle.ec_explain.specs.declared.finding.Finding.{Finding}
use Rattle.ec_explain.specs.Findings.{finding_text, finding_of_text}
use Rattle.ec_explain.specs.Kinds.{script_finding}
use Rattle.ec_explain.specs.declared.cause.Cause.TheVariants as causes
use Rattle.ec_script.specs.Outcome.{shown_plan, parse_result as script_outcome}
use Rattle.ec_script.specs.declared.plan.Plan.{Plan}
use Rattle.ec_heading.specs.Spelling.{NameTable}
use Rattle.ec_runner.specs.declared.report.Report.{Report}
use Rattle.ec_runner.specs.declared.report.SimFault.{SimFault}
use Rattle.ec_runner.specs.declared.report.SimFault.TheVariants.{Ended}
use Rattle.ec_runner.specs.declared.report.SimFault.TheVariants as sims
use Rattle.ec_runner.specs.Reported.{IsReport}
use Rattle.ec_runner.specs.Schedules.{EndsBeforePlace}
use Rattle.ec_script.specs.declared.fault.Kind.{Kind}
use Rattle.evc_explain_engine.specs.Forms.{form_of}
use Rattle.evc_explain_engine.specs.Continuation.{IsContinuationText}
use Rattle.evc_explain_engine.specs.Histories.{ExplainsHistories}
use Rattle.evc_explain_engine.specs.declared.form.Form.{Form}
use Rattle.evc_explain_engine.specs.declared.form.Form.TheVariants as forms
use Rattle.evc_explain_engine.specs.declared.explanation.Explanation.{Explanation}
use Rattle.evc_explain_engine.specs.Good.{good_text, good_script}
use Rattle.evc_explain_engine.specs.WorkerEnds.{run_ends_text, turn_text}
use Rattle.evc_explain_engine.specs.Reasons.{reason_text}
use Rattle.evc_explain_engine.specs.TextAndStatus.{HasTextAndStatus}
use Rattle.evc_explain_engine.specs.BadLines.{Finds}

-- the text is no trace, and this is its first fault; out of memory and a failed read say nothing of
-- the text
abbrev pub RefusedOr : List ℕ → TraceFault → Type 0
RefusedOr text faults.Memory = Unit {0}
RefusedOr text faults.Read = Unit {0}
RefusedOr text fault = RefusedFor text fault

-- of a text that has this fault as a trace: what is found of it, and what the history before its
-- line shows of the entry
abbrev pub ExplainsFault : List ℕ → TraceFault → Explanation → Type 0
ExplainsFault text fault t =
    (f : Finding) × Finds text fault f
    × HasTextAndStatus (finding_text f (reason_text text fault) text) Refused t

-- of a text that is meant to be a trace: it is one, and that is written; or it is none, and its
-- first fault is explained
abbrev pub ExplainsTrace : List ℕ → Explanation → Type 0
ExplainsTrace text t =
    ((r : TraceModel) × ReadsAs text r × HasTextAndStatus (good_text r) Done t)
    ⊎ ((fault : TraceFault) × RefusedFor text fault × ExplainsFault text fault t)

-- of a script that was simulated: that it is good, who has not ended, and what it waits for
abbrev pub played_text : Plan → Report → List ℕ
played_text p r =
    good_script (shown_plan p)
    ++ run_ends_text p.heading.words r.run p.schedule.items r.outcomes.items

-- and how it ends beyond its schedule, if its workers go on in turn
abbrev pub ExplainsPlayed : Plan → Report → Explanation → Type 0
ExplainsPlayed p r t =
    (more : List ℕ) × IsContinuationText p more × HasTextAndStatus (played_text p r ++ more) Done t

-- of a script whose schedule could not be simulated for this reason; out of memory says nothing of
-- it
abbrev pub IsUnplayed : List ℕ → NameTable → SimFault → Explanation → Type 0
IsUnplayed text names (Ended place w) t =
    HasTextAndStatus (finding_text (finding_of_text causes.TurnOfEnded) (turn_text names place w) text) Refused t
IsUnplayed text names sims.Memory t = ⊥

-- of a parsed script: its schedule was simulated, and the result is written; or it has a turn of a
-- worker that has ended
abbrev pub ExplainsPlan : List ℕ → Plan → Explanation → Type 0
ExplainsPlan text p t =
    ((r : Report) × IsReport p.heading.setup p.programs.items p.schedule.items r
    × ExplainsPlayed p r t)
    ⊎ ((place w : ℕ) × EndsBeforePlace p.heading.setup p.programs.items p.schedule.items place w
    × IsUnplayed text p.heading.words (Ended place w) t)

-- of a text that is meant to be a script: it is one; or what is found of its first faulty line, by
-- the lowest kind of its errors
abbrev pub ExplainsScript : List ℕ → Explanation → Type 0
ExplainsScript text t =
    ((p : Plan) × (script_outcome text ≡ Ok (shown_plan p)) × ExplainsPlan text p t)
    ⊎ ((n : ℕ) × (kind : Kind) × (script_outcome text ≡ Err (n, kind))
    × HasTextAndStatus (finding_text (script_finding kind n text) [] text) Refused t)

-- of histories of calls: the text is too large; or each is linearizable, and that is written; or
-- the first that has a fault, or no linearization, or is not decided, is explained
abbrev pub ExplainsCalls : List ℕ → Explanation → Type 0
ExplainsCalls text t =
    ((TRACE_MAX < length text)
    × HasTextAndStatus (finding_text (finding_of_text causes.TooLarge) [] text) Refused t)
    ⊎ ExplainsHistories text t

abbrev pub ExplainsBy : Form → List ℕ → Explanation → Type 0
ExplainsBy forms.Trace = ExplainsTrace
ExplainsBy forms.Script = ExplainsScript
ExplainsBy forms.Calls = ExplainsCalls

-- of any text, by what it is meant to be
abbrev pub IsExplanation : List ℕ → Explanation → Type 0
IsExplanation text = ExplainsBy (form_of text) text
