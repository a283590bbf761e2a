-- The explanation of scripts: first of those whose schedule could not be simulated.
use Rattle.std.proofs.Common.{◌≡◌, ℕ, List, Result, Ok, Err, IfOk, inl, inr}
use Rattle.ec_runner.specs.declared.report.Report.{Report}
use Rattle.ec_runner.specs.declared.report.SimFault.{SimFault}
use Rattle.ec_runner.specs.declared.report.SimFault.TheVariants.{Ended, Memory}
use Rattle.ec_runner.specs.Reported.{IsReport, IsSimFault}
use Rattle.ec_script.specs.declared.plan.Plan.{Plan}
use Rattle.ec_script.specs.Outcome.{parse_result, shown_plan}
use Rattle.evc_explain_engine.specs.declared.explanation.Explanation.{Explanation}
use Rattle.evc_explain_engine.specs.Explanations.{IsUnplayed, ExplainsPlan, ExplainsPlayed, ExplainsScript}

pub unplayed : {E : Type 0} (text : List ℕ) (p : Plan) (fault : SimFault) (r : Result Explanation E)
    → IsSimFault p.heading.setup p.programs.items p.schedule.items fault
    → IfOk r (IsUnplayed text p.heading.words fault) → IfOk r (ExplainsPlan text p)
unplayed text p (Ended place w) (Ok t) ended explanation = inr (place, w, ended, explanation)
unplayed text p Memory (Ok t) ended explanation = absurd explanation
unplayed text p fault (Err e) ended explanation = tt

-- and those whose schedule was simulated
pub played : {E : Type 0} (text : List ℕ) (p : Plan) (report : Report) (r : Result Explanation E)
    → IsReport p.heading.setup p.programs.items p.schedule.items report
    → IfOk r (ExplainsPlayed p report) → IfOk r (ExplainsPlan text p)
played text p report (Ok t) is explanation = inl (report, is, explanation)
played text p report (Err e) is explanation = tt

-- the explanation of a parsed script is that of its text
pub scripted : {E : Type 0} (text : List ℕ) (p : Plan) (r : Result Explanation E)
    → parse_result text ≡ Ok (shown_plan p) → IfOk r (ExplainsPlan text p)
    → IfOk r (ExplainsScript text)
scripted text p (Ok t) is explanation = inl (p, is, explanation)
scripted text p (Err e) is explanation = tt
