use Rattle.calls_verdict.proofs.Founding.{none_here, verdict_refused, verdict_open, verdict_ordered}
use Rattle.calls_verdict.proofs.findings.conclude.Goals as goal

pub returns-in-Some : goal.returns-in-Some
returns-in-Some c = λ kinds past h f. verdict_refused kinds past h c.args.found c.in-Some.refusal
    c.in-Some.is f

pub returns-in-Some-undecided : goal.returns-in-Some-undecided
returns-in-Some-undecided c =
    λ kinds past h f. verdict_open kinds past h c.args.found c.in-Some-undecided.undecided
    (none_here c.args.found.refusal c.in_default.not-Some) c.in-Some-undecided.is f

pub returns : goal.returns
returns c =
    λ kinds past h f. verdict_ordered kinds past h c.args.found c.sort.new.self
    (none_here c.args.found.refusal c.in_default.not-Some)
    (none_here c.args.found.undecided c.in_default-undecided.not-Some) c.in_ok-sort.ensures f
