use Rattle.std.proofs.Common.{ℕ, List, subst}
use Rattle.calls_report.specs.kept.Judging.{Judges}
use Rattle.calls_report.proofs.checking.judge_and_free.Goals as goal

pub returns-in-Ok-clause-last : goal.returns-in-Ok-clause-last
returns-in-Ok-clause-last g c = λ status new after judged.
    subst (λ (t : List ℕ). Judges status t c.args.out.now new c.args.notes.now after)
    c.as_slice.ensures.value (c.in-Ok.ensures.last status new after judged)
