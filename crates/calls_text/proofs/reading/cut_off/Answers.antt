use Rattle.std.proofs.Common.{length, ap, subst, sym}
use Rattle.std.proofs.lemmas.Bool.{eq-eqb}
use Rattle.calls_text.specs.Outcomes.{ReturnsFault, parse_end}
use Rattle.calls_text.specs.kept.Stages.{stage_with_all}
use Rattle.calls_text.proofs.Lines.{ends_rest}
use Rattle.calls_text.proofs.reading.cut_off.Goals as goal

pub returns-in-Ok : goal.returns-in-Ok
returns-in-Ok c =
    let line = c.args.line in
    let rest = c.args.rest.now in
    let stage = stage_with_all c.args.stage.now in
    subst (ReturnsFault (parse_end line stage rest)) (sym c.fault_at-in-Ok.ensures)
    (ends_rest line stage (stage_with_all c.take.new.self) rest
    (λ is. cc (eq-eqb (length rest) 0 (ap length is), c.is_empty.ensures, c.if-is_empty.false))
    c.in-Ok.ensures.0)
