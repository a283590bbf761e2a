use Rattle.std.proofs.Common.{Err, sym, subst, arith}
use Rattle.ec_script.specs.declared.stage.Stage.TheVariants.{Opening}
use Rattle.ec_script.specs.Outcome.{Returns, parse_from, lines_of_text}
use Rattle.ec_script.proofs.Onward.{goes_on, fails_line, rests, shorter}
use Rattle.ec_script.proofs.parsing.parse_lines.Goals as goal

pub returns-in-Err : goal.returns-in-Err
returns-in-Err c =
    subst (λ f. Returns (parse_from 1 Opening (lines_of_text c.args.text.now)) (Err f)) (sym c.fault_at.ensures)
    (fails_line c.loop-line.number c.loop-line.stage c.in-Some.line.now c.in-Some.behind.now c.loop-line.rest.now _ c.in-Err.fault c.in-Some.ensures.plain c.in-Some.ensures.whole c.loop-line.invariant.goes c.in-Err.ensures)

pub loop-line-preserved : goal.loop-line-preserved
loop-line-preserved c = record {
  number = omega (arith, c.loop-line.invariant.number, shorter c.in-Some.line.now c.in-Some.behind.now c.loop-line.rest.now c.in-Some.ensures.whole);
  goes = goes_on c.loop-line.number c.loop-line.stage c.line.new.self c.in-Some.line.now c.in-Some.behind.now c.loop-line.rest.now _ c.in-Some.ensures.plain c.in-Some.ensures.whole c.loop-line.invariant.goes c.in_default-line.ensures;
}

pub returns : goal.returns
returns c = rests c.loop-line.number c.loop-line.stage c.loop-line.rest.now _ c.finish.result c.in_default.ensures.none c.loop-line.invariant.goes c.finish.ensures
