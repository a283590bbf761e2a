use Rattle.std.proofs.Common.{◌≡◌, ◌+◌, length, arith, subst, sym, ◌∙◌, refl}
use Rattle.calls_text.specs.Outcomes.{ReturnsFault, parse_from, lines_of_text}
use Rattle.calls_text.specs.Reading.{is_ended}
use Rattle.calls_text.specs.Reading as reading
use Rattle.calls_text.specs.kept.Stages.{stage_with_all}
use Rattle.calls_text.proofs.Lines.{goes_on, fails_line, shorter, never, then_shorter, then_numbers}
use Rattle.calls_text.proofs.reading.read_history.Goals as goal

pub loop-rest-init : goal.loop-rest-init
unfolding is_ended
loop-rest-init c = record {
  number = omega arith;
  within = omega arith;
  shorter = λ e. cc;
  goes = refl;
  sound = tt;
}

pub returns-in_default-clause-shorter : goal.returns-in_default-clause-shorter
returns-in_default-clause-shorter c =
    never c.finish.result _ c.loop-rest.stage c.finish.ensures.over
    (sym c.is_ended.ensures ∙ c.loop-rest-test.true)

pub returns-in_default-clause-numbers : goal.returns-in_default-clause-numbers
returns-in_default-clause-numbers c =
    never c.finish.result _ c.loop-rest.stage c.finish.ensures.over
    (sym c.is_ended.ensures ∙ c.loop-rest-test.true)

pub returns-in-Err-clause-tells : goal.returns-in-Err-clause-tells
returns-in-Err-clause-tells c =
    subst (ReturnsFault (parse_from c.args.number reading.Opening (lines_of_text c.args.text.now)))
    (sym c.fault_at.ensures)
    (fails_line c.loop-rest.at (stage_with_all c.loop-rest.stage) c.in-Some.line.now c.in-Some.behind.now
    c.loop-rest.rest.now _ c.in-Err.fault (sym c.is_ended.ensures ∙ c.loop-rest-test.true)
    c.in-Some.ensures.plain c.in-Some.ensures.whole c.loop-rest.invariant.goes c.in-Err.ensures)

pub loop-rest-preserved : goal.loop-rest-preserved
loop-rest-preserved c =
    let less : length c.in-Some.line.now + (length c.in-Some.behind.now + 1)
    ≡ length c.loop-rest.rest.now =
    shorter c.in-Some.line.now c.in-Some.behind.now c.loop-rest.rest.now c.in-Some.ensures.whole in
    record {
      number = omega arith;
      within = omega arith;
      shorter = λ e. omega arith;
      goes = goes_on c.loop-rest.at (stage_with_all c.loop-rest.stage) (stage_with_all c.take.new.self) c.in-Some.line.now
          c.in-Some.behind.now c.loop-rest.rest.now _
          (sym c.is_ended.ensures ∙ c.loop-rest-test.true) c.in-Some.ensures.plain
          c.in-Some.ensures.whole c.loop-rest.invariant.goes c.in_default-take.ensures.0;
      sound = c.in_default-take.ensures.1;
    }

pub returns-clause-shorter : goal.returns-clause-shorter
returns-clause-shorter c =
    then_shorter c.finish-2.result c.loop-rest.stage c.loop-rest.rest.now (length c.args.text.now)
    c.finish-2.ensures.over c.finish-2.ensures.rest c.loop-rest.invariant.shorter

pub returns-clause-numbers : goal.returns-clause-numbers
returns-clause-numbers c =
    then_numbers c.finish-2.result c.loop-rest.at c.loop-rest.rest.now
    (c.args.number + length c.args.text.now) c.finish-2.ensures.number c.finish-2.ensures.rest
    c.loop-rest.invariant.number
