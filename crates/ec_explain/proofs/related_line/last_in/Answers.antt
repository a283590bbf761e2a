use Rattle.std.proofs.Common.{sym, ◌∙◌, arith}
use Rattle.ec_explain.specs.RelatedLine.{fits}
use Rattle.ec_explain.proofs.LinesLeft.{lasts_line, lasts_end, one_left}
use Rattle.ec_explain.proofs.related_line.last_in.Goals as goal

pub overflow_add-number : goal.overflow_add-number
overflow_add-number c =
    omega (
      arith,
      c.loop-line.invariant.few,
      one_left c.in-Some.line.now c.in-Some.behind.now c.loop-line.rest.now c.in-Some.ensures.whole,
    )

pub loop-line-preserved : goal.loop-line-preserved
loop-line-preserved c = record {
  few = omega (
    arith,
    c.loop-line.invariant.few,
    one_left c.in-Some.line.now c.in-Some.behind.now c.loop-line.rest.now
        c.in-Some.ensures.whole,
  );
  lasts = lasts_line (fits c.args.sought.now) c.loop-line.number _ c.loop-line.found _
      c.in-Some.line.now c.in-Some.behind.now c.loop-line.rest.now c.in-Some.ensures.plain
      c.in-Some.ensures.whole (omega arith) c.found_or-found.ensures ∙ c.loop-line.invariant.lasts;
}

pub returns : goal.returns
returns c = sym (lasts_end (fits c.args.sought.now) c.loop-line.number c.loop-line.found
    c.loop-line.rest.now c.in_default.ensures.none) ∙ c.loop-line.invariant.lasts
