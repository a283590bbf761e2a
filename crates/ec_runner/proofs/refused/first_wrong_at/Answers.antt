use Rattle.std.proofs.Common.{◌<◌, ℕ, length, slice_get, arith, ◌∙◌, ap}
use Rattle.std.proofs.lemmas.Option.{slice_get_within}
use Rattle.ec_runner.specs.declared.summary.Summary.{Summary}
use Rattle.ec_runner.specs.Fits.{IsRightAt}
use Rattle.ec_runner.proofs.Asking.{then_right}
use Rattle.ec_runner.proofs.Walking.{index_is, one_more}
use Rattle.ec_runner.proofs.refused.first_wrong_at.Goals as goal

pub returns-then-not-is_right_at : goal.returns-then-not-is_right_at
returns-then-not-is_right_at c =
    let summaries = c.args.summaries.now in
    let one = c.index-summaries-w.result in
    let within : c.loop-w.w < length summaries = omega arith in
    record {
      summary = one;
      at = ap (slice_get summaries) c.nth_worker-worker.ensures ∙ index_is summaries c.loop-w.w one c.index-summaries-w.is within;
      not = λ borne. (let yes = c.is_right_at.ensures.1 (then_right one.outcome one.asked c.args.run.now c.args.moment _ borne) in let no = c.if-not-is_right_at.true in cc);
    }

pub loop-w-preserved : goal.loop-w-preserved
loop-w-preserved c =
    one_more (λ (t : Summary) (w : ℕ). IsRightAt t.outcome t.asked c.args.run.now c.args.moment w) c.args.summaries.now c.loop-w.w _ c.index-summaries-w.result c.index-summaries-w.is c.nth_worker-worker.ensures
    (c.is_right_at.ensures.0 c.if-not-is_right_at.false) c.loop-w.invariant

pub returns : goal.returns
returns c = λ w summary is. c.loop-w.invariant w summary (let h = slice_get_within c.args.summaries.now w summary is in omega arith) is
