use Rattle.std.proofs.Common.{◌<◌, ℕ, length, slice_get, arith, ◌∙◌, ap}
use Rattle.std.proofs.lemmas.Option.{slice_get_within}
use Rattle.ec_runner.specs.declared.summary.Summary.{Summary}
use Rattle.ec_runner.specs.Fits.{MayBeBorneOut}
use Rattle.ec_runner.proofs.Asking.{then_likely}
use Rattle.ec_runner.proofs.Walking.{index_is, one_more}
use Rattle.ec_runner.proofs.ending.first_implausible_end.Goals as goal

pub returns-then-not-may_be_borne_out : goal.returns-then-not-may_be_borne_out
returns-then-not-may_be_borne_out c =
    let summaries = c.args.summaries.now in
    let one = c.index-summaries-w.result in
    let within : c.loop-w.w < length summaries = omega arith in
    record {
      summary = one;
      at = ap (slice_get summaries) c.nth_worker-worker.ensures ∙ index_is summaries c.loop-w.w one c.index-summaries-w.is within;
      not = λ borne. (let yes = c.may_be_borne_out.ensures.1 (then_likely one.outcome one.asked c.args.run.now _ borne) in let no = c.if-not-may_be_borne_out.true in cc);
    }

pub loop-w-preserved : goal.loop-w-preserved
loop-w-preserved c =
    one_more (λ (t : Summary) (w : ℕ). MayBeBorneOut t.outcome c.args.run.now w t.asked) c.args.summaries.now c.loop-w.w _ c.index-summaries-w.result c.index-summaries-w.is c.nth_worker-worker.ensures
    (c.may_be_borne_out.ensures.0 c.if-not-may_be_borne_out.false) c.loop-w.invariant

pub returns : goal.returns
returns c = λ w summary is. c.loop-w.invariant w summary (let h = slice_get_within c.args.summaries.now w summary is in omega arith) is
