use Rattle.std.proofs.Common.{◌∙◌, arith}
use Rattle.ec_runner.proofs.Asking.{right_more}
use Rattle.ec_runner.proofs.Walking.{then_match}
use Rattle.ec_runner.proofs.refused.first_wrong.Goals as goal

pub loop-k-preserved : goal.loop-k-preserved
loop-k-preserved c = record {
  represents = c.go_on.ensures.represents c.loop-k.invariant.represents c.loop-k.invariant.setup;
  setup = c.go_on.ensures.setup ∙ c.loop-k.invariant.setup;
  right = λ k w summary below is. right_more c.args.run.now c.args.summaries.now c.loop-k.k k w summary c.loop-k.invariant.right c.in-None.ensures (omega arith) is;
}

pub returns : goal.returns
returns c =
    then_match c.first_wrong_at-2.result
    (λ here k w summary up is.
    right_more c.args.run.now c.args.summaries.now c.args.last k w summary (λ j v one below there. c.loop-k.invariant.right j v one (omega arith) there) here up is)
    (λ w u. u)
    c.first_wrong_at-2.ensures
