use Rattle.std.proofs.Common.{arith}
use Rattle.ec_runner.proofs.Asking.{both_bear_out}
use Rattle.ec_runner.proofs.Walking.{then_match}
use Rattle.ec_runner.proofs.ending.first_not_borne_out.Goals as goal

pub returns-in-None : goal.returns-in-None
returns-in-None c =
    then_match c.first_wrong.result
    (λ right w summary is. both_bear_out summary.outcome summary.asked c.args.run.now w _ (c.in-None.ensures w summary is)
    (λ within. (let up = c.last_moment.ensures w summary is in omega arith))
    (λ k below. right k w summary below is))
    (λ w u. u)
    c.first_wrong.ensures
