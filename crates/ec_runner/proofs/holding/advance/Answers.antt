use Rattle.ec_runner.proofs.Waking.{advancer_awake}
use Rattle.ec_runner.proofs.holding.advance.Goals as goal

pub returns-clause-awake : goal.returns-clause-awake
returns-clause-awake c =
    advancer_awake c.step-next.result c.args.board.now c.step-next.new.board c.args.worker c.args.act c.args.may_park c.requires c.step-next.ensures.next
