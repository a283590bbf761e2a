use Rattle.ec_runner.proofs.Promising.{all_told}
use Rattle.ec_runner.proofs.workers.start_and_join.Goals as goal

pub returns : goal.returns
returns g c = all_told c.start_each-handles.result.items c.args.programs.now c.args.turns c.join_each.result c.start_each-handles.ensures c.join_each.ensures
