use Rattle.std.proofs.Common.{arith}
use Rattle.ec_heading.proofs.Stops.{well_parts}
use Rattle.ec_heading.proofs.form.split_lists.Goals as goal

pub returns : goal.returns
returns c = well_parts c.args.needs c.args.stop.now c.args.list.now c.in-Some.at c.in-Some.ensures.some (omega arith) (omega arith)
