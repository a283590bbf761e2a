use Rattle.ec_order.proofs.Scanning.{call_going}
use Rattle.ec_order.proofs.scan.go_on.Goals as goal

pub returns : goal.returns
returns c = record { ends = λ past acc here s. call_going _ past c.args.entry.now c.args.i c.take.result c.take.new.self here c.requires (c.take.ensures past acc here s) }
