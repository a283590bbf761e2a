use Rattle.ec_order.proofs.Scanning.{call_ended}
use Rattle.ec_order.proofs.scan.add_entry.Goals as goal

pub returns : goal.returns
returns c = record { ends = λ past acc here s. call_ended _ past c.args.entry.now c.args.i c.take.result c.call_ended_by.result c.take.new.self here c.call_ended_by.ensures (c.take.ensures past acc here s) }
