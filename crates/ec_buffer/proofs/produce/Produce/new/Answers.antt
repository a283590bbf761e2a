use Rattle.ec_buffer.specs.CallLists.{produce_list}
use Rattle.ec_buffer.proofs.Placing.{rest_at_start}
use Rattle.ec_buffer.proofs.produce.Produce.new.Goals as goal

pub returns-clause-whole : goal.returns-clause-whole
returns-clause-whole c = λ calls. rest_at_start (produce_list c.args.shape c.args.item) c.start.result.at c.start.result.turn calls c.start.ensures.at
