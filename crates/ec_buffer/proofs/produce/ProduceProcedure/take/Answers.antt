use Rattle.ec_buffer.specs.CallLists.{produce_list}
use Rattle.ec_buffer.proofs.Placing.{rest_pending, rest_told}
use Rattle.ec_buffer.proofs.produce.ProduceProcedure.take.Goals as goal

pub returns-clause-pending : goal.returns-clause-pending
returns-clause-pending c =
    let s = c.args.self.now in
    λ pending calls. rest_pending (produce_list s.shape s.item) s.phase.at s.phase.turn c.take.new.self.at c.take.new.self.turn c.args.reply calls pending c.take.ensures.at c.take.ensures.turn

pub returns-clause-returned : goal.returns-clause-returned
returns-clause-returned c =
    let s = c.args.self.now in
    λ done op due calls. rest_told (produce_list s.shape s.item) s.phase.at s.phase.turn c.take.new.self.at c.take.new.self.turn c.args.reply op calls done c.take.ensures.at c.take.ensures.turn
