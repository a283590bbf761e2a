use Rattle.std.proofs.Common.{Bool, [], refl, ap, sym, ◌∙◌}
use Rattle.ec_core.specs.Procedures.{next_of}
use Rattle.ec_buffer.specs.CallLists.{produce_list}
use Rattle.ec_buffer.specs.Keeping.{rest_of}
use Rattle.ec_buffer.proofs.Placing.{rest_next}
use Rattle.ec_buffer.proofs.produce.ProduceProcedure.next.Goals as goal

pub returns-else-self : goal.returns-else-self
returns-else-self c =
    let s = c.args.self.now in
    let list = produce_list s.shape s.item in
    c.produce_at.ensures ∙ rest_next list s.phase.at s.phase.turn refl ∙ ap (λ (b : Bool). next_of b (rest_of list s.phase.at s.phase.turn [])) (sym c.if-self.false)
