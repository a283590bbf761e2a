use Rattle.std.proofs.Common.{◌<◌, ◌∙◌, arith, reverse}
use Rattle.ec_core.proofs.shared.Answering.{component_is}
use Rattle.ec_core.proofs.world.World.component_of.Goals as goal

pub returns : goal.returns
returns c = λ h st.
    (let small : c.args.event < 32 = omega arith in
    c.own_component.ensures.value ∙ component_is c.args.self.now (reverse h) c.args.event c.args.worker st small)
