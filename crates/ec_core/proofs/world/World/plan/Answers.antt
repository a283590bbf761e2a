use Rattle.std.proofs.Common.{◌<◌, arith, reverse}
use Rattle.ec_core.proofs.shared.Stepping.{plan_is}
use Rattle.ec_core.proofs.world.World.plan.Goals as goal

pub returns : goal.returns
returns c = λ h st.
    (let small : c.args.worker < 16 = omega arith in
    plan_is c.args.self.now h c.args.worker c.args.act.now c.effect.result st small c.effect.ensures.named (c.effect.ensures.is (reverse h)))
