use Rattle.std.proofs.Common.{◌∙◌, length, ap, arith}
use Rattle.ec_count.specs.Members.{has_repeat}
use Rattle.ec_count.proofs.shared.Declared.{few_signallers}
use Rattle.ec_core.proofs.shared.Signalling.{different_signallers}
use Rattle.ec_core.proofs.fields.signallers_of_event.Goals as goal

pub new-requires-clause-few : goal.new-requires-clause-few
new-requires-clause-few c = omega (arith, ap length c.signallers.ensures, few_signallers c.args.setup.now c.args.event c.invariant.ensures)

pub new-requires-clause-different : goal.new-requires-clause-different
new-requires-clause-different c = ap has_repeat c.signallers.ensures ∙ different_signallers c.args.setup.now c.args.event c.invariant.ensures
