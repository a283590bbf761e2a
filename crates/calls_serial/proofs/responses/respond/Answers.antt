use Rattle.std.proofs.Common.{ap, sym, ◌∙◌, reverse}
use Rattle.calls_core.specs.declared.history.Call.{Call}
use Rattle.calls_serial.specs.kept.Stages.{helds}
use Rattle.calls_serial.proofs.Ending.{completed_in}
use Rattle.calls_serial.proofs.responses.respond.Goals as goal

pub returns-in-Done : goal.returns-in-Done
returns-in-Done c end t done pending w at r o g f same pend hold = (
  pend,
  completed_in end t done pending w at r o (helds c.args.pass.now.stages.items) _
      (reverse c.args.pass.now.links.items) g f
      (sym (ap (λ (z : Call). z.reply) same) ∙ c.in-Done.is) hold c.args.call same
      c.end_put.ensures,
)
