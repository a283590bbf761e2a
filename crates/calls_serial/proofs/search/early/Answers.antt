use Rattle.std.proofs.Common.{refl, arith, ◌+◌}
use Rattle.calls_serial.proofs.Finding.{early_shut, early_next, early_last}
use Rattle.calls_serial.proofs.search.early.Goals as goal
use Rattle.calls_serial.proofs.search.early.Goals.{else-i-stages-via-then-i-stages+else-stages-i-2}
use Rattle.calls_serial.proofs.search.early.Goals.{else-i-stages-via-else-i-stages}

pub returns-then-stages-i-2-clause-found : goal.returns-then-stages-i-2-clause-found
returns-then-stages-i-2-clause-found c h here =
    early_shut c.args.stages.now c.args.i (c.args.i + 1) c.args.first c.args.value
    c.index-stages-i.result c.index-stages-i-then-stages-i-2.result
    c.index-stages-i-then-i-stages.result (omega arith) c.requires c.if-i-stages.true
    c.if-stages-i.false c.if-stages-i-2.true h here

pub returns-clause-found : goal.returns-clause-found
returns-clause-found c = (
  refl,
  λ h here. elim c.else-i-stages.branch [
    | else-i-stages-via-then-i-stages+else-stages-i-2 w ↦
        early_next c.args.stages.now c.args.i (c.args.i + 1) c.args.first c.args.value
        c.index-stages-i.result w.index-stages-i-then-i-stages.result (omega arith) c.requires
        w.if-i-stages.true c.if-stages-i.false w.if-stages-i-2.false h here
    | else-i-stages-via-else-i-stages w ↦
        early_last c.args.stages.now c.args.i c.args.first c.args.value c.index-stages-i.result
        c.requires (omega arith) c.if-stages-i.false h here
  ],
)
