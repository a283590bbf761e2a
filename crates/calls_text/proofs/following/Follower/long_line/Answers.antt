use Rattle.std.proofs.Common.{subst, sym}
use Rattle.calls_text.specs.declared.fault.FaultKind.{FaultKind}
use Rattle.calls_text.specs.declared.fault.Cause.TheVariants.{Long}
use Rattle.calls_text.specs.declared.fault.TextFault.TheVariants as faults
use Rattle.calls_text.specs.Following.{IsFaulty, stage_with_events}
use Rattle.calls_text.proofs.LongLines.{long_faulty}
use Rattle.calls_text.proofs.following.Follower.long_line.Goals as goal

pub returns : goal.returns
returns c = λ events line long going.
    subst (λ (k : FaultKind). IsFaulty (faults.At c.args.number k Long) c.args.number line
    (stage_with_events events c.args.self.now)) (sym c.long_kind.ensures)
    (long_faulty line long c.args.number events c.args.self.now.stage going)
