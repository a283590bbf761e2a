use Rattle.std.proofs.Common.{◌≡◌, ap, ◌∙◌, rules}
use Rattle.ec_core.specs.RunModel.{RunModel}
use Rattle.ec_core.specs.declared.act.Reply.TheVariants as replies
use Rattle.calls_replay.proofs.Steps.{begun, gone_on}
use Rattle.calls_replay.proofs.making.make.Goals as goal

pub loop-component-init : goal.loop-component-init
loop-component-init c =
    let old = c.args.run.now in
    let new = c.step.new.run in
    let entries = ap (λ (r : RunModel). r.entries) c.in_ok-reply.ensures in (
      ap (λ (r : RunModel). r.setup) c.in_ok-reply.ensures,
      λ b free. begun old.setup old.entries new.entries c.args.worker c.args.act c.in_ok-reply.reply
          entries b free,
    )

pub loop-component-preserved : goal.loop-component-preserved
loop-component-preserved c =
    let old = c.args.run.now in
    let now = c.loop-component.run in
    let new = c.step-in-loop-component.new.run in
    let entries = ap (λ (r : RunModel). r.entries) c.in_ok-reply-2.ensures in
    let pending : c.loop-component.reply ≡ replies.Pending = search rules in (
      ap (λ (r : RunModel). r.setup) c.in_ok-reply-2.ensures ∙ c.loop-component.invariant.0,
      λ b free. gone_on old.setup old.entries now.entries new.entries c.args.worker c.args.act
          c.loop-component.reply c.in_ok-reply-2.reply entries pending
          (c.loop-component.invariant.1 b free),
    )
