use Rattle.std.proofs.Common.{◌<◌, refl, sym, ◌∙◌, length, arith}
use Rattle.std.proofs.lemmas.Bool.{false≢true}
use Rattle.calls_buffers.proofs.Checks.{run_end, run_stop, run_more}
use Rattle.calls_buffers.proofs.checking.is_run.Goals as goal

pub returns-then-not-branch : goal.returns-then-not-branch
returns-then-not-branch c =
    let x = c.at.result in
    let lt : c.loop-i.i < length c.args.calls.now =
    omega (arith, c.loop-i-test.true, c.len-i-end.ensures) in (
      λ e. absurd (false≢true e),
      λ h. absurd (run_stop c.args.calls.now c.loop-i.i x lt (c.at.ensures x) c.args.room
          c.loop-i.items.items c.loop-i.invariant
          (λ a. false≢true (sym c.if-not-branch.true ∙ c.in_ok-step.ensures.allowed.1 a)) h),
    )

pub loop-i-preserved : goal.loop-i-preserved
loop-i-preserved c =
    let x = c.at.result in
    let lt : c.loop-i.i < length c.args.calls.now =
    omega (arith, c.loop-i-test.true, c.len-i-end.ensures) in
    run_more c.args.calls.now c.loop-i.i x lt (c.at.ensures x) c.args.room c.loop-i.items.items
    c.loop-i.invariant c.step.new.items.items (c.in_ok-step.ensures.allowed.0 c.if-not-branch.false)
    (c.in_ok-step.ensures.after c.if-not-branch.false)

pub returns : goal.returns
returns c = (
  λ e. run_end c.args.room c.loop-i.items.items c.args.calls.now c.loop-i.i
      (omega (arith, c.loop-i-test.false, c.len-i-end.ensures)) c.loop-i.invariant,
  λ h. refl,
)
