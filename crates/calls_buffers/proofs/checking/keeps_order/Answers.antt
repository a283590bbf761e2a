use Rattle.std.proofs.Common.{◌+◌, ◌<◌, ◌↔◌, refl, sym, subst, drop, arith}
use Rattle.calls_core.specs.declared.history.Call.{Call}
use Rattle.calls_buffers.proofs.Checks.{Rises, rises_stop, rises_end, rises_more}
use Rattle.calls_buffers.proofs.checking.keeps_order.Goals as goal

pub returns-then-call-latest : goal.returns-then-call-latest
returns-then-call-latest c =
    let x = c.at-call.result in (
      λ e. absurd (cc),
      λ h. absurd (rises_stop c.args.calls.now c.loop-i.i c.loop-i.latest x
          (omega (arith, c.loop-i-test.true, c.len-i-end.ensures))
          (subst (λ (y : Call). y.last < c.loop-i.latest) (c.at-call.ensures x)
          c.if-call-latest.true) c.loop-i.invariant h),
    )

pub loop-i-preserved : goal.loop-i-preserved
loop-i-preserved c =
    let cs = c.args.calls.now in
    let x = c.at-call.result in
    subst (λ m. Rises 0 cs ↔ Rises m (drop (c.loop-i.i + 1) cs)) (sym c.max-latest.ensures)
    (rises_more cs c.loop-i.i x (omega (arith, c.loop-i-test.true, c.len-i-end.ensures))
    (c.at-call.ensures x) c.loop-i.latest c.if-call-latest.false c.loop-i.invariant)

pub returns : goal.returns
returns c = (
  λ e. rises_end c.args.calls.now c.loop-i.i c.loop-i.latest
      (omega (arith, c.loop-i-test.false, c.len-i-end.ensures)) c.loop-i.invariant,
  λ h. refl,
)
