use Rattle.std.proofs.Common.{arith, ◌≡◌, ◌+◌, ◌-◌, ◌<◌, get_or, subst}
use Rattle.calls_buffers.proofs.ByItems.{ascend_next}
use Rattle.calls_buffers.proofs.accesses.repeated.Goals as goal

pub returns : goal.returns
returns c = ascend_next c.args.list.now (λ k d lt.
    let same : k + 1 - 1 ≡ k = omega arith in
    subst (λ n. (get_or c.args.list.now n d).item < (get_or c.args.list.now (k + 1) d).item) same
    (c.loop-i.invariant (k + 1) d (omega arith) (omega (arith, lt, c.loop-i-test.false))))
