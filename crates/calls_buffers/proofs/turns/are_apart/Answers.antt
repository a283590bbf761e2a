use Rattle.std.proofs.Common.{arith, ◌≡◌, ◌+◌, ◌-◌, ◌<◌, get_or, subst, refl}
use Rattle.calls_buffers.specs.Accesses.{no_access}
use Rattle.calls_buffers.proofs.InTurn.{apart_next, apart_at}
use Rattle.calls_buffers.proofs.turns.are_apart.Goals as goal

pub returns-then-list-i : goal.returns-then-list-i
returns-then-list-i c = (
  λ no. absurd (cc),
  λ apart. absurd (omega (
    arith,
    apart_at c.args.list.now (c.loop-i.i - 1) c.loop-i.i no_access apart (omega arith)
        (omega arith),
    c.if-list-i.true,
  )),
)

pub returns : goal.returns
returns c = (
  λ yes. apart_next c.args.list.now c.requires (λ k d lt.
      let same : k + 1 - 1 ≡ k = omega arith in
      subst (λ n. (get_or c.args.list.now n d).last < (get_or c.args.list.now (k + 1) d).first) same
      (c.loop-i.invariant (k + 1) d (omega arith) (omega (arith, lt, c.loop-i-test.false)))),
  λ apart. refl,
)
