use Rattle.std.proofs.Common.{◌++◌, ◌<◌, inl, inr, subst, sym, arith}
use Rattle.calls_core.proofs.Lists.{each_pair_left}
use Rattle.calls_buffers.specs.declared.accesses.Access.{Access}
use Rattle.calls_buffers.specs.Turns.{AreApart}
use Rattle.calls_buffers.proofs.turns.are_in_turn.Goals as goal

pub returns-else-puts-takes : goal.returns-else-puts-takes
returns-else-puts-takes c = λ pending e.
    let takes = c.args.takes.now in
    let are = c.are_apart-else-puts-takes.ensures in (
      λ yes. (let apart : AreApart (takes ++ pending) = subst AreApart e (are.0 yes) in (
        each_pair_left (λ (a b : Access). a.last < b.first) takes pending apart,
        inr apart,
      )),
      λ h. (let apart : AreApart (takes ++ pending) = elim h.1 [
        | inl few ↦ absurd (omega (arith, few, c.if-puts-takes.false))
        | inr apart ↦ apart
      ] in are.1 (subst AreApart (sym e) apart)),
    )
