use Rattle.std.proofs.Common.{◌≡◌, Bool, not, sym, subst}
use Rattle.std.specs.Prelude.{nat_eq}
use Rattle.std.specs.List.{IsAnyAnswer}
use Rattle.calls_turns.specs.declared.demand.Target.{Target}
use Rattle.calls_turns.specs.Swept.{is_met}
use Rattle.calls_turns.proofs.Filling.{taker_met}
use Rattle.calls_turns.proofs.sweeping.is_met_by.Goals as goal

pub returns-then-j-sweep : goal.returns-then-j-sweep
returns-then-j-sweep c =
    let s = c.args.sweep.now in
    let j = c.in-Taker.j in
    subst (λ (t : Target). not c.contains.result ≡ is_met s.fills.items t) (sym c.in-Taker.is)
    (taker_met c.args.takers.now s.fills.items s.next s.free.items c.requires j c.if-j-sweep.true
    c.contains.result
    (subst (λ l. IsAnyAnswer (λ x (b : Bool). nat_eq x j ≡ b) l c.contains.result)
    c.deref.ensures.value c.contains.ensures.cases))
