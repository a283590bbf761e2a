use Rattle.std.proofs.Common.{◌≡◌, None, Some, ap, sym, ◌∙◌, subst}
use Rattle.calls_core.specs.Histories.{pending_of}
use Rattle.calls_core.specs.Pending.{IsPendingOf}
use Rattle.calls_core.proofs.Finding.{without_none}
use Rattle.calls_core.proofs.pending.take_pending.Goals as goal

pub returns-in-Some-clause-result : goal.returns-in-Some-clause-result
returns-in-Some-clause-result c =
    let at = subst (λ os. IsPendingOf os c.args.worker c.in-Some.i) c.deref.ensures.value
    c.in-Some.ensures in
    ap (λ o. Some o) c.remove.ensures.value ∙ sym (at.first c.remove.result)

pub returns-in-Some-clause-rest : goal.returns-in-Some-clause-rest
returns-in-Some-clause-rest c =
    let at = subst (λ os. IsPendingOf os c.args.worker c.in-Some.i) c.deref.ensures.value
    c.in-Some.ensures in
    c.remove.ensures.items ∙ sym at.others

pub returns-in-None-clause-rest : goal.returns-in-None-clause-rest
returns-in-None-clause-rest c = without_none c.args.pending.now.items c.args.worker
    (subst (λ os. pending_of c.args.worker os ≡ None) c.deref.ensures.value c.in-None.ensures)
