use Rattle.std.proofs.Common.{◌≡◌, ◌∙◌, ℕ, List, IfOk, subst, ap}
use Rattle.calls_shapes.specs.Stairs.{invocations_by}
use Rattle.calls_shapes.proofs.Among.{same_invocations}
use Rattle.calls_shapes.proofs.stairs.called_by.Goals as goal

pub returns : goal.returns
returns c =
    let events = c.args.events.now in
    let by_others : List ℕ → List ℕ =
    λ l. invocations_by c.args.counted c.args.by l events in
    subst (λ l. IfOk c.invocations_by.result (λ v. v.items ≡ l))
    (ap by_others c.deref.ensures.value
    ∙ same_invocations c.args.counted c.args.by _
    c.in_ok-others.others.items events c.in_ok-others.ensures.all
    ∙ ap by_others c.in_ok-given_up.ensures) c.invocations_by.ensures
