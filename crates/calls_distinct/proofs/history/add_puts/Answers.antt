use Rattle.std.proofs.Common.{◌++◌, ◌∷◌, [], sym, ap, ◌∙◌}
use Rattle.calls_distinct.proofs.Steps.{puts_more, puts_same}
use Rattle.calls_distinct.proofs.history.add_puts.Goals as goal
use Rattle.calls_distinct.proofs.history.add_puts.Goals.{then-is_put+in_ok-push, else-is_put}

pub loop-o-preserved : goal.loop-o-preserved
loop-o-preserved c =
    elim c.if-is_put.branch [
      | then-is_put+in_ok-push w ↦ ap (λ v. v.items) w.calls-is ∙ w.in_ok-push.ensures.items ∙ ap
          (λ x. c.loop-o.calls.items ++ x ∷ []) w.complete.ensures ∙ puts_more _ _ _ _ _ _
          c.loop-o-test.true c.loop-o.invariant (sym c.is_put.ensures ∙ w.if-is_put.true)
      | else-is_put w ↦ ap (λ v. v.items) w.calls-is ∙ puts_same _ _ _ _ _ _ c.loop-o-test.true
          c.loop-o.invariant (sym c.is_put.ensures ∙ w.if-is_put.false)
    ]
