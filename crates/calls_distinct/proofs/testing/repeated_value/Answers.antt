use Rattle.std.proofs.Common.{ℕ, subst, sym, ap, ◌∙◌}
use Rattle.calls_core.specs.Histories.{completed_calls, pending_calls}
use Rattle.calls_distinct.specs.declared.zone.Group.{Group}
use Rattle.calls_distinct.specs.declared.zone.GroupedCall.{GroupedCall}
use Rattle.calls_distinct.specs.Cells.{value}
use Rattle.calls_distinct.specs.Outcomes.{IsRepeated}
use Rattle.calls_distinct.proofs.Judging.{history_distinct, history_repeats}
use Rattle.calls_distinct.proofs.testing.repeated_value.Goals as goal

pub returns-in-Some : goal.returns-in-Some
returns-in-Some c = λ past t grouped.
    subst (λ (n : ℕ). IsRepeated (completed_calls past) (pending_calls past) c.value.result n)
    (sym (ap (λ (g : Group). g.put) c.group.view_is ∙ ap (λ (z : GroupedCall). z.group.put)
    c.z.view_is))
    (history_repeats past t c.value.result c.args.zs.now grouped c.in-Some.z.now
    c.in-Some.ensures.0 c.in-Some.ensures.1 (c.value.ensures
    ∙ ap (λ (z : GroupedCall). value z.call)
    c.z.view_is))

pub returns-in-None : goal.returns-in-None
returns-in-None c = λ past t grouped. history_distinct past t c.args.zs.now grouped c.in-None.ensures
