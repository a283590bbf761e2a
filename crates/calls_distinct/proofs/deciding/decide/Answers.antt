use Rattle.std.proofs.Common.{List, reverse, subst, ◌/◌, ◌∙◌}
use Rattle.std.specs.Prelude.{IfSome}
use Rattle.calls_core.specs.declared.history.Event.{Event}
use Rattle.calls_distinct.specs.kept.Verdicts.{IsRepeatedIn}
use Rattle.calls_distinct.proofs.Judging.{grouped_of}
use Rattle.calls_distinct.proofs.Earlier.{repeated_at}
use Rattle.calls_distinct.proofs.deciding.decide.Goals as goal

pub returns-in-Some : goal.returns-in-Some
returns-in-Some c =
    let found = subst (λ o. IfSome o (IsRepeatedIn (reverse c.first-beginning.result))) c.in-Some.is
    c.in_ok-value.ensures in
    repeated_at (c.len.result / 64) c.args.events.now c.in-Some.value c.in-Some.position
    c.requires.history (subst (λ (zs : List Event). IsRepeatedIn (reverse zs)
    (c.in-Some.value, c.in-Some.position)) c.first-beginning.ensures found)

pub first_fault-requires-clause-distinct : goal.first_fault-requires-clause-distinct
first_fault-requires-clause-distinct c =
    let past = reverse c.args.events.now in
    c.in_default-repeated_value.ensures past c.args.end (grouped_of past c.args.end _ _
    c.deref-3.result.now (c.deref-2.ensures.value ∙ c.in_ok-calls.ensures) c.deref-3.ensures.value
    c.in_ok-zs.ensures)
