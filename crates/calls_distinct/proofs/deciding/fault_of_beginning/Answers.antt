use Rattle.std.proofs.Common.{◌≡◌, ◌+◌, ◌-◌, ℕ, ◌∙◌, ap, sym, arith, subst, List, reverse}
use Rattle.calls_core.specs.declared.history.Op.TheVariants.{Advance}
use Rattle.calls_core.specs.declared.history.Action.TheVariants.{Invoke}
use Rattle.calls_core.specs.declared.history.Event.{Event}
use Rattle.calls_core.specs.Histories.{clock}
use Rattle.calls_core.specs.Beginnings.{past_at}
use Rattle.calls_core.specs.Outcomes.{IsOrderOf}
use Rattle.calls_core.proofs.Beginnings.{clock_at}
use Rattle.calls_distinct.specs.kept.Verdicts.{IsVerdict, calls_of_history}
use Rattle.calls_distinct.specs.kept.Zones.{zone_calls}
use Rattle.calls_distinct.proofs.Judging.{grouped_of}
use Rattle.calls_distinct.proofs.Earlier.{distinct_at, store_at, clock_is}
use Rattle.calls_distinct.proofs.deciding.fault_of_beginning.Goals as goal

-- the default beyond the end of a list
abbrev none : Event
none = record { at = 0; worker = 0; action = Invoke 0 Advance }

pub overflow_add-end : goal.overflow_add-end
overflow_add-end c =
    let n = c.args.n in
    let events = c.args.events.now in
    let some = c.requires.some in
    let within = c.requires.within in
    let room = c.requires.room in
    let le = clock_at c.requires.store.0 n events c.requires.store.2 in
    let is = clock_is (n - 1) n events none (omega arith) (omega arith) in
    omega (arith, is, ap (λ (x : Event). x.at) (c.at-end.ensures none))

pub returns-in-Ordered : goal.returns-in-Ordered
returns-in-Ordered c = λ kind store.
    let n = c.args.n in
    let events = c.args.events.now in
    let past = past_at n events in
    let some = c.requires.some in
    let within = c.requires.within in
    let end = c.at-end.result.at + 1 in
    let is : clock past ≡ end = clock_is (n - 1) n events none (omega arith) (omega arith)
    ∙ ap (λ (x : Event). x.at + 1) (sym (c.at-end.ensures none)) in
    let verdict = subst (IsVerdict past end) c.in-Ordered.is (c.in_ok-judge.ensures past
    (store_at n events c.requires.store) (omega (arith, is))
    (distinct_at n events c.requires.store c.requires.distinct)
    (grouped_of past end _ _ c.deref-3.result.now (c.deref-2.ensures.value ∙ c.in_ok-calls.ensures
    ∙ ap (λ (zs : List Event). calls_of_history (reverse zs) end) c.first-beginning.ensures)
    c.deref-3.ensures.value c.in_ok-zs.ensures)) in (
      _,
      subst (λ (t : ℕ). IsOrderOf kind past t (zone_calls c.in-Ordered.field-0.items)) (sym is)
          (verdict kind store),
    )

pub returns : goal.returns
returns c =
    let n = c.args.n in
    let events = c.args.events.now in
    let past = past_at n events in
    let some = c.requires.some in
    let within = c.requires.within in
    let end = c.at-end.result.at + 1 in
    let is : clock past ≡ end = clock_is (n - 1) n events none (omega arith) (omega arith)
    ∙ ap (λ (x : Event). x.at + 1) (sym (c.at-end.ensures none)) in
    subst (IsVerdict past end) c.in-Faulty.is (c.in_ok-judge.ensures past
    (store_at n events c.requires.store) (omega (arith, is))
    (distinct_at n events c.requires.store c.requires.distinct)
    (grouped_of past end _ _ c.deref-3.result.now (c.deref-2.ensures.value ∙ c.in_ok-calls.ensures
    ∙ ap (λ (zs : List Event). calls_of_history (reverse zs) end) c.first-beginning.ensures)
    c.deref-3.ensures.value c.in_ok-zs.ensures))
