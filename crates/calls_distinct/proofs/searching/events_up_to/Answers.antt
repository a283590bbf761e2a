use Rattle.std.proofs.Common.{◌≤◌, get_or, sym, subst, arith, inl, inr}
use Rattle.std.proofs.lemmas.Bool.{cases_order}
use Rattle.calls_core.specs.declared.history.Event.{Event}
use Rattle.calls_distinct.proofs.searching.events_up_to.Goals as goal

pub loop-n-init : goal.loop-n-init
loop-n-init c = record { within = omega arith; up_to = λ d i lt. absurd (omega (arith, lt)) }

pub loop-n-preserved : goal.loop-n-preserved
loop-n-preserved c =
    let events = c.args.events.now in
    let n = c.loop-n.n in
    let here : (d : Event) → (get_or events n d).at ≤ c.args.position = λ d.
    subst (λ (x : Event). x.at ≤ c.args.position) (c.at.ensures d) c.if-at-position.false in
    record {
      within = omega (arith, c.loop-n-test.true, c.len.ensures);
      up_to = λ d i lt. elim (cases_order i n) [
        | inl e ↦ subst (λ k. (get_or events k d).at ≤ c.args.position) (sym e) (here d)
        | inr (inl less) ↦ c.loop-n.invariant.up_to d i less
        | inr (inr more) ↦ absurd (omega (arith, lt, more))
      ];
    }
