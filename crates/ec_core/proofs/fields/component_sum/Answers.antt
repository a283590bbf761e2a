use Rattle.std.proofs.Common.{◌≡◌, ◌∙◌, ℕ, ap, sym, refl, arith}
use Rattle.ec_core.specs.Counts.{sum_to}
use Rattle.ec_core.specs.kept.Fields.{count_value}
use Rattle.ec_core.specs.Standing.{count_at}
use Rattle.ec_core.proofs.shared.Totals.{sum_to_next}
use Rattle.ec_core.proofs.fields.component_sum.Goals as goal

pub loop-component-init : goal.loop-component-init
unfolding sum_to
loop-component-init c = record { sum = refl; small = omega arith }

pub loop-component-preserved : goal.loop-component-preserved
loop-component-preserved c =
    let f : ℕ → ℕ = λ i. count_value (count_at c.args.counts.now c.args.event i) in
    let here : f c.loop-component.component ≡ c.value-sum.result = ap count_value c.count_in-count.ensures ∙ sym c.value-sum.ensures.value in
    record { sum = omega (arith, sum_to_next f c.loop-component.component, here, c.loop-component.invariant.sum); small = omega arith }
