use Rattle.std.proofs.Common.{◌≡◌, ◌<◌, ◌∙◌, ℕ, List, ap, arith, Some, true, nat_lt, length}
use Rattle.ec_count.specs.CountModel.{CountModel}
use Rattle.ec_core.specs.Counts.{sum_to}
use Rattle.ec_core.specs.Rounds.{component_count}
use Rattle.ec_core.specs.Standing.{State, count_at}
use Rattle.ec_core.specs.kept.Fields.{count_value}
use Rattle.ec_core.proofs.shared.Totals.{total_now}
use Rattle.ec_core.proofs.world.World.total.Goals as goal

pub returns : goal.returns
returns c = λ h st.
    (let known : nat_lt c.args.event (length c.args.self.now.setup.events) ≡ true = grind arith in
    let small : c.args.event < 32 = omega arith in
    let f : List (List CountModel) → ℕ → ℕ → ℕ = λ cs e n. sum_to (λ i. count_value (count_at cs e i)) n in
    let all : c.component_sum.result ≡ f c.self.inside.counts c.get-2.result c.component_count-width.result = c.component_sum.ensures in
    let counts : c.self.inside.counts ≡ c.args.self.now.counts = ap (λ (s : State). s.counts) c.self.view_is in
    let event : c.get-2.result ≡ c.args.event = c.get-2.ensures.value in
    let wide : c.component_count-width.result ≡ component_count c.args.self.now.setup c.args.event = c.component_count-width.ensures.value ∙ ap (λ (s : State). component_count s.setup c.args.event) c.self.view_is in
    rw known (ap Some (all ∙ ap (λ cs. f cs c.get-2.result c.component_count-width.result) counts ∙ ap (λ e. f c.args.self.now.counts e c.component_count-width.result) event
    ∙ ap (f c.args.self.now.counts c.args.event) wide ∙ total_now c.args.self.now h c.args.event st small)))
