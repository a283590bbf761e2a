use Rattle.std.proofs.Common.{◌≡◌, ◌∙◌, ap, sym, subst, false}
use Rattle.ec_count.specs.Tables.{IsDeclared}
use Rattle.ec_order.specs.Points.{ordered_by_points}
use Rattle.ec_order.specs.Linearizer.{LinearizerModel, entries_from_moment}
use Rattle.ec_order.proofs.Dates.{dates_of}
use Rattle.ec_order.proofs.Legal.{order_good}
use Rattle.ec_order.proofs.linearizer.Linearizer.calls.Goals as goal

pub returns-clause-value : goal.returns-clause-value
returns-clause-value c = λ past s acc.
    let k = c.args.self.now in
    let out_of_memory : k.out_of_memory ≡ false = ap (λ (z : LinearizerModel). z.out_of_memory) (sym c.self.view_is) ∙ c.if-self.false in
    let declared : IsDeclared k.setup = subst IsDeclared (ap (λ (z : LinearizerModel). z.setup) c.self.view_is) c.invariant.ensures in
    ap (λ ms. entries_from_moment 0 ms c.entries.result c.self.inside.readings) c.iter.ensures.value ∙ ap (λ es. entries_from_moment 0 c.self.inside.marks es c.self.inside.readings) c.entries.ensures
    ∙ ap (λ (z : LinearizerModel). entries_from_moment 0 z.marks z.one_entry_calls z.readings) c.self.view_is ∙ dates_of k past declared acc (s out_of_memory acc)

pub returns-clause-good : goal.returns-clause-good
returns-clause-good c = λ past s acc.
    let k = c.args.self.now in
    record {
      placed = ordered_by_points k.setup past;
      returned = returns-clause-value c past s acc;
      good = order_good k.setup past (subst IsDeclared (ap (λ (z : LinearizerModel). z.setup) c.self.view_is) c.invariant.ensures) acc;
    }
