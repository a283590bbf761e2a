use Rattle.std.proofs.Common.{refl, ap, sym, subst, ◌∙◌}
use Rattle.ec_draw.specs.Balances.{BalanceState, RepresentsCurve}
use Rattle.ec_draw.proofs.Balancing.{balance_next}
use Rattle.ec_draw.proofs.balance.BalanceStateAudit.take.Goals as goal

pub returns : goal.returns
returns c = λ start past at op was.
    (let P : BalanceState → Type 0 = λ z. RepresentsCurve z past in
    let inside = subst P (sym c.self.view_is) was.2 in
    let counted = c.take.ensures c.self.inside.audit past at op (refl, inside.counted) in
    let added = c.add_fails.ensures in (
      ap (λ (z : BalanceState). z.window) c.self.view_is ∙ was.0,
      counted.0 ∙ ap (λ (z : BalanceState). z.audit.shape) c.self.view_is ∙ was.1,
      record {
        counted = counted.1;
        heights = λ ok small. balance_next c.self.inside.audit c.take.new.self c.self.inside.window
            c.args.entry.now past c.args.place c.units_left.result c.self.inside.heights.items _ counted.0
            inside.counted counted.1 at (inside.heights (added.before ok)) small c.units_left.ensures
            (added.added ok);
      },
    ))
