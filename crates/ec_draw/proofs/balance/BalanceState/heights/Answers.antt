use Rattle.std.proofs.Common.{◌≡◌, ◌≤◌, ℕ, reverse, ap, sym, ◌∙◌, subst}
use Rattle.std.proofs.lemmas.List.{length-reverse}
use Rattle.ec_semaphore.specs.declared.shape.TheConstants.{INITIAL_MAX}
use Rattle.ec_draw.specs.Balances.{BalanceState, RepresentsCurve, units_left_at_moments}
use Rattle.ec_draw.proofs.Balancing.{small_run, balance_last}
use Rattle.ec_draw.proofs.balance.BalanceState.heights.Goals as goal

pub returns : goal.returns
returns c =
    let h = c.args.run.now.entries in
    let past = reverse h in
    let s = c.args.shape.now in
    let inside = c.self.inside in
    let represents =
    subst (λ (z : BalanceState). RepresentsCurve z past) (sym c.self.view_is) c.requires.represents in
    let shape =
    subst (λ (z : BalanceState). z.audit.shape ≡ s) (sym c.self.view_is) c.requires.shape in
    let few = subst (λ (n : ℕ). n ≤ INITIAL_MAX) c.initial-initial.ensures.value
    c.initial-initial.ensures.small in
    let small = small_run c.args.run.now.setup s past few c.invariant.ensures.declared
    c.invariant.ensures.accepted in
    balance_last inside.audit inside.window s past c.len.result c.units_left.result inside.heights.items _
    shape represents.counted (c.len.ensures ∙ sym (length-reverse h))
    (represents.heights c.if-out_of_memory.false) small c.units_left.ensures c.in_ok-pad.ensures
    ∙ ap (λ (z : BalanceState). units_left_at_moments s z.window past) c.self.view_is
