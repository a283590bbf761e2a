use Rattle.std.proofs.Common.{◌≡◌, ℕ, zero, suc, ◌-◌, List, refl, ap, ◌∙◌, arith, slice_get}
use Rattle.std.specs.Option.{unwrap_or}
use Rattle.std.proofs.lemmas.Option.{unwrap_or-slice_get}
use Rattle.ec_order.specs.Index.{moment_of_advance}
use Rattle.ec_order.proofs.index.moment_of_advance.Goals as goal

moment_at : (moments : List ℕ) (r n : ℕ) → (r ≡ 0 → ⊥) → n ≡ unwrap_or (slice_get moments (r - 1)) 0 → n ≡ moment_of_advance moments r
moment_at moments zero n some is = absurd (some refl)
moment_at moments (suc r) n some is =
    let at : suc r - 1 ≡ r = omega arith in
    is ∙ ap (λ i. unwrap_or (slice_get moments i) 0) at ∙ unwrap_or-slice_get moments r 0

pub returns-else-r-eq0 : goal.returns-else-r-eq0
returns-else-r-eq0 c = moment_at c.args.moments.now.list c.args.r c.unwrap_or.result c.if-r-eq0.false (c.unwrap_or.ensures ∙ ap (λ o. unwrap_or o 0) c.get.ensures.value)
