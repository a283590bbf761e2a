-- What is drawn, name by name.
use Rattle.std.proofs.Common.{◌≡◌, ℕ, zero, suc, ◌+◌, true, false, List, [], ◌∷◌, ◌++◌, map}
use Rattle.std.proofs.Common.{take, Some, ap, ◌∙◌, cond, slice_get}
use Rattle.std.proofs.Common.{add-one}
use Rattle.std.specs.List.{filter}
use Rattle.ec_count.specs.declared.target.Target.{Target}
use Rattle.ec_heading.specs.Spelling.{NameTable}
use Rattle.ec_draw.specs.declared.chosen.NameFilter.{NameFilter}
use Rattle.ec_draw.specs.Chosen.{is_drawn, chosen_targets}

drawn_more : (v : NameFilter) (ws : NameTable) (n : ℕ) (e : List ℕ × Target)
    → slice_get ws n ≡ Some e
    → chosen_targets v (take (suc n) ws) ≡ chosen_targets v (take n ws) ++ chosen_targets v (e ∷ [])
drawn_more v [] n e at = cc
drawn_more v (x ∷ ws) zero e at =
    (let same : x ≡ e = cc in ap (λ y. chosen_targets v (y ∷ [])) same)
drawn_more v (x ∷ ws) (suc n) e at =
    let f = is_drawn v in
    let snd = λ (y : List ℕ × Target). y.1 in
    elim (f x) as (λ b. map snd
    (cond b (x ∷ filter f (take (suc n) ws)) (filter f (take (suc n) ws)))
    ≡ map snd (cond b (x ∷ filter f (take n ws)) (filter f (take n ws)))
    ++ chosen_targets v (e ∷ [])) [
      | true ↦ ap (λ z. x.1 ∷ z) (drawn_more v ws n e at)
      | false ↦ drawn_more v ws n e at
    ]

-- those of one word more
pub drawn_next : (v : NameFilter) (ws : NameTable) (n : ℕ) (e : List ℕ × Target)
    → slice_get ws n ≡ Some e
    → chosen_targets v (take (n + 1) ws) ≡ chosen_targets v (take n ws) ++ chosen_targets v (e ∷ [])
drawn_next v ws n e at = ap (λ m. chosen_targets v (take m ws)) (add-one n) ∙ drawn_more v ws n e at
