-- Lists to which the numbers of a range are added.
use Rattle.std.proofs.Common.{◌≡◌, ℕ, zero, suc, ◌+◌, ◌-◌, ◌<◌, ◌≤◌, List, [], ◌∷◌, ◌++◌, length}
use Rattle.std.proofs.Common.{ap, sym, ◌∙◌, append_assoc, length-append, arith}
use Rattle.std.specs.List.{range_with_len as places}
use Rattle.std.proofs.lemmas.List.FromFn.{length-range_with_len}
use Rattle.calls_core.specs.declared.history.TheConstants.{WORKERS}

pub places_more : (p n : ℕ) → places p (suc n) ≡ places p n ++ (p + n) ∷ []
places_more p zero = ap (λ k. k ∷ []) (let e : p ≡ p + 0 = omega arith in e)
places_more p (suc n) = ap (λ ps. p ∷ ps) (places_more (p + 1) n ∙ ap (λ k.
    places (p + 1) n ++ k ∷ []) (let e : p + 1 + n ≡ p + suc n = omega arith in e))

pub raised_more : (p i : ℕ) (old now : List ℕ) → p ≤ i → now ≡ old ++ places p (i - p)
    → now ++ i ∷ [] ≡ old ++ places p (i + 1 - p)
raised_more p i old now le is =
    let last : p + (i - p) ≡ i = omega arith in
    let next : suc (i - p) ≡ i + 1 - p = omega arith in
    ap (λ ps. ps ++ i ∷ []) is ∙ append_assoc old (places p (i - p)) (i ∷ [])
    ∙ ap (λ ps. old ++ ps) (ap (λ k. places p (i - p) ++ k ∷ []) (sym last) ∙ sym
    (places_more p (i - p)) ∙ ap (places p) next)

pub raised_full : (p i q : ℕ) (old now : List ℕ) → p ≤ i → i < q → now ≡ old ++ places p (i - p)
    → length now ≡ WORKERS → (p < q → length old + (q - p) ≤ WORKERS) → ⊥
raised_full p i q old now le lt is full room =
    let few : length old + (q - p) ≤ WORKERS = room (omega arith) in
    omega (
      arith,
      few,
      ap length is,
      length-append old (places p (i - p)),
      length-range_with_len p (i - p),
    )
