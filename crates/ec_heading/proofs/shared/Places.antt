-- Elements of lists, by index.
use Rattle.std.proofs.Common.{◌≡◌, ℕ, ◌+◌, ◌-◌, ◌<◌, List, [], ◌∷◌, length, drop, Some, None, slice_get, ap, ◌∙◌, sym, arith}
use Rattle.std.proofs.lemmas.List.{drop_more}
use Rattle.std.proofs.lemmas.Option.{slice_get_within, get_or_from_slice_get, slice_get-get_or}

-- the element before an index is the first of the list that begins there
pub drop_before : {X : Type 0} (xs : List X) (p : ℕ) (x : X) → 0 < p → Some x ≡ slice_get xs (p - 1) → drop (p - 1) xs ≡ x ∷ drop p xs
drop_before {X} xs p x pos at =
    let e : p - 1 + 1 ≡ p = omega arith in
    drop_more xs (p - 1) x (slice_get_within xs (p - 1) x (sym at))
    ∙ ap (λ (y : X). y ∷ drop (p - 1 + 1) xs) (get_or_from_slice_get xs (p - 1) x x (sym at))
    ∙ ap (λ (k : ℕ). x ∷ drop k xs) e

-- an index within a list has an element
pub none_inside : {X : Type 0} (xs : List X) (i : ℕ) → i < length xs → None ≡ slice_get xs i → ⊥
none_inside [] i lt at = omega arith
none_inside (x ∷ xs) i lt at = let e = slice_get-get_or (x ∷ xs) i x lt in cc
