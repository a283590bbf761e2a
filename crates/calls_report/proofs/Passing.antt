-- One more element of a list that is passed over by its indices.
use Rattle.std.proofs.Common.{◌≡◌, ℕ, ◌+◌, ◌<◌, List, [], ◌∷◌, ◌++◌, length, get_or, take, reverse}
use Rattle.std.proofs.Common.{ap, sym, ◌∙◌}
use Rattle.std.proofs.lemmas.List.{take_more, reverse-append}

pub take_read : {X : Type 0} (xs : List X) (i : ℕ) (x : X) → i < length xs → x ≡ get_or xs i x
    → take (i + 1) xs ≡ take i xs ++ x ∷ []
take_read xs i x lt read = take_more xs i x lt ∙ ap (λ y. take i xs ++ y ∷ []) (sym read)

pub past_read : {X : Type 0} (xs : List X) (i : ℕ) (x : X) → i < length xs → x ≡ get_or xs i x
    → reverse (take (i + 1) xs) ≡ x ∷ reverse (take i xs)
past_read xs i x lt read = ap reverse (take_read xs i x lt read) ∙ reverse-append (take i xs) (x ∷ [])
