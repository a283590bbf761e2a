-- Searches in lists.
use Rattle.std.proofs.Common.{zero, suc, ◌⊎◌, inl, inr, List, [], ◌∷◌, refl}
use Rattle.std.proofs.Common.{arith}
use Rattle.std.specs.List.{Contains}
use Rattle.std.proofs.lemmas.List.Elements.{All-contains}
use Rattle.calls_core.specs.Lists.{Each}
use Rattle.calls_core.proofs.Lists.{all_from_each}

contains_later : {X : Type 0} (y : X) (xs : List X) (x : X) → Contains xs x → Contains (y ∷ xs) x
contains_later y xs x (k, lt, e) = (suc k, omega arith, e)

contains_first : {X : Type 0} (x : X) (xs : List X) → Contains (x ∷ xs) x
contains_first x xs = (zero, omega arith, refl)

pub each_at : {X : Type 0} (P : X → Type 0) (xs : List X) (x : X) → Each P xs → Contains xs x → P x
each_at P xs x h k = All-contains P xs x (all_from_each P xs h) k

pub each_or_one : {X : Type 0} (P Q : X → Type 0) (xs : List X)
    → ((x : X) → Contains xs x → P x ⊎ Q x) → Each P xs ⊎ ((x : X) × Contains xs x × Q x)
each_or_one P Q [] f = inl tt
each_or_one P Q (x ∷ xs) f = elim (f x (contains_first x xs)) [
  | inr q ↦ inr (x, contains_first x xs, q)
  | inl p ↦ elim (each_or_one P Q xs (λ y k. f y (contains_later x xs y k))) [
    | inr r ↦ inr (r.0, contains_later x xs r.0 r.1, r.2)
    | inl rest ↦ inl (p, rest)
  ]
]
