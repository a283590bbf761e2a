-- A permutation of a mapped list is the map of a permutation.
use Rattle.std.proofs.Common.{◌≡◌, ℕ, zero, suc, List, [], ◌∷◌, length, map, set, get_or, swap}
use Rattle.std.proofs.Common.{refl, ap, ◌∙◌, arith}
use Rattle.std.specs.List.Sorted.{IsPermutation}
use Rattle.std.proofs.lemmas.List.{map-set, length-map}
use Rattle.std.proofs.lemmas.List.Sorted.{IsPermutation-refl, IsPermutation-trans}
use Rattle.std.proofs.lemmas.List.Sorted.{IsPermutation-swap, IsPermutation-keeps}

pub get_map : {X Y : Type 0} (f : X → Y) (xs : List X) (i : ℕ) (d : X)
    → f (get_or xs i d) ≡ get_or (map f xs) i (f d)
get_map f [] i d = refl
get_map f (x ∷ xs) zero d = refl
get_map f (x ∷ xs) (suc i) d = get_map f xs i d

map_swap : {X Y : Type 0} (f : X → Y) (xs : List X) (i j : ℕ)
    → map f (swap xs i j) ≡ swap (map f xs) i j
map_swap f [] i j = refl
map_swap f (d ∷ xs) i j =
    let l = d ∷ xs in
    map-set f (set l i (get_or l j d)) j (get_or l i d)
    ∙ ap (λ ys. set ys j (f (get_or l i d))) (map-set f l i (get_or l j d))
    ∙ ap (λ y. set (set (map f l) i y) j (f (get_or l i d))) (get_map f l j d)
    ∙ ap (λ y. set (set (map f l) i (get_or (map f l) j (f d))) j y) (get_map f l i d)

-- a permutation of xs whose map is ys
pub record Follows {X Y : Type 0} (f : X → Y) (xs : List X) (ys : List Y) : Type 0 where
  pub moved : List X
  pub moves : IsPermutation xs moved
  pub is : map f moved ≡ ys

pub follows : {X Y : Type 0} (f : X → Y) (xs : List X) (ys : List Y) → IsPermutation (map f xs) ys
    → Follows f xs ys
follows f xs = IsPermutation-keeps (map f xs) (Follows f xs)
    (record { moved = xs; moves = IsPermutation-refl xs; is = refl })
    (λ l i j p q h.
    (let long = ap length h.is in
    let wide = length-map h.moved f in
    record {
      moved = swap h.moved i j;
      moves = IsPermutation-trans xs h.moved (swap h.moved i j) h.moves
          (IsPermutation-swap h.moved (swap h.moved i j) i j (omega arith) (omega arith) refl);
      is = map_swap f h.moved i j ∙ ap (λ ys. swap ys i j) h.is;
    }))
