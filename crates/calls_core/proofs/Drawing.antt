-- An element removed from a list that is a permutation of another.
use Rattle.std.proofs.Common.{◌≡◌, ◌⊎◌, inl, inr, List, [], ◌∷◌, ◌++◌, refl, ap, sym, ◌∙◌, subst}
use Rattle.std.specs.List.Sorted.{IsPermutation}
use Rattle.std.proofs.lemmas.List.Sorted.{IsPermutation-refl, IsPermutation-cons}
use Rattle.std.proofs.lemmas.List.Sorted.{IsPermutation-trans}
use Rattle.calls_core.proofs.Filters.{along_permutation, permutation_turn}

-- ys has x, and without it the elements of xs
pub record Drawn {X : Type 0} (x : X) (xs ys : List X) : Type 0 where
  pub prefix : List X
  pub back : List X
  pub is : ys ≡ prefix ++ x ∷ back
  pub rest : IsPermutation xs (prefix ++ back)

module _ {X : Type 0} (x : X) where
  abbrev Draws : List X → List X → Type 0
  Draws ls bs = IsPermutation ls bs × ((u v : List X) → ls ≡ u ++ x ∷ v → Drawn x (u ++ v) bs)

  same : (ls : List X) → Draws ls ls
  same ls = (
    IsPermutation-refl ls,
    λ u v e. record {
      prefix = u;
      back = v;
      is = e;
      rest =
          IsPermutation-refl (u ++ v);
    },
  )

  skip_from : (a : X) (ls bs : List X) → Draws ls bs → (u v : List X) → a ∷ ls ≡ u ++ x ∷ v
      → Drawn x (u ++ v) (a ∷ bs)
  skip_from a ls bs h [] v e =
      (let head : a ≡ x = cc in
      let tail : ls ≡ v = cc in
      record {
        prefix = [];
        back = bs;
        is = ap (λ z. z ∷ bs) head;
        rest =
            subst (λ zs. IsPermutation zs bs) tail h.0;
      })
  skip_from a ls bs h (b ∷ u) v e =
      (let head : a ≡ b = cc in
      let tail : ls ≡ u ++ x ∷ v = cc in
      let r = h.1 u v tail in
      record {
        prefix = a ∷ r.prefix;
        back = r.back;
        is = ap (λ zs. a ∷ zs) r.is;
        rest =
            subst (λ z. IsPermutation (z ∷ (u ++ v)) (a ∷ (r.prefix ++ r.back))) head
            (IsPermutation-cons a _ _ r.rest);
      })

  turn_from : (a b : X) (ls : List X) (u v : List X) → a ∷ b ∷ ls ≡ u ++ x ∷ v
      → Drawn x (u ++ v) (b ∷ a ∷ ls)
  turn_from a b ls [] v e =
      (let head : a ≡ x = cc in
      let tail : b ∷ ls ≡ v = cc in
      record {
        prefix = b ∷ [];
        back = ls;
        is = ap (λ z. b ∷ z ∷ ls) head;
        rest =
            subst (λ zs. IsPermutation zs (b ∷ ls)) tail (IsPermutation-refl (b ∷ ls));
      })
  turn_from a b ls (c ∷ []) v e =
      (let first : a ≡ c = cc in
      let second : b ≡ x = cc in
      let tail : ls ≡ v = cc in
      record {
        prefix = [];
        back = a ∷ ls;
        is = ap (λ z. z ∷ a ∷ ls) second;
        rest =
            subst (λ z. IsPermutation (z ∷ v) (a ∷ ls)) first
            (subst (λ zs. IsPermutation (a ∷ zs) (a ∷ ls)) tail (IsPermutation-refl (a ∷ ls)));
      })
  turn_from a b ls (c ∷ d ∷ u) v e =
      (let first : a ≡ c = cc in
      let second : b ≡ d = cc in
      let tail : ls ≡ u ++ x ∷ v = cc in
      record {
        prefix = b ∷ a ∷ u;
        back = v;
        is = ap (λ zs. b ∷ a ∷ zs) tail;
        rest = subst (λ z. IsPermutation (z ∷ d ∷ (u ++ v)) (b ∷ a ∷ (u ++ v))) first
            (subst (λ z. IsPermutation (a ∷ z ∷ (u ++ v)) (b ∷ a ∷ (u ++ v))) second
            (permutation_turn a b (u ++ v)));
      })

  chain_from : (ls bs cs : List X) → Draws ls bs → Draws bs cs → (u v : List X) → ls ≡ u ++ x ∷ v
      → Drawn x (u ++ v) cs
  chain_from ls bs cs h k u v e =
      (let r = h.1 u v e in
      let s = k.1 r.prefix r.back r.is in
      record {
        prefix = s.prefix;
        back = s.back;
        is = s.is;
        rest =
            IsPermutation-trans _ _ _ r.rest s.rest;
      })

  pub drawn : (xs ys : List X) → IsPermutation (x ∷ xs) ys → Drawn x xs ys
  drawn xs ys h =
      (along_permutation Draws same (λ a ls bs k. (
        IsPermutation-cons a ls bs k.0,
        skip_from a ls bs
            k,
      ))
      (λ a b ls. (permutation_turn a b ls, turn_from a b ls))
      (λ ls bs cs k l. (IsPermutation-trans ls bs cs k.0 l.0, chain_from ls bs cs k l))
      (x ∷ xs) ys h).1 [] xs refl

-- x is in the first of two lists, or in the second
pub record InFirst {X : Type 0} (u : List X) (x : X) (v xs ys : List X) : Type 0 where
  pub between : List X
  pub first : xs ≡ u ++ x ∷ between
  pub rest : v ≡ between ++ ys

pub record InSecond {X : Type 0} (u : List X) (x : X) (v xs ys : List X) : Type 0 where
  pub between : List X
  pub second : ys ≡ between ++ x ∷ v
  pub rest : u ≡ xs ++ between

pub in_one : {X : Type 0} (xs ys u : List X) (x : X) (v : List X) → xs ++ ys ≡ u ++ x ∷ v
    → InFirst u x v xs ys ⊎ InSecond u x v xs ys
in_one [] ys u x v e = inr (record { between = u; second = e; rest = refl })
in_one (a ∷ xs) ys [] x v e =
    (let head : a ≡ x = cc in
    let tail : xs ++ ys ≡ v = cc in
    inl (record { between = xs; first = ap (λ z. z ∷ xs) head; rest = sym tail }))
in_one {X} (a ∷ xs) ys (b ∷ u) x v e =
    (let head : a ≡ b = cc in
    let tail : xs ++ ys ≡ u ++ x ∷ v = cc in
    more head (in_one xs ys u x v tail))
  where
    more : a ≡ b → InFirst u x v xs ys ⊎ InSecond u x v xs ys → InFirst (b ∷ u) x v (a ∷ xs) ys
        ⊎ InSecond (b ∷ u) x v (a ∷ xs) ys
    more head (inl r) = inl (record {
      between = r.between;
      first =
          ap (λ zs. a ∷ zs) r.first ∙ ap (λ z. z ∷ (u ++ x ∷ r.between)) head;
      rest = r.rest;
    })
    more head (inr r) = inr (record {
      between = r.between;
      second = r.second;
      rest =
          ap (λ zs. b ∷ zs) r.rest ∙ ap (λ z. z ∷ (xs ++ r.between)) (sym head);
    })
