-- Lists whose elements are related one by one.
use Rattle.std.proofs.Common.{◌≡◌, ◌≤◌, List, [], ◌∷◌, ◌++◌, length, refl, ap, sym, ◌∙◌, subst}
use Rattle.std.proofs.Common.{arith, append_assoc}
use Rattle.std.specs.List.Sorted.{IsPermutation}
use Rattle.std.proofs.lemmas.List.Sorted.{length_permutation, All-permutation}
use Rattle.std.proofs.lemmas.List.Sorted.{IsPermutation-refl, IsPermutation-cons}
use Rattle.std.proofs.lemmas.List.Sorted.{IsPermutation-trans, IsPermutation-append_left}
use Rattle.std.proofs.lemmas.List.Sorted.{IsPermutation-append_right, IsPermutation-append_comm}
use Rattle.calls_core.specs.Lists.{Each, EachPair}
use Rattle.calls_core.proofs.Lists.{all_from_each, each_right}
use Rattle.calls_core.proofs.Filters.{each_from_all, along_permutation, permutation_turn}
use Rattle.calls_core.proofs.Filters.{permutation_same}
use Rattle.calls_core.proofs.Drawing.{drawn}

-- S holds of each element of the first list and the one of the second list beside it
abbrev pub Both : {X Y : Type 0} → (X → Y → Type 0) → List X → List Y → Type 0
Both S [] [] = Unit {0}
Both S [] (y ∷ ys) = ⊥
Both S (x ∷ xs) [] = ⊥
Both S (x ∷ xs) (y ∷ ys) = S x y × Both S xs ys

pub both_append : {X Y : Type 0} (S : X → Y → Type 0) (xs us : List X) (ys vs : List Y)
    → Both S xs ys → Both S us vs → Both S (xs ++ us) (ys ++ vs)
both_append S [] us [] vs h k = k
both_append S [] us (y ∷ ys) vs h k = absurd h
both_append S (x ∷ xs) us [] vs h k = absurd h
both_append S (x ∷ xs) us (y ∷ ys) vs h k = (h.0, both_append S xs us ys vs h.1 k)

pub record Parted {X Y : Type 0} (S : X → Y → Type 0) (xs : List X) (ys zs : List Y)
    : Type 0 where
  pub front : List X
  pub back : List X
  pub is : xs ≡ front ++ back
  pub here : Both S front ys
  pub there : Both S back zs

pub both_parted : {X Y : Type 0} (S : X → Y → Type 0) (xs : List X) (ys zs : List Y)
    → Both S xs (ys ++ zs) → Parted S xs ys zs
both_parted S xs [] zs h = record { front = []; back = xs; is = refl; here = tt; there = h }
both_parted S [] (y ∷ ys) zs h = absurd h
both_parted S (x ∷ xs) (y ∷ ys) zs h =
    let r = both_parted S xs ys zs h.1 in
    record {
      front = x ∷ r.front;
      back = r.back;
      is = ap (λ us. x ∷ us) r.is;
      here = (h.0, r.here);
      there = r.there;
    }

-- what is beside elements that have P has Q
pub both_each : {X Y : Type 0} (S : X → Y → Type 0) (P : Y → Type 0) (Q : X → Type 0)
    → ((x : X) (y : Y) → S x y → P y → Q x) → (xs : List X) (ys : List Y) → Both S xs ys
    → Each P ys → Each Q xs
both_each S P Q f [] ys h k = tt
both_each S P Q f (x ∷ xs) [] h k = absurd h
both_each S P Q f (x ∷ xs) (y ∷ ys) h k = (f x y h.0 k.0, both_each S P Q f xs ys h.1 k.1)

-- IN ANOTHER ORDER

pub record Moved {X Y : Type 0} (S : X → Y → Type 0) (xs : List X) (ys : List Y) : Type 0 where
  pub list : List X
  pub moved : IsPermutation xs list
  pub both : Both S list ys

module _ {X Y : Type 0} (S : X → Y → Type 0) where
  abbrev Moves : List Y → List Y → Type 0
  Moves ys zs = (xs : List X) → Both S xs ys → Moved S xs zs

  same : (ys : List Y) → Moves ys ys
  same ys xs h = record { list = xs; moved = IsPermutation-refl xs; both = h }

  skip : (y : Y) (ys zs : List Y) → Moves ys zs → Moves (y ∷ ys) (y ∷ zs)
  skip y ys zs f [] h = absurd h
  skip y ys zs f (x ∷ xs) h =
      let r = f xs h.1 in
      record {
        list = x ∷ r.list;
        moved = IsPermutation-cons x xs r.list r.moved;
        both = (h.0, r.both);
      }

  turn : (y z : Y) (ys : List Y) → Moves (y ∷ z ∷ ys) (z ∷ y ∷ ys)
  turn y z ys [] h = absurd h
  turn y z ys (a ∷ []) h = absurd h.1
  turn y z ys (a ∷ b ∷ xs) h = record {
    list = b ∷ a ∷ xs;
    moved = permutation_turn a b xs;
    both = (h.1.0, (h.0, h.1.1));
  }

  chain : (us vs ws : List Y) → Moves us vs → Moves vs ws → Moves us ws
  chain us vs ws f g xs h =
      let r = f xs h in
      let s = g r.list r.both in
      record {
        list = s.list;
        moved = IsPermutation-trans xs r.list s.list r.moved s.moved;
        both = s.both;
      }

  -- if the second list changes its order, so may the first one
  pub both_moved : (ys zs : List Y) → IsPermutation ys zs → (xs : List X) → Both S xs ys
      → Moved S xs zs
  both_moved ys zs h = along_permutation Moves same skip turn chain ys zs h

-- LISTS OF LISTS

abbrev pub joined : {X : Type 0} → List (List X) → List X
joined [] = []
joined (x ∷ xs) = x ++ joined xs

pub joined_append : {X : Type 0} (xs ys : List (List X))
    → joined (xs ++ ys) ≡ joined xs ++ joined ys
joined_append [] ys = refl
joined_append (x ∷ xs) ys = ap (λ zs. x ++ zs) (joined_append xs ys)
    ∙ sym (append_assoc x (joined xs) (joined ys))

pub to_second : {X : Type 0} (xs ys zs : List X)
    → IsPermutation (xs ++ (ys ++ zs)) (ys ++ (xs ++ zs))
to_second xs ys zs = IsPermutation-trans _ _ _
    (permutation_same (xs ++ (ys ++ zs)) ((xs ++ ys) ++ zs) (sym (append_assoc xs ys zs)))
    (IsPermutation-trans _ _ _
    (IsPermutation-append_left zs (xs ++ ys) (ys ++ xs) (IsPermutation-append_comm xs ys))
    (permutation_same ((ys ++ xs) ++ zs) (ys ++ (xs ++ zs)) (append_assoc ys xs zs)))

pub joined_moved : {X : Type 0} (xs ys : List (List X)) → IsPermutation xs ys
    → IsPermutation (joined xs) (joined ys)
joined_moved {X} xs ys h =
    along_permutation (λ (us vs : List (List X)). IsPermutation (joined us) (joined vs))
    (λ us. IsPermutation-refl (joined us))
    (λ x us vs k. IsPermutation-append_right x (joined us) (joined vs) k)
    (λ x y us. to_second x y (joined us))
    (λ us vs ws k l. IsPermutation-trans (joined us) (joined vs) (joined ws) k l) xs ys h

-- ONE ORDER

-- at most one element
pub short_pairs : {X : Type 0} (R : X → X → Type 0) (xs : List X) → length xs ≤ 1 → EachPair R xs
short_pairs R [] le = tt
short_pairs R (x ∷ []) le = (tt, tt)
short_pairs R (x ∷ y ∷ xs) le = absurd (omega arith)

pub each_moved : {X : Type 0} (P : X → Type 0) (xs ys : List X) → IsPermutation xs ys → Each P xs
    → Each P ys
each_moved P xs ys moved h =
    each_from_all P ys (All-permutation P xs ys moved (all_from_each P xs h))

none_moved : {X : Type 0} (ys : List X) → IsPermutation [] ys → ys ≡ []
none_moved [] h = refl
none_moved (y ∷ ys) h = absurd (omega (arith, length_permutation [] (y ∷ ys) h))

-- ys has the elements of xs. If by R each one of ys is before the later ones, and none of xs is
-- before an earlier one, they are the same list
pub one_order : {X : Type 0} (R : X → X → Type 0) (xs ys : List X) → IsPermutation xs ys
    → EachPair (λ (a b : X). R b a → ⊥) xs → EachPair R ys → ys ≡ xs
one_order R [] ys h k r = none_moved ys h
one_order {X} R (x ∷ xs) ys h k r =
    let d = drawn x xs ys h in own (one_order R xs) d.prefix d.back d.is d.rest
  where
    own : ((zs : List X) → IsPermutation xs zs → EachPair (λ (a b : X). R b a → ⊥) xs
        → EachPair R zs → zs ≡ xs) → (u v : List X) → ys ≡ u ++ x ∷ v → IsPermutation xs (u ++ v)
        → ys ≡ x ∷ xs
    own rest [] v e p =
        let all : EachPair R (x ∷ v) = subst (EachPair R) e r in
        e ∙ ap (λ zs. x ∷ zs) (rest v p k.1 all.1)
    own rest (b ∷ u) v e p =
        let all : EachPair R (b ∷ (u ++ x ∷ v)) = subst (EachPair R) e r in
        let before : R b x = (each_right (R b) u (x ∷ v) all.0).0 in
        let later : Each (λ (c : X). R c x → ⊥) (b ∷ (u ++ v)) =
        each_moved (λ (c : X). R c x → ⊥) xs (b ∷ (u ++ v)) p k.0 in
        absurd (later.0 before)
