-- The table of positions, as workers are added and replaced.
use Rattle.std.proofs.Common.{◌≡◌, ◌≢◌, ℕ, zero, suc, ◌+◌, ◌<◌, ◌≤◌, true, false, Bool, ◌||◌, List, [], ◌∷◌, ◌++◌, length, Option, Some, None, is_some, take, refl, ap, sym, ◌∙◌, arith, cond, subst, slice_get, slice_set, ◌==◌}
use Rattle.std.specs.List.{position_from}
use Rattle.std.proofs.lemmas.Bool.{eqb-true, eqb-false, or_parts, or_from}
use Rattle.std.proofs.lemmas.Option.{slice_get_within, get_or_from_slice_get}
use Rattle.std.proofs.Math.Nat.{zero-add}
use Rattle.std.proofs.Math.ListN.{get_or, length-set}
use Rattle.ec_count.specs.Members.{is_member, has_repeat, index_of, replace_unless_member, HasPlaces, AreMembers}
use Rattle.ec_count.proofs.shared.Declared.{member_at}
use Rattle.ec_count.proofs.shared.Distinct.{eq_sym, set_distinct}

get_same : {X : Type 0} (xs : List X) (i : ℕ) (y : X) → i < length xs → slice_get (slice_set xs i y) i ≡ Some y
get_same [] i y h = absurd (omega arith)
get_same (x ∷ xs) zero y h = refl
get_same (x ∷ xs) (suc i) y h = get_same xs i y (omega arith)

get_other : {X : Type 0} (xs : List X) (i j : ℕ) (y : X) → i ≢ j → slice_get (slice_set xs i y) j ≡ slice_get xs j
get_other [] i j y h = refl
get_other (x ∷ xs) zero zero y h = absurd (h refl)
get_other (x ∷ xs) zero (suc j) y h = refl
get_other (x ∷ xs) (suc i) zero y h = refl
get_other (x ∷ xs) (suc i) (suc j) y h = get_other xs i j y (λ e. h (ap suc e))

-- the element at a position of a list after one element was written
pub get_set : {X : Type 0} (xs : List X) (i j : ℕ) (y : X) → i < length xs → slice_get (slice_set xs i y) j ≡ cond (i == j) (Some y) (slice_get xs j)
get_set xs i j y h =
    elim (i == j) as (λ b. (i == j) ≡ b → slice_get (slice_set xs i y) j ≡ cond b (Some y) (slice_get xs j)) [
      | true ↦ λ e. (let same : i ≡ j = eqb-true i j e in ap (λ k. slice_get (slice_set xs i y) k) (sym same) ∙ get_same xs i y h)
      | false ↦ λ e. get_other xs i j y (eqb-false i j e)
    ] refl

-- a member is a worker that has a position
pub has_place : (w low : ℕ) (ws : List ℕ) → is_some (position_from (λ v. v == w) low ws) ≡ is_member w ws
has_place w low [] = refl
has_place w low (x ∷ xs) =
    elim (x == w) as (λ b. is_some (cond b (Some low) (position_from (λ v. v == w) (low + 1) xs)) ≡ (b || is_member w xs)) [
      | true ↦ refl
      | false ↦ has_place w (low + 1) xs
    ]

none_from : (o : Option ℕ) → is_some o ≡ false → o ≡ None
none_from None h = refl
none_from (Some c) h = cc

-- who is not a member has no position
no_place : (w : ℕ) (ws : List ℕ) (low : ℕ) → is_member w ws ≡ false → position_from (λ v. v == w) low ws ≡ None
no_place w ws low h = none_from (position_from (λ v. v == w) low ws) (has_place w low ws ∙ h)

-- ONE MORE AT THE END

-- who is at a position is not at an earlier one
fresh_at : (ws : List ℕ) (i a : ℕ) → has_repeat ws ≡ false → slice_get ws i ≡ Some a → is_member a (take i ws) ≡ false
fresh_at [] i a h at = cc
fresh_at (x ∷ xs) zero a h at = refl
fresh_at (x ∷ xs) (suc i) a h at =
    let d = or_parts (is_member x xs) (has_repeat xs) h in
    or_from (x == a) (is_member a (take i xs)) (member_at x xs i a d.0 at) (fresh_at xs i a d.1 at)

place_added : (w a low : ℕ) (ws : List ℕ) → is_member a ws ≡ false
    → position_from (λ v. v == w) low (ws ++ a ∷ []) ≡ cond (a == w) (Some (low + length ws)) (position_from (λ v. v == w) low ws)
place_added w a low [] new = (let here : low ≡ low + 0 = omega arith in ap (λ i. cond (a == w) (Some i) None) here)
place_added w a low (x ∷ xs) new =
    let n = or_parts (x == a) (is_member a xs) new in
    let next : low + 1 + length xs ≡ low + suc (length xs) = omega arith in
    elim (x == w) as (λ b. (x == w) ≡ b → cond b (Some low) (position_from (λ v. v == w) (low + 1) (xs ++ a ∷ []))
    ≡ cond (a == w) (Some (low + suc (length xs))) (cond b (Some low) (position_from (λ v. v == w) (low + 1) xs))) [
      | true ↦ λ e. (let other : (a == w) ≡ false = eq_sym w a (ap (λ v. v == a) (sym (eqb-true x w e)) ∙ n.0) in rw other refl)
      | false ↦ λ e. place_added w a (low + 1) xs n.1 ∙ ap (λ i. cond (a == w) (Some i) (position_from (λ v. v == w) (low + 1) xs)) next
    ] refl

some_apart : (s : Bool) (x : Option ℕ) (o : Option ℕ) → cond s (Some x) (Some o) ≡ Some (cond s x o)
some_apart true x o = refl
some_apart false x o = refl

-- one more worker at the end, and its position in the table
pub added : (ws : List ℕ) (places : List (Option ℕ)) (i a : ℕ) → has_repeat ws ≡ false → slice_get ws i ≡ Some a → length (take i ws) ≡ i → a < 16
    → HasPlaces (take i ws) places → HasPlaces (take i ws ++ a ∷ []) (slice_set places a (Some i))
added ws places i a different at long small before = λ w lt.
    (get_set places a w (Some i) (slice_get_within places a (index_of a (take i ws)) (before a small))
    ∙ ap (cond (a == w) (Some (Some i))) (before w lt)
    ∙ some_apart (a == w) (Some i) (index_of w (take i ws))
    ∙ ap (λ k. Some (cond (a == w) (Some k) (index_of w (take i ws)))) (sym (zero-add (length (take i ws)) ∙ long))
    ∙ ap Some (sym (place_added w a 0 (take i ws) (fresh_at ws i a different at))))

-- ONE IN THE PLACE OF ANOTHER

-- a position counted from low is at least low
place_from : (w : ℕ) (ws : List ℕ) (low c : ℕ) → position_from (λ v. v == w) low ws ≡ Some c → low ≤ c
place_from w [] low c h = cc
place_from w (v ∷ ws) low c h =
    elim (v == w) as (λ b. cond b (Some low) (position_from (λ u. u == w) (low + 1) ws) ≡ Some c → low ≤ c) [
      | true ↦ λ e. (let k : low ≡ c = cc in omega arith)
      | false ↦ λ e. (let k : low + 1 ≤ c = place_from w ws (low + 1) c e in omega arith)
    ] h

-- the place of w once b replaces a, and was nowhere before
abbrev moved : ℕ → ℕ → ℕ → ℕ → Option ℕ → Option ℕ
moved w a b c o = cond (b == w) (Some c) (cond (a == w) None o)

place_set_first : (w a b x low : ℕ) (xs : List ℕ) → x ≡ a → is_member x xs ≡ false
    → cond (b == w) (Some low) (position_from (λ v. v == w) (low + 1) xs)
    ≡ moved w a b (low + 0) (cond (x == w) (Some low) (position_from (λ v. v == w) (low + 1) xs))
place_set_first w a b x low xs is none =
    let rest : Option ℕ = position_from (λ v. v == w) (low + 1) xs in
    let here : low + 0 ≡ low = omega arith in
    elim (b == w) as (λ k. cond k (Some low) rest ≡ cond k (Some (low + 0)) (cond (a == w) None (cond (x == w) (Some low) rest))) [
      | true ↦ ap Some (sym here)
      | false ↦
          (elim (x == w) as (λ k. (x == w) ≡ k → rest ≡ cond (a == w) None (cond k (Some low) rest)) [
            | true ↦ λ e.
                (let same : x ≡ w = eqb-true x w e in
                no_place w xs (low + 1) (ap (λ v. is_member v xs) (sym same) ∙ none) ∙ ap (λ k. cond k None (Some low)) (sym (ap (λ v. v == w) (sym is) ∙ e)))
            | false ↦ λ e. ap (λ k. cond k None rest) (sym (ap (λ v. v == w) (sym is) ∙ e))
          ] refl)
    ]

place_set : (w a b : ℕ) (ws : List ℕ) (low c : ℕ) → position_from (λ v. v == a) low ws ≡ Some (low + c) → has_repeat ws ≡ false → is_member b ws ≡ false
    → position_from (λ v. v == w) low (slice_set ws c b) ≡ moved w a b (low + c) (position_from (λ v. v == w) low ws)
place_set w a b [] low c at different new = cc
place_set w a b (x ∷ xs) low zero at different new =
    let d = or_parts (is_member x xs) (has_repeat xs) different in
    elim (x == a) as (λ k. (x == a) ≡ k → cond k (Some low) (position_from (λ v. v == a) (low + 1) xs) ≡ Some (low + 0)
    → cond (b == w) (Some low) (position_from (λ v. v == w) (low + 1) xs) ≡ moved w a b (low + 0) (cond (x == w) (Some low) (position_from (λ v. v == w) (low + 1) xs))) [
      | true ↦ λ e at. place_set_first w a b x low xs (eqb-true x a e) d.0
      | false ↦ λ e at. (let late : low + 1 ≤ low + 0 = place_from a xs (low + 1) (low + 0) at in absurd (omega arith))
    ] refl at
place_set w a b (x ∷ xs) low (suc c) at different new =
    let d = or_parts (is_member x xs) (has_repeat xs) different in
    let n = or_parts (x == b) (is_member b xs) new in
    let next : low + suc c ≡ low + 1 + c = omega arith in
    elim (x == a) as (λ k. (x == a) ≡ k → cond k (Some low) (position_from (λ v. v == a) (low + 1) xs) ≡ Some (low + suc c)
    → cond (x == w) (Some low) (position_from (λ v. v == w) (low + 1) (slice_set xs c b))
    ≡ moved w a b (low + suc c) (cond (x == w) (Some low) (position_from (λ v. v == w) (low + 1) xs))) [
      | true ↦ λ e at. (let first : low ≡ low + suc c = cc in absurd (omega arith))
      | false ↦ λ e at.
          (elim (x == w) as (λ k. (x == w) ≡ k → cond k (Some low) (position_from (λ v. v == w) (low + 1) (slice_set xs c b))
          ≡ moved w a b (low + suc c) (cond k (Some low) (position_from (λ v. v == w) (low + 1) xs))) [
            | true ↦ λ f.
                (let same : x ≡ w = eqb-true x w f in
                let not_b : (b == w) ≡ false = eq_sym w b (ap (λ v. v == b) (sym same) ∙ n.0) in
                let not_a : (a == w) ≡ false = eq_sym w a (ap (λ v. v == a) (sym same) ∙ e) in
                rw (not_b, not_a) refl)
            | false ↦ λ f.
                place_set w a b xs (low + 1) c (at ∙ ap Some next) d.1 n.1 ∙ ap (λ i. moved w a b i (position_from (λ v. v == w) (low + 1) xs)) (sym next)
          ] refl)
    ] refl at

place_set_at : (w a b c : ℕ) (ws : List ℕ) → index_of a ws ≡ Some c → has_repeat ws ≡ false → is_member b ws ≡ false
    → index_of w (slice_set ws c b) ≡ moved w a b c (index_of w ws)
place_set_at w a b c ws at different new =
    place_set w a b ws 0 c (at ∙ ap Some (sym (zero-add c))) different new ∙ ap (λ i. moved w a b i (index_of w ws)) (zero-add c)

kept_apart : (s t : Bool) (x : Option ℕ) (o : Option ℕ) → cond s (Some x) (cond t (Some None) (Some o)) ≡ Some (cond s x (cond t None o))
kept_apart true t x o = refl
kept_apart false true x o = refl
kept_apart false false x o = refl

-- one worker replaces another, in the list and in the table
pub replaced : (ws : List ℕ) (places : List (Option ℕ)) (a b c : ℕ) → AreMembers ws places → a < 16 → b < 16 → index_of a ws ≡ Some c → is_member b ws ≡ false
    → AreMembers (slice_set ws c b) (slice_set (slice_set places a None) b (Some c))
replaced ws places a b c s small_a small_b is new = record {
  different = set_distinct ws c b new s.different;
  few = omega (arith, length-set ws c b, s.few);
  at = λ w lt.
      (let within_a : a < length places = slice_get_within places a (index_of a ws) (s.at a small_a) in
      let within_b : b < length places = slice_get_within places b (index_of b ws) (s.at b small_b) in
      get_set (slice_set places a None) b w (Some c) (omega (arith, length-set places a None, within_b))
      ∙ ap (cond (b == w) (Some (Some c))) (get_set places a w None within_a ∙ ap (cond (a == w) (Some None)) (s.at w lt))
      ∙ kept_apart (b == w) (a == w) (Some c) (index_of w ws)
      ∙ ap Some (sym (place_set_at w a b c ws is s.different new)));
}

-- a position is within the list
pub place_within : (w : ℕ) (ws : List ℕ) (low c : ℕ) → position_from (λ v. v == w) low ws ≡ Some c → c < low + length ws
place_within w [] low c h = cc
place_within w (v ∷ ws) low c h =
    elim (v == w) as (λ b. cond b (Some low) (position_from (λ u. u == w) (low + 1) ws) ≡ Some c → c < low + suc (length ws)) [
      | true ↦ λ e. (let k : low ≡ c = cc in omega arith)
      | false ↦ λ e. (let k : c < low + 1 + length ws = place_within w ws (low + 1) c e in omega arith)
    ] h

-- what the table has for a worker is its position
pub place_is : (ws : List ℕ) (places : List (Option ℕ)) (w i : ℕ) → AreMembers ws places → i < 16 → i ≡ w → get_or places i None ≡ index_of w ws
place_is ws places w i s small is = get_or_from_slice_get places i (index_of i ws) None (s.at i small) ∙ ap (λ v. index_of v ws) is

some_or_none : (o : Option ℕ) → ((c : ℕ) → o ≡ Some c → ⊥) → o ≡ None
some_or_none None h = refl
some_or_none (Some c) h = absurd (h c refl)

-- so who has no place in it has no position
pub none_is : (ws : List ℕ) (places : List (Option ℕ)) (w i : ℕ) → AreMembers ws places → i < 16 → i ≡ w
    → ((c : ℕ) → get_or places i None ≡ Some c → ⊥) → index_of w ws ≡ None
none_is ws places w i s small is none = sym (place_is ws places w i s small is) ∙ some_or_none (get_or places i None) none

-- nobody replaces a worker that is no member
pub nobody_replaced : (b : ℕ) (ws : List ℕ) (o : Option ℕ) → o ≡ None → ws ≡ replace_unless_member o b ws
nobody_replaced b ws o none =
    subst (λ p. ws ≡ replace_unless_member p b ws) (sym none) (elim (is_member b ws) as (λ m. ws ≡ cond m ws ws) [ true ↦ refl | false ↦ refl ])

-- who is no member replaces the worker at a position
pub one_replaced : (b c : ℕ) (ws : List ℕ) (o : Option ℕ) → is_member b ws ≡ false → o ≡ Some c → slice_set ws c b ≡ replace_unless_member o b ws
one_replaced b c ws o new is =
    subst (λ p. slice_set ws c b ≡ replace_unless_member p b ws) (sym is) (ap (λ m. cond m ws (slice_set ws c b)) (sym new))
