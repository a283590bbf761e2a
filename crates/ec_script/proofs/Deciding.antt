-- Tests of lists, of numbers and of what may be missing, and what they decide.
use Rattle.std.proofs.Common.{◌≡◌, ◌≢◌, ℕ, ◌<◌, ◌==◌, ◌||◌, List, [], ◌∷◌, ◌++◌, Bool, true, false, not, Option, Some, None, option_map, is_some, is_none, refl, sym, ap, ◌∙◌, subst, decimal, bytes_eq}
use Rattle.std.specs.Bool.{Decides}
use Rattle.std.specs.List.{Any, Contains, list_any}
use Rattle.std.specs.Option.{option_map_or}
use Rattle.std.proofs.lemmas.Bool.{true≢false, or_left, or_right, false_from_ne_true}
use Rattle.std.proofs.lemmas.Bool.Decides.{Decides-like, Decides-by_or, Decides-eqb}
use Rattle.std.proofs.lemmas.List.Elements.{Decides-contains}
use Rattle.std.proofs.lemmas.List.Folds.{Any-from_list_any, list_any-from_Any}
use Rattle.std.proofs.lemmas.Option.{same_Some}
use Rattle.std.proofs.lemmas.Slice.Eq.{bytes_eq-Decides}
use Rattle.ec_count.specs.Members.{is_member, has_repeat}
use Rattle.ec_text.specs.Words.{number_in_word}
use Rattle.ec_text.proofs.shared.NumberLemmas.{number_again, number_takes}
use Rattle.ec_heading.specs.Lists.{has_word_twice}
use Rattle.ec_script.specs.declared.script.OpenBlock.{OpenBlock}
use Rattle.ec_script.specs.declared.kinds.BlockContext.{BlockContext}
use Rattle.ec_script.specs.Holding.{OccursTwice}
use Rattle.ec_script.specs.Reading.{view_of_block}

-- SMALL TESTS

pub never : {T : Type 0} → (T → ⊥) → Decides false T
never off = ((λ e. absurd (true≢false (sym e))), λ t. absurd (off t))

pub decides_none : {A : Type 0} (o : Option A) → Decides (is_none o) (o ≡ None)
decides_none None = (λ e. refl, λ e. refl)
decides_none (Some x) = ((λ e. cc), λ e. cc)

pub decides_some : {A : Type 0} (o : Option A) → Decides (is_some o) (o ≢ None)
decides_some None = ((λ e. cc), λ n. absurd (n refl))
decides_some (Some x) = ((λ e k. cc), λ n. refl)

pub decides_not : (b : Bool) → Decides (not b) (b ≡ false)
decides_not true = ((λ e. cc), λ e. cc)
decides_not false = (λ e. refl, λ e. refl)

pub decides_itself : (b : Bool) → Decides b (b ≡ true)
decides_itself b = (λ e. e, λ e. e)

-- ELEMENTS

pub decides_any : {A : Type 0} (p : A → Bool) (P : A → Type 0) → ((x : A) → Decides (p x) (P x)) → (xs : List A) → Decides (list_any p xs) (Any P xs)
decides_any p P each xs = (
  (λ e. (let a = Any-from_list_any p xs e in (a.0, a.1, a.2, a.3, (each a.1).0 a.4))),
  λ a. list_any-from_Any p xs (a.0, a.1, a.2, a.3, (each a.1).1 a.4),
)

pub decides_member : (w : ℕ) (ws : List ℕ) → Decides (is_member w ws) (Contains ws w)
decides_member w ws = Decides-contains ws w (is_member w ws) (Decides-by_or (λ v. v == w) (λ v. v ≡ w) (is_member w) (λ v. Decides-eqb v w) refl (λ v vs. refl) ws)

-- AN ELEMENT OCCURS TWICE

-- an element of this kind, and the elements around it
record IsThere {A : Type 0} (p : A → Bool) (xs : List A) : Type 0 where
  prefix : List A
  one : A
  rest : List A
  are : xs ≡ prefix ++ one ∷ rest
  holds : p one ≡ true

there : {A : Type 0} (p : A → Bool) (xs : List A) → list_any p xs ≡ true → IsThere p xs
there p [] is = cc
there p (x ∷ xs) is =
    (elim (p x) as (λ b. p x ≡ b → (b || list_any p xs) ≡ true → IsThere p (x ∷ xs)) [
      | true ↦ λ e h. record { prefix = []; one = x; rest = xs; are = refl; holds = e }
      | false ↦ λ e h. (let t : IsThere p xs = there p xs h in record { prefix = x ∷ t.prefix; one = t.one; rest = t.rest; are = ap (λ ys. x ∷ ys) t.are; holds = t.holds })
    ]) refl is

any_there : {A : Type 0} (p : A → Bool) (prefix : List A) (x : A) (rest : List A) → p x ≡ true → list_any p (prefix ++ x ∷ rest) ≡ true
any_there p [] x rest holds = or_left (p x) (list_any p rest) holds
any_there p (y ∷ prefix) x rest holds = or_right (p y) (list_any p (prefix ++ x ∷ rest)) (any_there p prefix x rest holds)

twice_here : {A : Type 0} (w : A) (ws : List A) (p : A → Bool) → ((x : A) → p x ≡ true → w ≡ x) → list_any p ws ≡ true → OccursTwice (w ∷ ws)
twice_here w ws p same is = (let t : IsThere p ws = there p ws is in (w, [], t.prefix, t.rest, ap (λ ys. w ∷ ys) (t.are ∙ ap (λ x. t.prefix ++ x ∷ t.rest) (sym (same t.one t.holds)))))

twice_later : {A : Type 0} (w : A) (ws : List A) → OccursTwice ws → OccursTwice (w ∷ ws)
twice_later w ws t = (t.0, w ∷ t.1, t.2, t.3, ap (λ ys. w ∷ ys) t.4)

-- f is a test of it by recursion, and p w the test whether an element is w
module _ {A : Type 0} (p : A → A → Bool) (f : List A → Bool) (same : (w x : A) → Decides (p w x) (w ≡ x)) (none : f [] ≡ false) (more : (w : A) (ws : List A) → f (w ∷ ws) ≡ (list_any (p w) ws || f ws)) where
  is_twice : (ws : List A) → f ws ≡ true → OccursTwice ws
  is_twice [] is = absurd (true≢false (sym is ∙ none))
  is_twice (w ∷ ws) is =
      (elim (list_any (p w) ws) as (λ b. list_any (p w) ws ≡ b → (b || f ws) ≡ true → OccursTwice (w ∷ ws)) [
        | true ↦ λ e h. twice_here w ws (p w) (λ x. (same w x).0) e
        | false ↦ λ e h. twice_later w ws (is_twice ws h)
      ]) refl (sym (more w ws) ∙ is)

  twice_is : (x : A) (prefix between rest : List A) → f (prefix ++ x ∷ (between ++ x ∷ rest)) ≡ true
  twice_is x [] between rest = more x (between ++ x ∷ rest) ∙ or_left _ _ (any_there (p x) between x rest ((same x x).1 refl))
  twice_is x (y ∷ prefix) between rest = more y (prefix ++ x ∷ (between ++ x ∷ rest)) ∙ or_right _ _ (twice_is x prefix between rest)

  decides_twice : (ws : List A) → Decides (f ws) (OccursTwice ws)
  decides_twice ws = (is_twice ws, λ t. ap f t.4 ∙ twice_is t.0 t.1 t.2 t.3)

pub decides_repeat : (ws : List ℕ) → Decides (has_repeat ws) (OccursTwice ws)
decides_repeat = decides_twice (λ w v. v == w) has_repeat (λ w x. Decides-like (x == w) sym sym (Decides-eqb x w)) refl (λ w ws. refl)

pub decides_word_twice : (ws : List (List ℕ)) → Decides (has_word_twice ws) (OccursTwice ws)
decides_word_twice = decides_twice (λ w v. bytes_eq w v) has_word_twice (λ w x. bytes_eq-Decides w x) refl (λ w ws. refl)

-- NUMBERS

-- these digits are the decimal encoding of no number that passes
pub decides_number : (p : ℕ → Bool) → ((n : ℕ) → p n ≡ true → n < 1000000000000000000) → (w : List ℕ) → Decides (not (option_map_or p (number_in_word w) false)) ((n : ℕ) → p n ≡ true → w ≢ decimal n)
decides_number p few w = (
  (λ off n on is.
      true≢false (sym on ∙ ap (λ o. option_map_or p o false) (sym (ap number_in_word is ∙ number_again n (few n on))) ∙ (decides_not (option_map_or p (number_in_word w) false)).0 off)),
  λ none. (decides_not (option_map_or p (number_in_word w) false)).1 (false_from_ne_true _ (λ on.
      (elim (number_in_word w) as (λ o. number_in_word w ≡ o → option_map_or p o false ≡ true → ⊥) [
        | None ↦ λ e h. cc
        | Some n ↦ λ e h. none n h (number_takes w n e).0
      ]) refl on)),
)

-- WHAT MAY BE MISSING

-- a block is open, of which the test decides
pub decides_block : (o : Option OpenBlock) (t : Option BlockContext → Bool) (T : OpenBlock → Type 0) → t None ≡ false → ((b : OpenBlock) → Decides (t (Some (view_of_block b))) (T b))
    → Decides (t (option_map view_of_block o)) ((b : OpenBlock) × (o ≡ Some b) × T b)
decides_block None t T none each = ((λ e. absurd (true≢false (sym e ∙ none))), λ h. (let k : None ≡ Some h.0 = h.1 in cc))
decides_block (Some b) t T none each = ((λ e. (b, refl, (each b).0 e)), λ h. (each b).1 (subst T (sym (same_Some b h.0 h.1)) h.2))
