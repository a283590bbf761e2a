-- Lists whose elements correspond: one that is built from first to last, and one that is read so.
use Rattle.std.proofs.Common.{◌≡◌, ℕ, suc, zero-add, add-zero, ◌+◌, ◌<◌, ◌≤◌, List, [], ◌∷◌, ◌++◌, length, Some, ap, sym, ◌∙◌, subst, arith, slice_get, below_more, length-append}
use Rattle.std.proofs.lemmas.Option.{slice_get_within}
use Rattle.ec_count.proofs.shared.Keeping.{still_there}
use Rattle.ec_core.proofs.shared.Joining.{get_back}
use Rattle.ec_walk.specs.kept.Each.{EachFrom, Each}

module _ {G A : Type 0} (R : G → A → Type 0) (gs : List G) where
  -- the first n have corresponding elements
  abbrev pub EachFirst : List A → ℕ → Type 0
  EachFirst list n = (i : ℕ) → i < n → (g : G) → slice_get gs i ≡ Some g → (a : A) × (slice_get list i ≡ Some a) × R g a

  pub each_none : (list : List A) → EachFirst list 0
  each_none list = λ i less g at. absurd (omega arith)

  pub each_more : (list more : List A) (n : ℕ) (g : G) (a : A) → more ≡ list ++ a ∷ [] → length list ≡ n → slice_get gs n ≡ Some g → EachFirst list n → R g a → EachFirst more (n + 1)
  each_more list more n g a is long at each here =
      subst (λ l. EachFirst l (n + 1)) (sym is)
      (below_more (λ i. (f : G) → slice_get gs i ≡ Some f → (b : A) × (slice_get (list ++ a ∷ []) i ≡ Some b) × R f b) n
      (λ i less f got. (let was = each i less f got in (was.0, still_there list (a ∷ []) i was.0 was.1, was.2)))
      (λ f got.
      (let same : g ≡ f = cc in
      (a, get_back list (a ∷ []) n 0 (omega arith), subst (λ z. R z a) same here))))

  pub each_all : (list : List A) (n : ℕ) → length gs ≤ n → EachFirst list n → Each R gs list
  each_all list n all each = λ i g at. (let less : i < length gs = slice_get_within gs i g at in each i (omega arith) g at)

  pub from_first : (list : List A) → Each R gs list → EachFrom R gs 0 list
  from_first list each = λ i g at. each i g (ap (slice_get gs) (sym (zero-add i)) ∙ at)

  pub from_here : (n : ℕ) (a : A) (rest : List A) (g : G) → EachFrom R gs n (a ∷ rest) → slice_get gs n ≡ Some g → R g a
  from_here n a rest g each at =
      (let here = each 0 g (ap (slice_get gs) (add-zero n) ∙ at) in
      let same : here.0 ≡ a = cc in
      subst (R g) same here.2)

  pub from_next : (n : ℕ) (a : A) (rest : List A) → EachFrom R gs n (a ∷ rest) → EachFrom R gs (n + 1) rest
  from_next n a rest each = λ i g at. each (suc i) g (ap (slice_get gs) (omega arith) ∙ at)

  -- there is one, if an element is left
  pub from_some : (n : ℕ) (g : G) → EachFrom R gs n [] → slice_get gs n ≡ Some g → ⊥
  from_some n g each at = (let here = each 0 g (ap (slice_get gs) (add-zero n) ∙ at) in cc)

-- one more at the end
pub one_longer : {A : Type 0} (list more : List A) (a : A) (n : ℕ) → more ≡ list ++ a ∷ [] → length list ≡ n → length more ≡ n + 1
one_longer list more a n is long = ap length is ∙ length-append list (a ∷ []) ∙ ap (λ k. k + 1) long
