-- A word cut at a byte.
use Rattle.std.proofs.Common.{◌≡◌, ℕ, zero, suc, ◌+◌, ◌-◌, ◌<◌, List, [], ◌∷◌, length, take, drop, get_or, true, false, eqb, Some, None, refl, sym, ap, ◌∙◌, arith, ne_eqb, eq-eqb, take_all, length-drop, add-one}
use Rattle.ec_heading.specs.EntryWords.{cut_at}

step_on : (byte b : ℕ) (bs : List ℕ) (x y : List ℕ) → eqb b byte ≡ false → cut_at byte bs ≡ Some (x, y) → cut_at byte (b ∷ bs) ≡ Some (b ∷ x, y)
unfolding cut_at
step_on byte b bs x y other e = rw (other, e) refl

here : (byte : ℕ) (word : List ℕ) (i : ℕ) → i < length word → ((k : ℕ) → k < i → get_or word k 0 ≡ byte → ⊥) → get_or word i 0 ≡ byte → cut_at byte word ≡ Some (take i word, drop (suc i) word)
unfolding cut_at
here byte [] i within none at = absurd (omega arith)
here byte (b ∷ bs) zero within none at = (let e : eqb b byte ≡ true = eq-eqb _ _ at in rw e refl)
here byte (b ∷ bs) (suc i) within none at =
    step_on byte b bs (take i bs) (drop (suc i) bs) (ne_eqb _ _ (λ e. none 0 (omega arith) e)) (here byte bs i (omega arith) (λ k lt e. none (suc k) (omega arith) e) at)

-- as the code's `&word[i + 1..]` says it
pub cut_here : (byte : ℕ) (word : List ℕ) (i : ℕ) → i < length word → ((k : ℕ) → k < i → get_or word k 0 ≡ byte → ⊥) → get_or word i 0 ≡ byte → cut_at byte word ≡ Some (take i word, take (length word - (i + 1)) (drop (i + 1) word))
cut_here byte word i within none at =
    let e : take (length word - (i + 1)) (drop (i + 1) word) ≡ drop (suc i) word = take_all _ _ (omega (arith, length-drop (i + 1) word)) ∙ ap (λ n. drop n word) (add-one i) in
    here byte word i within none at ∙ ap (λ (r : List ℕ). Some (take i word, r)) (sym e)

pub cut_none : (byte : ℕ) (word : List ℕ) → ((k : ℕ) → k < length word → get_or word k 0 ≡ byte → ⊥) → cut_at byte word ≡ None
unfolding cut_at
cut_none byte [] none = refl
cut_none byte (b ∷ bs) none =
    let other : eqb b byte ≡ false = ne_eqb _ _ (λ e. none 0 (omega arith) e) in
    rw (other, cut_none byte bs (λ k lt e. none (suc k) (omega arith) e)) refl

pub ruleset cuts = (cut_here, cut_none)
