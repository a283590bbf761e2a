-- Tests on numbers, and tests of tests.
use Rattle.std.proofs.Common.{◌≡◌, ℕ, Bool, true, false, not, ◌||◌, ◌==◌, cond, refl, sym, ◌∙◌, eqb-true}
use Rattle.std.proofs.lemmas.Bool.{eq-eqb, ne_eqb}

pub or_first : (a b : Bool) → a ≡ true → (a || b) ≡ true
or_first true b is = refl
or_first false b is = cc

pub turned : {X : Type 0} (b : Bool) (x y : X) → cond (not b) x y ≡ cond b y x
turned true x y = refl
turned false x y = refl

pub other_way : (m n : ℕ) → (m == n) ≡ false → (n == m) ≡ false
other_way m n is = ne_eqb n m (λ e. (let same : (m == n) ≡ true = eq-eqb m n (sym e) in let no : false ≡ true = sym is ∙ same in cc))

pub same_test : (m n : ℕ) → (m == n) ≡ (n == m)
same_test m n =
    elim (m == n) as (λ b. (m == n) ≡ b → b ≡ (n == m)) [
      | true ↦ λ is. sym (eq-eqb n m (sym (eqb-true m n is)))
      | false ↦ λ is. sym (other_way m n is)
    ] refl
