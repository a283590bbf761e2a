-- Inputs whose bytes may be known.
use Rattle.std.proofs.Common.{◌≡◌, ℕ, List, Option, Some, None, IfSome, refl, subst, Result, Ok, Err, IsErrAnd, MatchResult, sym}

-- what follows if they are
pub if_known : (a : Option (List ℕ)) (P : List ℕ → Type 0) → ((xs : List ℕ) → a ≡ Some xs → P xs) → IfSome a P
if_known None P all = tt
if_known (Some xs) P all = all xs refl

-- and if they are these
pub known : (a : Option (List ℕ)) (P : List ℕ → Type 0) (xs : List ℕ) → IfSome a P → a ≡ Some xs → P xs
known a P xs h is = (let h : IfSome (Some xs) P = subst (λ o. IfSome o P) is h in h)

-- an error that `?` returns is the one that it met
pub passed_on : {A E : Type 0} (P : A → Type 0) (Q : E → Type 0) (r : Result A E) (e : E) → IsErrAnd r (λ f. f ≡ e) → Q e → MatchResult r P Q
passed_on P Q (Ok x) e is q = absurd is
passed_on P Q (Err f) e is q = subst Q (sym is) q
