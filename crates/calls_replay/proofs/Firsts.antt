-- The first place at which a test passes.
use Rattle.std.proofs.Common.{◌≡◌, ℕ, ◌<◌, Bool, true, false, cond, List, length, get_or, Some, None}
use Rattle.std.proofs.Common.{ap, ◌∙◌, arith}
use Rattle.std.specs.Prelude.{nat_lt, position}
use Rattle.std.proofs.lemmas.Bool.{le-ltb, lt-ltb}
use Rattle.std.proofs.lemmas.List.Sums.{position_or_len_is}

module _ {X : Type 0} (p : X → Bool) (xs : List X) (d : X) where
  abbrev Fails : ℕ → Type 0
  Fails n = (k : ℕ) → k < n → p (get_or xs k d) ≡ false

  pub first_is : (i : ℕ) → i < length xs → Fails i → p (get_or xs i d) ≡ true
      → position p xs ≡ Some i
  first_is i lt before here =
      ap (λ n. cond (nat_lt n (length xs)) (Some n) None)
      (position_or_len_is p xs i d (omega arith) before (λ l. here))
      ∙ ap (λ b. cond b (Some i) None) (lt-ltb i (length xs) lt)

  pub none_is : Fails (length xs) → position p xs ≡ None
  none_is before =
      ap (λ n. cond (nat_lt n (length xs)) (Some n) None)
      (position_or_len_is p xs (length xs) d (omega arith) before (λ l. absurd (omega arith)))
      ∙ ap (λ b. cond b (Some (length xs)) None) (le-ltb (length xs) (length xs) (omega arith))
