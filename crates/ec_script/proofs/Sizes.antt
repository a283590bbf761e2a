-- Numbers and values that are in their ranges.
use Rattle.std.proofs.Common.{◌≡◌, ℕ, ◌≤◌, true, ◌&&◌, ◌==◌, List, [], ◌∷◌, ◌++◌, length, map, Option, Some, None, unwrap_or, nat_le, refl, ap, ◌∙◌}
use Rattle.std.proofs.lemmas.List.{length-map}
use Rattle.std.specs.List.{list_all}
use Rattle.std.proofs.lemmas.Bool.{and_parts, and_from, leb-true}
use Rattle.ec_machine.specs.declared.command.Value.{Value}
use Rattle.ec_machine.specs.Limits.{is_value}
use Rattle.ec_script.specs.Kinds.{is_count}
use Rattle.ec_script.specs.BlockItems.{amount_of}

-- as many values as words
pub as_many : (ws : List (List ℕ)) (n : ℕ) → (length ws == n) ≡ true → (length (map amount_of ws) == n) ≡ true
as_many ws n is = ap (λ k. k == n) (length-map ws amount_of) ∙ is

-- a count is in its range
pub record InRange (most n : ℕ) : Type 0 where
  pub some : 1 ≤ n
  pub few : n ≤ most

pub count_range : (most : ℕ) (o : Option ℕ) → is_count most o ≡ true → InRange most (unwrap_or o 0)
count_range most None is = cc
count_range most (Some n) is =
    let p = and_parts (nat_le 1 n) (nat_le n most) is in
    record { some = leb-true 1 n p.0; few = leb-true n most p.1 }

pub size_sound : (most : ℕ) (o : Option ℕ) → is_count most o ≡ true → (nat_le 1 (unwrap_or o 0) && nat_le (unwrap_or o 0) most) ≡ true
size_sound most None is = cc
size_sound most (Some n) is = is

-- one more value
pub sound_more : (vs : List Value) (v : Value) → list_all is_value vs ≡ true → is_value v ≡ true → list_all is_value (vs ++ v ∷ []) ≡ true
sound_more [] v all one = and_from _ _ one refl
sound_more (w ∷ vs) v all one = let p = and_parts (is_value w) (list_all is_value vs) all in and_from _ _ p.0 (sound_more vs v p.1 one)
