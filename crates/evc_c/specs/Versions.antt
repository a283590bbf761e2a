-- The version of the library, and that of the program.
use Rattle.std.specs.Prelude.{◌≡◌, ℕ, ◌+◌, ◌*◌, List, ◌++◌, codes, decimal}

-- a text begins with two numbers, with a dot between them and an LF after them; n is a thousand
-- times the first, plus the second
pub record IsVersionOf (text : List ℕ) (n : ℕ) : Type 0 where
  pub first : ℕ
  pub second : ℕ
  pub rest : List ℕ
  pub spelled : text ≡ decimal first ++ codes "." ++ decimal second ++ codes "\n" ++ rest
  pub number : n ≡ 1000 * first + second
