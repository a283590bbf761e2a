-- A list of numbers that stores each of them in 32 bits, or each in 64.
use Rattle.std.specs.Prelude.{◌≡◌, ℕ, ◌-◌, ◌^◌, ◌<◌, Bool, true, false, ◌||◌, nat_le, List, vec_len}
use Rattle.std.specs.Vec.{vec_capacity}
use Rattle.ec_numbers.specs.declared.list.Width.{Width}
use Rattle.ec_numbers.specs.declared.list.Width.TheVariants.{Narrow, Wide}

-- the numbers in order, whether each takes 64 bits, and how many more of this width have room
pub record NumberListModel : Type 0 where
  pub list : List ℕ
  pub wide : Bool
  pub room : ℕ

abbrev pub numbers_in : Width → NumberListModel
numbers_in (Narrow v) = record { list = v.items; wide = false; room = vec_capacity v - vec_len v }
numbers_in (Wide v) = record { list = v.items; wide = true; room = vec_capacity v - vec_len v }

-- there is room for this number
pub record HasRoom (k : NumberListModel) (number : ℕ) : Type 0 where
  pub one : 0 < k.room
  pub fits : k.wide ≡ false → number < 2 ^ 32

-- whether each number takes 64 bits once this one is added
abbrev pub is_wide_with : NumberListModel → ℕ → Bool
is_wide_with k number = k.wide || nat_le (2 ^ 32) number
