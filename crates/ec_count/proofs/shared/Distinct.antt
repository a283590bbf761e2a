-- If a new worker replaces one, the workers stay different.
use Rattle.std.proofs.Common.{◌≡◌, ℕ, zero, suc, false, List, [], ◌∷◌, refl, slice_set, ◌==◌, arith, take, drop, length, ◌++◌}
use Rattle.std.proofs.lemmas.Grind.{common_steps}
use Rattle.std.proofs.lemmas.Bool.{or_parts, or_from}
use Rattle.ec_count.specs.Members.{is_member, has_repeat}

-- who is not a member, and is not the new worker, is not a member afterwards
member_set : (v w : ℕ) (ws : List ℕ) (i : ℕ) → is_member v ws ≡ false → (w == v) ≡ false → is_member v (slice_set ws i w) ≡ false
member_set v w [] i h k = refl
member_set v w (x ∷ xs) zero h k = or_from (w == v) (is_member v xs) k (or_parts (x == v) (is_member v xs) h).1
member_set v w (x ∷ xs) (suc i) h k =
    let n = or_parts (x == v) (is_member v xs) h in
    or_from (x == v) (is_member v (slice_set xs i w)) n.0 (member_set v w xs i n.1 k)

pub eq_sym : (a b : ℕ) → (a == b) ≡ false → (b == a) ≡ false
eq_sym a b h = grind arith

pub set_distinct : (ws : List ℕ) (i w : ℕ) → is_member w ws ≡ false → has_repeat ws ≡ false → has_repeat (slice_set ws i w) ≡ false
set_distinct [] i w h k = refl
set_distinct (x ∷ xs) zero w h k =
    or_from (is_member w xs) (has_repeat xs) (or_parts (x == w) (is_member w xs) h).1 (or_parts (is_member x xs) (has_repeat xs) k).1
set_distinct (x ∷ xs) (suc i) w h k =
    let n = or_parts (x == w) (is_member w xs) h in
    let m = or_parts (is_member x xs) (has_repeat xs) k in
    or_from (is_member x (slice_set xs i w)) (has_repeat (slice_set xs i w)) (member_set x w xs i m.0 (eq_sym x w n.0)) (set_distinct xs i w n.1 m.1)

pub refilled : (xs ys : List ℕ) → length ys ≡ length xs → take (length xs) (ys ++ drop (length ys) xs) ≡ ys
refilled xs ys h = grind (arith, common_steps)
