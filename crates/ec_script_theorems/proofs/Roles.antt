-- Two roles that share no worker.
use Rattle.std.proofs.Common.{◌≡◌, ℕ, ◌+◌, true, false, ◌||◌, ◌==◌, cond, List, [], ◌∷◌, Some, is_some, refl, subst}
use Rattle.std.specs.List.{position_from}
use Rattle.std.proofs.lemmas.Bool.{or_parts, eqb-true}
use Rattle.ec_count.specs.Members.{is_member, index_of}
use Rattle.ec_count.specs.Roles.{shares_worker}

-- who is in the one list is not in the other
pub one_role : (w : ℕ) (first second : List ℕ) → shares_worker first second ≡ false → is_member w first ≡ true → is_member w second ≡ true → ⊥
one_role w [] second apart in_first in_second = cc
one_role w (v ∷ first) second apart in_first in_second =
    let parts = or_parts (is_member v second) (shares_worker first second) apart in
    elim (v == w) as (λ b. (v == w) ≡ b → (b || is_member w first) ≡ true → ⊥) [
      | true ↦ λ same more. (let out : is_member w second ≡ false = subst (λ z. is_member z second ≡ false) (eqb-true v w same) parts.0 in cc)
      | false ↦ λ differ more. one_role w first second parts.1 more in_second
    ] refl in_first

placed_from : (w low : ℕ) (ws : List ℕ) → is_some (position_from (λ v. v == w) low ws) ≡ true → is_member w ws ≡ true
placed_from w low [] found = cc
placed_from w low (v ∷ ws) found =
    elim (v == w) as (λ b. is_some (cond b (Some low) (position_from (λ u. u == w) (low + 1) ws)) ≡ true → (b || is_member w ws) ≡ true) [
      | true ↦ λ here. refl
      | false ↦ λ more. placed_from w (low + 1) ws more
    ] found

-- who has a place in a list is a member of it
pub placed_is_member : (w : ℕ) (ws : List ℕ) → is_some (index_of w ws) ≡ true → is_member w ws ≡ true
placed_is_member w ws found = placed_from w 0 ws found
