-- Two lists with different roles that have no fault have none when they are joined.
use Rattle.std.proofs.Common.{◌≡◌, ℕ, ◌<◌, ◌≤◌, ◌==◌, nat_le, nat_lt, Bool, true, false, ◌||◌, List, [], ◌∷◌, ◌++◌, length, None, refl, ◌∙◌, arith}
use Rattle.std.specs.List.{list_any, AllByRecursion, IsDistinct}
use Rattle.std.proofs.lemmas.Bool.{or_parts, or_from, leb-false, eqb-true, eqb-false, ne_eqb, le-ltb}
use Rattle.std.proofs.lemmas.List.Folds.{list_any-append}
use Rattle.std.proofs.lemmas.Map.Steps.{length-le_from_distinct_below}
use Rattle.ec_count.specs.declared.setup.SetupFault.{SetupFault}
use Rattle.ec_count.specs.declared.setup.SetupFault.TheVariants.{TooMany, UnknownWorker, Repeated, Empty, TwoRoles}
use Rattle.ec_count.specs.Members.{has_repeat, is_faulty, is_member}
use Rattle.ec_count.specs.Tables.{Tables, names_unknown, list_fault}
use Rattle.ec_count.specs.Roles.{shares_worker, roles_fault}
use Rattle.ec_count.proofs.First.{none_is}

-- lists without repeats that share no worker have no repeat when they are joined
joined_different : (ws others : List ℕ) → has_repeat ws ≡ false → has_repeat others ≡ false → shares_worker ws others ≡ false → has_repeat (ws ++ others) ≡ false
joined_different [] others p q apart = q
joined_different (w ∷ ws) others p q apart =
    let mine = or_parts (is_member w ws) (has_repeat ws) p in
    let both = or_parts (is_member w others) (shares_worker ws others) apart in
    or_from (is_member w (ws ++ others)) (has_repeat (ws ++ others))
    (list_any-append (λ v. v == w) ws others ∙ or_from (is_member w ws) (is_member w others) mine.0 both.0)
    (joined_different ws others mine.1 q both.1)

-- this worker is not a member of the list
others_differ : (w : ℕ) (ws : List ℕ) → is_member w ws ≡ false → AllByRecursion (λ v. (w == v) ≡ false) ws
others_differ w [] h = tt
others_differ w (v ∷ ws) h =
    let p = or_parts (v == w) (is_member w ws) h in
    let off = eqb-false v w p.0 in
    (ne_eqb w v (λ e. off (omega arith)), others_differ w ws p.1)

distinct : (ws : List ℕ) → has_repeat ws ≡ false → IsDistinct (λ v w. v == w) ws
unfolding IsDistinct
distinct [] h = tt
distinct (w ∷ ws) h = (let p = or_parts (is_member w ws) (has_repeat ws) h in (others_differ w ws p.0, distinct ws p.1))

-- a member of a list of numbers below n is below n
member_below : (n q : ℕ) (ws : List ℕ) → list_any (λ w. nat_le n w) ws ≡ false → list_any (λ w. q == w) ws ≡ true → q < n
member_below n q [] h m = cc
member_below n q (w ∷ ws) h m =
    let p = or_parts (nat_le n w) (list_any (λ v. nat_le n v) ws) h in
    elim (q == w) as (λ b. (q == w) ≡ b → (b || list_any (λ v. q == v) ws) ≡ true → q < n) [
      | true ↦ λ e g. (let same = eqb-true q w e in let low = leb-false n w p.0 in omega arith)
      | false ↦ λ e g. member_below n q ws p.1 g
    ] refl m

-- there are at most n different numbers below n
pub different_few : (n : ℕ) (ws : List ℕ) → has_repeat ws ≡ false → list_any (λ w. nat_le n w) ws ≡ false → length ws ≤ n
different_few n ws d known = length-le_from_distinct_below ws n (distinct ws d) (λ q m. member_below n q ws known m)

-- two lists of different roles join to a list of different workers, at most 16
pub joined_sound : (n : ℕ) (ws others : List ℕ) → n ≤ 16 → is_faulty n ws ≡ false → is_faulty n others ≡ false → shares_worker ws others ≡ false → is_faulty n (ws ++ others) ≡ false
joined_sound n ws others few p q apart =
    let a = or_parts (list_any (λ w. nat_le n w) ws || has_repeat ws) (nat_lt 16 (length ws)) p in
    let a2 = or_parts (list_any (λ w. nat_le n w) ws) (has_repeat ws) a.0 in
    let b = or_parts (list_any (λ w. nat_le n w) others || has_repeat others) (nat_lt 16 (length others)) q in
    let b2 = or_parts (list_any (λ w. nat_le n w) others) (has_repeat others) b.0 in
    let known : list_any (λ w. nat_le n w) (ws ++ others) ≡ false = list_any-append (λ w. nat_le n w) ws others ∙ or_from (list_any (λ w. nat_le n w) ws) (list_any (λ w. nat_le n w) others) a2.0 b2.0 in
    let different = joined_different ws others a2.1 b2.1 apart in
    let short = different_few n (ws ++ others) different known in
    or_from (list_any (λ w. nat_le n w) (ws ++ others) || has_repeat (ws ++ others)) (nat_lt 16 (length (ws ++ others)))
    (or_from (list_any (λ w. nat_le n w) (ws ++ others)) (has_repeat (ws ++ others)) known different)
    (le-ltb 16 (length (ws ++ others)) (omega arith))

-- what is true of two lists of different roles that have no fault
pub record AreRoles (t : Tables) (first second : List ℕ) : Type 0 where
  pub first_sound : is_faulty t.workers first ≡ false
  pub second_sound : is_faulty t.workers second ≡ false
  pub first_some : (length first == 0) ≡ false
  pub second_some : (length second == 0) ≡ false
  pub apart : shares_worker first second ≡ false

-- of two roles without a fault: there is room, nothing is missing, and the lists are sound, not empty and apart
pub roles_of : (t : Tables) (full : Bool) (first second : List ℕ) (none : Bool) → roles_fault t full first second none ≡ None → (full ≡ false) × (none ≡ false) × AreRoles t first second
roles_of t full first second none h =
    let tests = none_is (
    (full || nat_lt 16 (length first) || nat_lt 16 (length second), TooMany)
    ∷ (names_unknown t first || names_unknown t second, UnknownWorker)
    ∷ (has_repeat first || has_repeat second, Repeated)
    ∷ (none || length first == 0 || length second == 0, Empty)
    ∷ (shares_worker first second, TwoRoles)
    ∷ []) h in
    let d : Bool × SetupFault = (true, Empty) in
    let large = or_parts (full || nat_lt 16 (length first)) (nat_lt 16 (length second)) (tests 0 d (omega arith)) in
    let larger = or_parts full (nat_lt 16 (length first)) large.0 in
    let unknown = or_parts (names_unknown t first) (names_unknown t second) (tests 1 d (omega arith)) in
    let twice = or_parts (has_repeat first) (has_repeat second) (tests 2 d (omega arith)) in
    let empty = or_parts (none || length first == 0) (length second == 0) (tests 3 d (omega arith)) in
    let emptier = or_parts none (length first == 0) empty.0 in (
      larger.0,
      emptier.0,
      record {
        first_sound = or_from (names_unknown t first || has_repeat first) (nat_lt 16 (length first)) (or_from (names_unknown t first) (has_repeat first) unknown.0 twice.0) larger.1;
        second_sound = or_from (names_unknown t second || has_repeat second) (nat_lt 16 (length second)) (or_from (names_unknown t second) (has_repeat second) unknown.1 twice.1) large.1;
        first_some = emptier.1;
        second_some = empty.1;
        apart = tests 4 d (omega arith);
      },
    )
