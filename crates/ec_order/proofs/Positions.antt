-- The entries of a past, by their positions.
use Rattle.std.proofs.Common.{◌≡◌, ℕ, zero, suc, ◌<◌, ◌≤◌, inl, inr, true, false, List, [], ◌∷◌, ◌++◌, length, Option, Some, refl, ap, sym, ◌∙◌, arith, cond, subst, reverse, slice_get, nat_le, length-append}
use Rattle.std.proofs.lemmas.Bool.{cases_order}
use Rattle.std.proofs.lemmas.List.{reverse-append, length-reverse}
use Rattle.std.proofs.lemmas.Option.{slice_get_within}
use Rattle.ec_core.specs.declared.act.Entry.{Entry}
use Rattle.ec_core.specs.Rounds.{IsPastOf}
use Rattle.ec_order.specs.Points.{first_entries}
use Rattle.ec_core.proofs.shared.Pasts.{past_itself}
use Rattle.ec_order.proofs.Chains.{past_next}
use Rattle.ec_order.proofs.Points.{first_since, first_of_past}
use Rattle.ec_core.proofs.shared.Joining.{get_front as get_left}

abbrev pub entry_at : List Entry → ℕ → Option Entry
entry_at past i = slice_get (reverse past) i

get_last : {X : Type 0} (xs : List X) (x : X) → slice_get (xs ++ x ∷ []) (length xs) ≡ Some x
get_last [] x = refl
get_last (y ∷ xs) x = get_last xs x

pub reverse_cons : (x : Entry) (p : List Entry) → reverse (x ∷ p) ≡ reverse p ++ x ∷ []
reverse_cons x p = reverse-append (x ∷ []) p

pub entry_here : (x : Entry) (p : List Entry) → entry_at (x ∷ p) (length p) ≡ Some x
entry_here x p = ap (λ h. slice_get h (length p)) (reverse_cons x p) ∙ ap (slice_get (reverse p ++ x ∷ [])) (sym (length-reverse p)) ∙ get_last (reverse p) x

pub entry_before : (x : Entry) (p : List Entry) (i : ℕ) → i < length p → entry_at (x ∷ p) i ≡ entry_at p i
entry_before x p i h = ap (λ h. slice_get h i) (reverse_cons x p) ∙ get_left (reverse p) (x ∷ []) i (omega (arith, length-reverse p))

pub entry_since : (s p : List Entry) (i : ℕ) → i < length p → entry_at (s ++ p) i ≡ entry_at p i
entry_since [] p i h = refl
entry_since (x ∷ s) p i h = entry_before x (s ++ p) i (omega (arith, length-append s p)) ∙ entry_since s p i h

pub entry_within : (p : List Entry) (i : ℕ) (x : Entry) → entry_at p i ≡ Some x → i < length p
entry_within p i x h = (let k : i < length (reverse p) = slice_get_within (reverse p) i x h in omega (arith, length-reverse p))

pub entry_in : (p late : List Entry) (x : Entry) → IsPastOf (x ∷ p) late → entry_at late (length p) ≡ Some x
entry_in p late x h = ap (λ l. entry_at l (length p)) h.is ∙ entry_since h.since (x ∷ p) (length p) (omega arith) ∙ entry_here x p

-- the past of an entry
pub record Found (late : List Entry) (i : ℕ) (x : Entry) : Type 0 where
  pub before : List Entry
  pub here : length before ≡ i
  pub in_late : IsPastOf (x ∷ before) late

pub find_entry : (late : List Entry) (i : ℕ) (x : Entry) → entry_at late i ≡ Some x → Found late i x
find_entry [] i x h = cc
find_entry (y ∷ p) i x h =
    elim (cases_order i (length p)) [
      | inl same ↦
          (let k : Some y ≡ Some x = sym (entry_here y p) ∙ ap (entry_at (y ∷ p)) (sym same) ∙ h in
          let e : y ≡ x = cc in
          record { before = p; here = sym same; in_late = record { since = []; is = ap (λ z. z ∷ p) e } })
      | inr (inl lt) ↦
          (let r = find_entry p i x (sym (entry_before y p i lt) ∙ h) in
          record { before = r.before; here = r.here; in_late = past_next y (x ∷ r.before) p r.in_late })
      | inr (inr gt) ↦ (let within : i < suc (length p) = entry_within (y ∷ p) i x h in absurd (omega arith))
    ]

pub same_some : (x y : Entry) → Some x ≡ Some y → x ≡ y
same_some x y h = cc

-- of two pasts of one history the shorter is a past of the other
first_is_past : (k : ℕ) (late : List Entry) → IsPastOf (first_entries k late) late
unfolding first_entries
first_is_past k [] = past_itself []
first_is_past k (x ∷ late) =
    elim (nat_le k (length late)) as (λ b. IsPastOf (cond b (first_entries k late) (x ∷ late)) (x ∷ late)) [
      | true ↦ past_next x (first_entries k late) late (first_is_past k late)
      | false ↦ past_itself (x ∷ late)
    ]

pub past_of_both : (p q late : List Entry) → IsPastOf p late → IsPastOf q late → length p ≤ length q → IsPastOf p q
past_of_both p q late a b le =
    let one : first_entries (length p) late ≡ p = first_of_past p late a in
    let two : first_entries (length p) late ≡ first_entries (length p) q = ap (first_entries (length p)) b.is ∙ first_since (length p) b.since q le in
    subst (λ z. IsPastOf z q) (sym two ∙ one) (first_is_past (length p) q)

pub same_past : (p q late : List Entry) → IsPastOf p late → IsPastOf q late → length p ≡ length q → p ≡ q
same_past p q late a b same = sym (first_of_past p late a) ∙ ap (λ k. first_entries k late) same ∙ first_of_past q late b
