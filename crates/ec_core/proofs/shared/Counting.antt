-- The counts of a history, in order of time.
use Rattle.std.proofs.Common.{◌≡◌, ℕ, zero, suc, ◌+◌, ◌<◌, ◌≤◌, Bool, true, false, ◌&&◌, List, [], ◌∷◌, reverse, take, count_by, Option, Some, None, ◌⊎◌, inl, inr, unwrap_or, slice_get, refl, ap, sym, ◌∙◌, arith, subst, cond, ◌==◌, ◌≢◌, add-one}
use Rattle.std.specs.Option.{option_map_or, option_and_then}
use Rattle.std.proofs.Math.Nat.{zero-add}
use Rattle.std.proofs.lemmas.Bool.{eqb-true, eqb-false}
use Rattle.std.proofs.lemmas.List.Sums.{sum_by-cons}
use Rattle.std.proofs.lemmas.List.Sorted.{sum_by-IsPermutation, IsPermutation-reverse}
use Rattle.ec_count.specs.Tables.{Tables}
use Rattle.ec_core.specs.declared.act.Entry.{Entry}
use Rattle.ec_core.specs.Counts.{past_at, total, component_total, issued, cell_value, is_advance, is_ticket, is_place, component_at, put_in, sum_to}
use Rattle.ec_core.specs.Laws.{TotalsCountAdvances, ComponentsCountAdvances, IssuedCountsTickets, CellsHoldTheLastPut, TotalsRiseByOne, advances_at, put_at, IsLastPut, IsUntouched}
use Rattle.ec_core.proofs.shared.Moments.{past_next, past_end}

total_of : (e : ℕ) (past : List Entry) → total e past ≡ count_by (λ x. is_advance e x.act) past
unfolding total
total_of e [] = refl
total_of e (x ∷ past) =
    ap (λ n. cond (is_advance e x.act) 1 0 + n) (total_of e past) ∙ sym (sum_by-cons (λ (y : Entry). cond (is_advance e y.act) 1 0) x past)

issued_of : (q : ℕ) (past : List Entry) → issued q past ≡ count_by (λ x. is_ticket q x.act) past
unfolding issued
issued_of q [] = refl
issued_of q (x ∷ past) =
    ap (λ n. cond (is_ticket q x.act) 1 0 + n) (issued_of q past) ∙ sym (sum_by-cons (λ (y : Entry). cond (is_ticket q y.act) 1 0) x past)

pub turned_count : (p : Entry → Bool) (h : List Entry) → count_by p (reverse h) ≡ count_by p h
turned_count p h = sum_by-IsPermutation (λ x. cond (p x) 1 0) h (reverse h) (IsPermutation-reverse h)

pub totals_count : TotalsCountAdvances
totals_count e k h = total_of e (past_at k h) ∙ turned_count (λ x. is_advance e x.act) (take k h)

pub issued_count : IssuedCountsTickets
issued_count q k h = issued_of q (past_at k h) ∙ turned_count (λ x. is_ticket q x.act) (take k h)

-- one more entry, or none
grown_by : (t : Tables) (e c k : ℕ) (h : List Entry) (o : Option Entry) → slice_get h k ≡ o
    → component_total t e c (past_at (suc k) h) ≡ option_map_or (λ (x : Entry). cond (is_advance e x.act && is_place c (component_at t e (past_at k h) x.worker)) 1 0) o 0 + component_total t e c (past_at k h)
unfolding component_total
grown_by t e c k h None at = ap (component_total t e c) (past_end h k at) ∙ sym (zero-add (component_total t e c (past_at k h)))
grown_by t e c k h (Some x) at = ap (component_total t e c) (past_next h k x at)

pub components_count : ComponentsCountAdvances
unfolding component_total sum_to
components_count t e c zero h = refl
components_count t e c (suc k) h = grown_by t e c k h (slice_get h k) refl ∙ ap (λ n. advances_at t e c h k + n) (components_count t e c k h)

total_next : (e k : ℕ) (h : List Entry) (o : Option Entry) → slice_get h k ≡ o
    → total e (past_at (suc k) h) ≡ option_map_or (λ (x : Entry). cond (is_advance e x.act) 1 0) o 0 + total e (past_at k h)
unfolding total
total_next e k h None at = ap (total e) (past_end h k at) ∙ sym (zero-add (total e (past_at k h)))
total_next e k h (Some x) at = ap (total e) (past_next h k x at)

one_at_most : (o : Option Entry) (e : ℕ) → option_map_or (λ (x : Entry). cond (is_advance e x.act) 1 0) o 0 ≤ 1
one_at_most None e = omega arith
one_at_most (Some x) e = elim (is_advance e x.act) as (λ b. cond b 1 0 ≤ 1) [ true ↦ omega arith | false ↦ omega arith ]

-- from one moment to the next a total never falls, and rises by at most one
pub totals_rise : TotalsRiseByOne
totals_rise e k h =
    let next : total e (past_at (suc k) h) ≡ option_map_or (λ (x : Entry). cond (is_advance e x.act) 1 0) (slice_get h k) 0 + total e (past_at k h) = total_next e k h (slice_get h k) refl in
    let one = one_at_most (slice_get h k) e in
    let same : total e (past_at (k + 1) h) ≡ total e (past_at (suc k) h) = ap (λ n. total e (past_at n h)) (add-one k) in
    (omega arith, omega arith)

abbrev HoldsRight : ℕ → List Entry → ℕ → ℕ → Type 0
HoldsRight x h k v = IsLastPut x h k v ⊎ IsUntouched x h k v

still : (x : ℕ) (h : List Entry) (k v : ℕ) → put_at x h k ≡ None → HoldsRight x h k v → HoldsRight x h (suc k) v
still x h k v off (inl p) = inl (record {
  i = p.i;
  before = (let lt : p.i < k = p.before in omega arith);
  put = p.put;
  none_since = λ j after lt.
      (elim (j == k) as (λ b. (j == k) ≡ b → put_at x h j ≡ None) [
        | true ↦ λ e. (let same : j ≡ k = eqb-true j k e in ap (put_at x h) same ∙ off)
        | false ↦ λ e. (let other : j ≢ k = eqb-false j k e in p.none_since j after (omega arith))
      ] refl);
})
still x h k v off (inr u) = inr (record {
  none = λ j lt.
      (elim (j == k) as (λ b. (j == k) ≡ b → put_at x h j ≡ None) [
        | true ↦ λ e. (let same : j ≡ k = eqb-true j k e in ap (put_at x h) same ∙ off)
        | false ↦ λ e. (let other : j ≢ k = eqb-false j k e in u.none j (omega arith))
      ] refl);
  zero = u.zero;
})

fresh : (x : ℕ) (h : List Entry) (k v : ℕ) → put_at x h k ≡ Some v → HoldsRight x h (suc k) v
fresh x h k v put = inl (record { i = k; before = omega arith; put = put; none_since = λ j after lt. absurd (omega arith) })

held : (x : ℕ) (h : List Entry) (k d : ℕ) (o : Option ℕ) → put_at x h k ≡ o → HoldsRight x h k d → HoldsRight x h (suc k) (unwrap_or o d)
held x h k d None off p = still x h k d off p
held x h k d (Some v) put p = fresh x h k v put

cell_next : (x k : ℕ) (h : List Entry) (o : Option Entry) → slice_get h k ≡ o
    → cell_value x (past_at (suc k) h) ≡ unwrap_or (option_and_then (λ (y : Entry). put_in x y.act) o) (cell_value x (past_at k h))
unfolding cell_value
cell_next x k h None at = ap (cell_value x) (past_end h k at)
cell_next x k h (Some y) at = ap (cell_value x) (past_next h k y at)

pub cells_hold : CellsHoldTheLastPut
unfolding cell_value
cells_hold x zero h = inr (record { none = λ i lt. absurd (omega arith); zero = refl })
cells_hold x (suc k) h =
    subst (HoldsRight x h (suc k)) (sym (cell_next x k h (slice_get h k) refl)) (held x h k (cell_value x (past_at k h)) (put_at x h k) refl (cells_hold x k h))
