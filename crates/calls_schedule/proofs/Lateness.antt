-- Jobs that are given ranks too late.
use Rattle.std.proofs.Common.{◌≡◌, ℕ, zero, suc, ◌+◌, ◌-◌, ◌<◌, ◌≤◌, ◌⊎◌, inl, inr, Bool, true}
use Rattle.std.proofs.Common.{List, [], ◌∷◌, ◌++◌, ap, sym, ◌∙◌, arith, get_or, length, min}
use Rattle.std.proofs.Common.{take, subst, count_by, reverse, ◌||◌}
use Rattle.std.specs.Prelude.{nat_le, nat_lt, MatchBool}
use Rattle.std.specs.List.{sum_by}
use Rattle.std.proofs.lemmas.Bool.{cases_lt, le-leb, lt-ltb, le-ltb, cond-true, cond_both, and_from}
use Rattle.std.proofs.lemmas.Bool.{or_left, or_right}
use Rattle.std.proofs.lemmas.List.Sums.{sum_by-cons, sum_by-le-sum_by}
use Rattle.std.proofs.lemmas.List.{reverse-append, take_all}
use Rattle.calls_core.proofs.Counting.{count_cons, one_yes}
use Rattle.calls_core.proofs.Lists.{all_from_each, each_weaker}
use Rattle.calls_schedule.specs.declared.job.Bound.{Bound}
use Rattle.calls_schedule.specs.declared.timed.Timed.{Timed}
use Rattle.calls_schedule.specs.Limits.{lower_at, is_counted}
use Rattle.calls_schedule.specs.Serving.{due_by, nothing, IsPreferred, IsServed}
use Rattle.calls_schedule.specs.Missing.{lowered_at, IsMissed, Lowers, EndsRefuted, IsAbove}
use Rattle.calls_schedule.specs.Missing.{AreMissed}
use Rattle.calls_schedule.proofs.Limiting.{reversed_more}

-- those from low on pass
pub count_range : {X : Type 0} (p : X → Bool) (d : X) (xs : List X) (low n : ℕ)
    → low + n ≤ length xs
    → ((k : ℕ) → low ≤ k → k < low + n → p (get_or xs k d) ≡ true) → n ≤ count_by p xs
count_range p d [] low n le h = omega arith
count_range p d (x ∷ xs) zero zero le h = omega arith
count_range p d (x ∷ xs) zero (suc n) le h = omega (
  arith,
  count_cons p x xs,
  one_yes (p x) (h zero (omega arith) (omega arith)),
  count_range p d xs zero n (omega arith) (λ k low lt. h (suc k) (omega arith) (omega arith)),
)
count_range p d (x ∷ xs) (suc low) n le h = omega (
  arith,
  count_cons p x xs,
  count_range p d xs low n (omega arith) (λ k from lt. h (suc k) (omega arith) (omega arith)),
)

counted_due : (n : ℕ) (b : Bound) (t : Timed) → b.at ≤ t.job.early → due_by n t ≤ b.due
    → is_counted n b t ≡ true
counted_due n b t le due =
    and_from (nat_le b.at t.job.early) (nat_le t.late b.due || nat_le (t.by + n) b.due)
    (le-leb b.at t.job.early le)
    (elim (cases_lt b.due t.late) [
      | inl lt ↦ or_right (nat_le t.late b.due) (nat_le (t.by + n) b.due)
          (le-leb (t.by + n) b.due (omega arith))
      | inr in_time ↦ or_left (nat_le t.late b.due) (nat_le (t.by + n) b.due)
          (le-leb t.late b.due in_time)
    ])

-- the jobs from start to rank are due, and are not done before the position
pub stretch_missed : (n : ℕ) (given : List Timed) (rank start : ℕ) (b : Bound)
    → rank < length given → start ≤ rank → b.jobs ≡ rank - start + 1
    → ((k : ℕ) → start ≤ k → k ≤ rank → (b.at ≤ (get_or given k nothing).job.early)
    × (due_by n (get_or given k nothing) ≤ b.due))
    → IsMissed n given b
stretch_missed n given rank start b lt le jobs h = record {
  some = omega arith;
  counted = count_range (is_counted n b) nothing given start b.jobs (omega arith)
      (λ k from below. (let fits = h k from (omega arith) in
      counted_due n b (get_or given k nothing) fits.0 fits.1));
}

pub served_pair : (n rank : ℕ) (given : List Timed) → IsServed n rank given → (i k : ℕ) → i < k
    → k < length given → IsPreferred n (rank + i) (get_or given i nothing) (get_or given k nothing)
served_pair n rank [] s i k lt le = absurd (omega arith)
served_pair n rank (t ∷ ts) s i zero lt le = absurd (omega arith)
served_pair n rank (t ∷ ts) s zero (suc k) lt le =
    (let same : rank ≡ rank + 0 = omega arith in
    subst (λ r. IsPreferred n r t (get_or ts k nothing)) same
    (all_from_each (IsPreferred n rank t) ts s.1 k nothing (omega arith)))
served_pair n rank (t ∷ ts) s (suc i) (suc k) lt le =
    (let same : rank + 1 + i ≡ rank + suc i = omega arith in
    subst (λ r. IsPreferred n r (get_or ts i nothing) (get_or ts k nothing)) same
    (served_pair n (rank + 1) ts s.2 i k (omega arith) (omega arith)))

-- one term is less, and none is more
pub sum_less : {X : Type 0} (f g : X → ℕ) (d : X) (xs : List X) → ((x : X) → f x ≤ g x) → (i : ℕ)
    → i < length xs → f (get_or xs i d) < g (get_or xs i d) → sum_by f xs < sum_by g xs
sum_less f g d [] le i lt h = absurd (omega arith)
sum_less f g d (x ∷ xs) le zero lt h = omega (
  arith,
  sum_by-cons f x xs,
  sum_by-cons g x xs,
  h,
  sum_by-le-sum_by f g xs le,
)
sum_less f g d (x ∷ xs) le (suc i) lt h = omega (
  arith,
  sum_by-cons f x xs,
  sum_by-cons g x xs,
  le x,
  sum_less f g d xs le i (omega arith) h,
)

pub lower_at_le : (b : Bound) (p x : ℕ) → lower_at b p x ≤ x
lower_at_le b p x =
    cond_both (nat_le p b.at) (min (b.due - b.jobs) x) x (λ y. y ≤ x) (λ e. omega arith)
    (λ e. omega arith)

-- the bound of a whole stretch lowers a limit, or refutes
pub stretch_lowers : (n : ℕ) (given : List Timed) (rank start i : ℕ) (b : Bound)
    → IsServed n 0 given → rank < length given → start ≤ rank → b.due ≤ rank
    → b.jobs ≡ rank - start + 1
    → (start ≤ 0) ⊎ (b.due < due_by n (get_or given (start - 1) nothing))
    → start ≤ i → i ≤ rank → (get_or given i nothing).job.early ≡ b.at
    → due_by n (get_or given i nothing) ≤ b.due
    → (b.due < b.jobs) ⊎ Lowers given (b ∷ [])
stretch_lowers n given rank start i b s lt le due jobs (inl first) from to at in_time =
    inl (omega arith)
stretch_lowers n given rank start zero b s lt le due jobs (inr before) from to at in_time =
    inl (omega arith)
stretch_lowers n given rank zero (suc i) b s lt le due jobs (inr before) from to at in_time =
    inl (omega arith)
stretch_lowers n given rank (suc start) (suc i) b s lt le due jobs (inr before) from to at in_time =
    let t : Timed = get_or given (suc i) nothing in
    let u : Timed = get_or given start nothing in
    let later : due_by n t < due_by n u =
    (let same : suc start - 1 ≡ start = omega arith in
    omega (
      arith,
      in_time,
      subst (λ k. b.due < due_by n (get_or given k nothing)) same before,
    )) in
    let released : start < t.early =
    elim (served_pair n 0 given s start (suc i) (omega arith) (omega arith)) [
      | inl early ↦ omega (arith, early)
      | inr (inl less) ↦ absurd (omega (arith, less, later))
      | inr (inr same) ↦ absurd (omega (arith, same.0, later))
    ] in
    let lowered : lower_at b t.job.early t.early ≡ min (b.due - b.jobs) t.early =
    cond-true (nat_le t.job.early b.at) (min (b.due - b.jobs) t.early) t.early
    (le-leb t.job.early b.at (omega (arith, at))) in
    inr (sum_less (λ (v : Timed). lower_at b v.job.early v.early) (λ (v : Timed). v.early) nothing
    given (λ v. lower_at_le b v.job.early v.early) (suc i) (omega arith)
    (omega (arith, lowered, released)))

-- one more bound lowers no less
pub lowers_more : (given : List Timed) (b : Bound) (bs : List Bound) → Lowers given bs
    → Lowers given (b ∷ bs)
lowers_more given b bs h =
    omega (
      arith,
      h,
      sum_by-le-sum_by (λ (t : Timed). lowered_at (b ∷ bs) t.job.early t.early)
          (λ (t : Timed). lowered_at bs t.job.early t.early) given
          (λ t. lower_at_le b t.job.early (lowered_at bs t.job.early t.early)),
    )

-- the last bound is the first from the end
pub above_last : (bounds : List Bound) (b d : Bound)
    → (0 < length bounds → (get_or bounds (length bounds - 1) d).at ≤ b.at)
    → IsAbove b (reverse bounds)
above_last [] b d h = tt
above_last (c ∷ cs) b d h =
    let whole : reverse (c ∷ cs) ≡ get_or (c ∷ cs) (length cs) d ∷ reverse (take (length cs) (c ∷ cs)) =
    ap reverse (sym (take_all (length cs + 1) (c ∷ cs) (omega arith)))
    ∙ reversed_more (c ∷ cs) (length cs) d (omega arith) in
    let last : (get_or (c ∷ cs) (length cs) d).at ≤ b.at =
    (let same : length (c ∷ cs) - 1 ≡ length cs = omega arith in
    subst (λ k. (get_or (c ∷ cs) k d).at ≤ b.at) same (h (omega arith))) in
    subst (λ l. IsAbove b l) (sym whole) last

pub missed_more : (n : ℕ) (given : List Timed) (b : Bound) (bs : List Bound)
    → AreMissed n given bs → IsMissed n given b → IsAbove b bs → AreMissed n given (b ∷ bs)
missed_more n given b [] h m above = record { each = (m, tt); ascend = (tt, tt) }
missed_more n given b (c ∷ cs) h m above = record {
  each = (m, h.each);
  ascend = (
    (
      above,
      each_weaker (λ (e : Bound). e.at ≤ c.at) (λ (e : Bound). e.at ≤ b.at)
          (λ e le. omega (arith, le, above)) cs h.ascend.0,
    ),
    h.ascend,
  );
}

-- THE SCAN

-- the jobs from start to rank are due, and are not done before a position
abbrev pub AreDue : ℕ → List Timed → ℕ → ℕ → ℕ → ℕ → Type 0
AreDue n given rank start at due = (k : ℕ) → start ≤ k → k ≤ rank
    → (at ≤ (get_or given k nothing).job.early) × (due_by n (get_or given k nothing) ≤ due)

-- which is the position of one of them
abbrev pub IsLeast : List Timed → ℕ → ℕ → ℕ → Type 0
IsLeast given rank start at = (i : ℕ) × (start ≤ i) × (i ≤ rank)
    × ((get_or given i nothing).job.early ≡ at)

pub due_more : (n : ℕ) (given : List Timed) (rank start at due new : ℕ) → 0 < start
    → AreDue n given rank start at due → due_by n (get_or given (start - 1) nothing) ≤ due
    → new ≡ min at (get_or given (start - 1) nothing).job.early
    → AreDue n given rank (start - 1) new due
due_more n given rank start at due new some h first is k from to =
    elim (cases_lt k start) [
      | inl lt ↦ (let same : start - 1 ≡ k = omega arith in
          subst (λ j. (new ≤ (get_or given j nothing).job.early)
          × (due_by n (get_or given j nothing) ≤ due)) same (
            (let le : new ≤ (get_or given (start - 1) nothing).job.early = omega (arith, is) in le),
            first,
          ))
      | inr le ↦ (let old = h k le to in (omega (arith, is, old.0), old.1))
    ]

pub least_more : (given : List Timed) (rank start at new : ℕ) → 0 < start → start ≤ rank
    → IsLeast given rank start at → new ≡ min at (get_or given (start - 1) nothing).job.early
    → IsLeast given rank (start - 1) new
least_more given rank start at new some le least is =
    elim (cases_lt (get_or given (start - 1) nothing).job.early at) [
      | inl lt ↦ (
        start - 1,
        (let l : start - 1 ≤ start - 1 = omega arith in l),
        (let l : start - 1 ≤ rank = omega arith in l),
        omega (arith, is, lt),
      )
      | inr not_less ↦ (
        least.0,
        (let l : start - 1 ≤ least.0 = omega (arith, least.1) in l),
        least.2,
        omega (arith, is, not_less, least.3),
      )
    ]

pub due_one : (n : ℕ) (given : List Timed) (rank : ℕ)
    → AreDue n given rank rank (get_or given rank nothing).job.early
    (due_by n (get_or given rank nothing))
due_one n given rank k from to =
    (let same : rank ≡ k = omega arith in
    subst (λ j. ((get_or given rank nothing).job.early ≤ (get_or given j nothing).job.early)
    × (due_by n (get_or given j nothing) ≤ due_by n (get_or given rank nothing))) same
    (omega arith, omega arith))

pub scan_lowers : (n : ℕ) (given : List Timed) (rank start : ℕ) (b : Bound) → IsServed n 0 given
    → rank < length given → start ≤ rank → b.due ≤ rank → b.jobs ≡ rank - start + 1
    → (start ≤ 0) ⊎ (b.due < due_by n (get_or given (start - 1) nothing))
    → AreDue n given rank start b.at b.due → IsLeast given rank start b.at
    → (b.due < b.jobs) ⊎ Lowers given (b ∷ [])
scan_lowers n given rank start b s lt le due jobs before each least =
    stretch_lowers n given rank start least.0 b s lt le due jobs before least.1 least.2 least.3
    (each least.0 least.1 least.2).1

pub pushed : {X : Type 0} (old new : List X) (x : X) → new ≡ old ++ x ∷ []
    → reverse new ≡ x ∷ reverse old
pushed old new x e = ap reverse e ∙ reverse-append old (x ∷ [])

-- one more bound refutes, or lowers the limits
pub decided_more : (given : List Timed) (floor : ℕ) (b : Bound) (old : List Bound)
    → ((old ≡ []) × (floor ≡ 0)) ⊎ Lowers given (reverse old)
    → (floor ≡ 0 → (b.due < b.jobs) ⊎ Lowers given (b ∷ []))
    → MatchBool (nat_lt b.due b.jobs) (EndsRefuted (b ∷ reverse old))
    (Lowers given (b ∷ reverse old))
decided_more given floor b old before first =
    elim (cases_lt b.due b.jobs) [
      | inl lt ↦ subst (λ t. MatchBool t (EndsRefuted (b ∷ reverse old))
          (Lowers given (b ∷ reverse old))) (sym (lt-ltb b.due b.jobs lt)) lt
      | inr le ↦ subst (λ t. MatchBool t (EndsRefuted (b ∷ reverse old))
          (Lowers given (b ∷ reverse old))) (sym (le-ltb b.due b.jobs le))
          (elim before [
            | inl none ↦ elim (first none.1) [
              | inl lt ↦ absurd (omega (arith, lt, le))
              | inr lower ↦ subst (λ l. Lowers given (b ∷ reverse l)) (sym none.0) lower
            ]
            | inr lower ↦ lowers_more given b (reverse old) lower
          ])
    ]
