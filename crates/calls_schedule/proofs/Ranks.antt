-- Jobs with ranks of their own: how many have ranks between two, and what bounds say of them.
use Rattle.std.proofs.Common.{◌≡◌, ℕ, zero, suc, ◌+◌, ◌-◌, ◌<◌, ◌≤◌, inl, inr, Bool, true, false}
use Rattle.std.proofs.Common.{List, [], ◌∷◌, arith, count_by, eqb, min, ◌&&◌}
use Rattle.std.proofs.lemmas.Bool.{cases_Bool, eqb-true, ne_eqb, le-leb, lt-ltb, leb-true}
use Rattle.std.proofs.lemmas.Bool.{and_from, and_parts, or_cases, cond_both}
use Rattle.std.proofs.lemmas.Bool.Decides.{nat_tests}
use Rattle.std.specs.Prelude.{nat_le, nat_lt}
use Rattle.calls_core.specs.Lists.{Each, EachPair}
use Rattle.calls_core.proofs.Lists.{each_weaker, all_from_each}
use Rattle.calls_core.proofs.Counting.{one, count_cons, one_yes, one_no, count_less, count_none}
use Rattle.calls_schedule.specs.declared.job.Job.{Job}
use Rattle.calls_schedule.specs.declared.job.Bound.{Bound}
use Rattle.calls_schedule.specs.Schedules.{IsTimed, AreCounts, AreRanks, limit, is_among, IsBound}
use Rattle.calls_schedule.specs.Schedules.{AreBounds, Refute}

pub count_parts : {X : Type 0} (p q r : X → Bool) → ((x : X) → one (p x) ≤ one (q x) + one (r x))
    → (xs : List X) → count_by p xs ≤ count_by q xs + count_by r xs
count_parts p q r f [] = omega arith
count_parts p q r f (x ∷ xs) = omega (
  arith,
  count_cons p x xs,
  count_cons q x xs,
  count_cons r x xs,
  f x,
  count_parts p q r f xs,
)

-- at most one element has a rank
pub one_of_rank : {X : Type 0} (rank : X → ℕ) (k : ℕ) (xs : List X)
    → EachPair (λ x y. rank x ≡ rank y → ⊥) xs → count_by (λ x. eqb (rank x) k) xs ≤ 1
one_of_rank rank k [] h = omega arith
one_of_rank {X} rank k (x ∷ xs) h =
    let p : X → Bool = λ y. eqb (rank y) k in
    elim (cases_Bool (p x)) [
      | inl same_rank ↦ (let none = count_none p xs
          (all_from_each (λ y. p y ≡ false) xs
          (each_weaker (λ y. rank x ≡ rank y → ⊥) (λ y. p y ≡ false)
          (λ y ne. ne_eqb (rank y) k (λ e. (let same : rank x ≡ k = eqb-true (rank x) k same_rank in
          ne (omega arith)))) xs h.0)) in
          omega (arith, count_cons p x xs, one_yes (p x) same_rank))
      | inr other ↦ omega (arith, count_cons p x xs, one_no (p x) other, one_of_rank rank k xs h.1)
    ]

abbrev pub is_within : ℕ → ℕ → ℕ → Bool
is_within low k r = nat_le low r && nat_lt r (low + k)

within_next : (low k r : ℕ) → one (is_within low (suc k) r)
    ≤ one (is_within low k r) + one (eqb r (low + k))
within_next low k r = grind (arith, nat_tests)

within_none : (low r : ℕ) → is_within low 0 r ≡ false
within_none low r = grind (arith, nat_tests)

-- at most k elements have one of k ranks
pub between : {X : Type 0} (rank : X → ℕ) (low k : ℕ) (xs : List X)
    → EachPair (λ x y. rank x ≡ rank y → ⊥) xs → count_by (λ x. is_within low k (rank x)) xs ≤ k
between rank low zero xs h = omega (
  arith,
  count_none (λ x. is_within low 0 (rank x)) xs (λ k d lt. within_none low _),
)
between rank low (suc k) xs h = omega (
  arith,
  count_parts (λ x. is_within low (suc k) (rank x)) (λ x. is_within low k (rank x))
      (λ x. eqb (rank x) (low + k)) (λ x. within_next low k (rank x)) xs,
  between rank low k xs h,
  one_of_rank rank (low + k) xs h,
)

-- what is counted by a bound has one of the ranks from most b.at up to below b.due
counted_within : (n : ℕ) (jobs : List Job) (most : ℕ → ℕ) (bs : List Bound) (b : Bound)
    → AreCounts jobs most → ((p : ℕ) → most p ≤ limit jobs bs p) → (r : ℕ) (j : Job)
    → IsTimed n most r j → (nat_le b.at j.early && is_among n jobs bs b.due j) ≡ true
    → is_within (most b.at) (b.due - most b.at) r ≡ true
counted_within n jobs most bs b counts below r j timed e =
    let parts = and_parts (nat_le b.at j.early) (is_among n jobs bs b.due j) e in
    let early : most b.at ≤ most j.early =
    counts.rises b.at j.early (leb-true b.at j.early parts.0) in
    let from : most j.early ≤ r = timed.early in
    let due : r < b.due =
    elim (or_cases (nat_le (limit jobs bs j.late) b.due)
    (nat_le (limit jobs bs j.by + n) b.due) parts.1) [
      | inl le ↦ omega (
        arith,
        leb-true (limit jobs bs j.late) b.due le,
        below j.late,
        timed.late,
      )
      | inr le ↦ omega (
        arith,
        leb-true (limit jobs bs j.by + n) b.due le,
        below j.by,
        timed.by,
      )
    ] in
    and_from (nat_le (most b.at) r) (nat_lt r (most b.at + (b.due - most b.at)))
    (le-leb (most b.at) r (omega arith))
    (lt-ltb r (most b.at + (b.due - most b.at)) (omega arith))

pub bound_holds : (n : ℕ) (jobs : List Job) (most : ℕ → ℕ) (rank : Job → ℕ) (bs : List Bound)
    (b : Bound) → AreRanks n jobs most rank → ((p : ℕ) → most p ≤ limit jobs bs p)
    → IsBound n jobs bs b → most b.at + b.jobs ≤ b.due
bound_holds n jobs most rank bs b ranks below bound =
    let within : Job → Bool = λ j. is_within (most b.at) (b.due - most b.at) (rank j) in
    let counted : Job → Bool = λ j. nat_le b.at j.early && is_among n jobs bs b.due j in
    let each : Each (λ j. counted j ≡ true → within j ≡ true) jobs =
    each_weaker (λ j. IsTimed n most (rank j) j) (λ j. counted j ≡ true → within j ≡ true)
    (λ j t. counted_within n jobs most bs b ranks.counts below (rank j) j t) jobs
    ranks.timed in
    omega (
      arith,
      bound.some,
      bound.counted,
      count_less counted within jobs (all_from_each (λ j. counted j ≡ true → within j ≡ true) jobs
          each),
      between rank (most b.at) (b.due - most b.at) jobs ranks.apart,
    )

pub most_below : (n : ℕ) (jobs : List Job) (most : ℕ → ℕ) (rank : Job → ℕ) (bs : List Bound)
    → AreRanks n jobs most rank → AreBounds n jobs bs → (p : ℕ) → most p ≤ limit jobs bs p
most_below n jobs most rank [] ranks bounds p = ranks.counts.started p
most_below n jobs most rank (b ∷ bs) ranks bounds p =
    let below = most_below n jobs most rank bs ranks bounds.1 in
    cond_both (nat_le p b.at) (min (b.due - b.jobs) (limit jobs bs p)) (limit jobs bs p)
    (λ x. most p ≤ x)
    (λ e. omega (
      arith,
      below p,
      ranks.counts.rises p b.at (leb-true p b.at e),
      bound_holds n jobs most rank bs b ranks below bounds.0,
    ))
    (λ e. below p)

pub no_ranks : (n : ℕ) (jobs : List Job) (bs : List Bound) (most : ℕ → ℕ) (rank : Job → ℕ)
    → Refute n jobs bs → AreRanks n jobs most rank → ⊥
no_ranks n jobs [] most rank refute ranks = refute
no_ranks n jobs (b ∷ bs) most rank refute ranks =
    let below = most_below n jobs most rank bs ranks refute.1.1 in
    omega (arith, refute.0, bound_holds n jobs most rank bs b ranks below refute.1.0)
