-- Limits at positions, and what jobs show that were given ranks.
use Rattle.std.proofs.Common.{◌≡◌, ℕ, zero, suc, ◌+◌, ◌-◌, ◌<◌, ◌≤◌, inl, inr, Bool, true, false}
use Rattle.std.proofs.Common.{List, [], ◌∷◌, ◌++◌, refl, ap, sym, ◌∙◌, arith, get_or, length, min}
use Rattle.std.proofs.Common.{map, subst, count_by, eqb, reverse, take, drop, ◌&&◌, ◌||◌}
use Rattle.std.specs.Prelude.{nat_le, nat_lt, MatchBool}
use Rattle.std.specs.List.{sum_by}
use Rattle.std.specs.List.Sorted.{IsPermutation, IsNonDecreasingBy}
use Rattle.std.proofs.lemmas.Bool.{cases_lt, le-leb, lt-leb, leb-true, lt-ltb, ltb-true}
use Rattle.std.proofs.lemmas.Bool.{le-ltb, cond-true, cond-false, and_from, and_parts, or_cases}
use Rattle.std.proofs.lemmas.Bool.{or_left, or_right, eqb-true, eqb-false, true≢false, false≢true}
use Rattle.std.proofs.lemmas.List.{get_or-map, length-map, reverse-append}
use Rattle.std.proofs.Math.Seq.{take-append_seam}
use Rattle.std.proofs.lemmas.List.Sums.{sum_by-cons}
use Rattle.std.proofs.lemmas.List.Sorted.{IsPermutation-trans, IsPermutation-map}
use Rattle.std.proofs.lemmas.List.Sorted.{sum_by-IsPermutation}
use Rattle.calls_core.specs.Lists.{Each, EachPair}
use Rattle.calls_core.proofs.Counting.{count_cons, count_less, count_moved, one, one_no}
use Rattle.calls_core.proofs.Lists.{each_both, each_pair_map}
use Rattle.calls_schedule.specs.declared.job.Job.{Job}
use Rattle.calls_schedule.specs.declared.job.Bound.{Bound}
use Rattle.calls_schedule.specs.declared.timed.Timed.{Timed}
use Rattle.calls_schedule.specs.Schedules.{AreTimed, Precedes, IsSchedule, limit}
use Rattle.calls_schedule.specs.Schedules.{is_among, AreBounds, Refute}
use Rattle.calls_schedule.specs.Limits.{timed_of, lower_at, is_counted}
use Rattle.calls_schedule.specs.Serving.{due_by, nothing, IsPreferred, IsServed}
use Rattle.calls_schedule.specs.Serving.{AreReleased}
use Rattle.calls_schedule.specs.Missing.{lowered_at, lowered_all, IsMissed, Lowers, EndsRefuted}
use Rattle.calls_schedule.specs.Missing.{AreInTime, IsDecided}
use Rattle.calls_schedule.proofs.Limiting.{counted_timed}
use Rattle.calls_schedule.proofs.Queueing.{each_moved}
use Rattle.calls_schedule.proofs.Lateness.{lower_at_le}

-- LIMITS

pub limit_rises : (jobs : List Job) (bs : List Bound) (p q : ℕ) → p ≤ q
    → limit jobs bs p ≤ limit jobs bs q
limit_rises jobs [] p q le =
    count_less (λ (j : Job). nat_lt j.early p) (λ (j : Job). nat_lt j.early q) jobs
    (λ k d lt e. lt-ltb _ q (let h = ltb-true _ p e in omega arith))
limit_rises jobs (b ∷ bs) p q le =
    let below = limit_rises jobs bs p q le in
    elim (cases_lt b.at q) [
      | inl lt ↦ omega (
        arith,
        below,
        lower_at_le b p (limit jobs bs p),
        cond-false (nat_le q b.at) (min (b.due - b.jobs) (limit jobs bs q)) (limit jobs bs q)
            (lt-leb q b.at lt),
      )
      | inr within ↦ omega (
        arith,
        below,
        cond-true (nat_le q b.at) (min (b.due - b.jobs) (limit jobs bs q)) (limit jobs bs q)
            (le-leb q b.at within),
        cond-true (nat_le p b.at) (min (b.due - b.jobs) (limit jobs bs p)) (limit jobs bs p)
            (le-leb p b.at (omega arith)),
      )
    ]

pub limit_more : (jobs : List Job) (more bs : List Bound) (p : ℕ)
    → limit jobs (more ++ bs) p ≤ limit jobs bs p
limit_more jobs [] bs p = omega arith
limit_more jobs (b ∷ more) bs p = omega (
  arith,
  limit_more jobs more bs p,
  lower_at_le b p (limit jobs (more ++ bs) p),
)

limit_started : (jobs : List Job) (bs : List Bound) (p : ℕ)
    → limit jobs bs p ≤ count_by (λ (j : Job). nat_lt j.early p) jobs
limit_started jobs [] p = omega arith
limit_started jobs (b ∷ bs) p = omega (
  arith,
  limit_started jobs bs p,
  lower_at_le b p (limit jobs bs p),
)

one_most : (b : Bool) → one b ≤ 1
one_most true = omega arith
one_most false = omega arith

count_below : {X : Type 0} (p : X → Bool) (d : X) (i : ℕ) (xs : List X)
    → ((k : ℕ) → i ≤ k → k < length xs → p (get_or xs k d) ≡ false) → count_by p xs ≤ i
count_below p d i [] h = omega arith
count_below p d zero (x ∷ xs) h = omega (
  arith,
  count_cons p x xs,
  one_no (p x) (h zero (omega arith) (omega arith)),
  count_below p d zero xs (λ k le lt. h (suc k) (omega arith) (omega arith)),
)
count_below p d (suc i) (x ∷ xs) h = omega (
  arith,
  count_cons p x xs,
  one_most (p x),
  count_below p d i xs (λ k le lt. h (suc k) (omega arith) (omega arith)),
)

pub released : (jobs : List Job) (bs : List Bound) → IsNonDecreasingBy (λ (j : Job). j.early) jobs
    → AreReleased (map (timed_of jobs bs) jobs)
released jobs bs sorted =
    let at : (i : ℕ) (d : Timed) → i < length jobs
    → (get_or (map (timed_of jobs bs) jobs) i d).early
    ≡ limit jobs bs (get_or jobs i d.job).early =
    λ i d lt. ap (λ (t : Timed). t.early)
    (get_or-map (timed_of jobs bs) jobs i d.job d lt) in
    let len : length (map (timed_of jobs bs) jobs) ≡ length jobs =
    length-map jobs (timed_of jobs bs) in
    record {
      rises = λ i j d le lt. omega (
        arith,
        at i d (omega (arith, len)),
        at j d (omega (arith, len)),
        limit_rises jobs bs (get_or jobs i d.job).early (get_or jobs j d.job).early
            (sorted i j d.job le (omega (arith, len))),
      );
      starts = λ i d lt.
          (let p : ℕ = (get_or jobs i d.job).early in
          omega (
            arith,
            at i d (omega (arith, len)),
            limit_started jobs bs p,
            count_below (λ (j : Job). nat_lt j.early p) d.job i jobs
                (λ k le within. le-ltb (get_or jobs k d.job).early p (sorted i k d.job le within)),
          ));
    }

-- A SCHEDULE

each_timed : (jobs : List Job) (bs : List Bound) (js : List Job)
    → Each (λ (t : Timed). t ≡ timed_of jobs bs t.job) (map (timed_of jobs bs) js)
each_timed jobs bs [] = tt
each_timed jobs bs (j ∷ js) = (refl, each_timed jobs bs js)

jobs_timed : (jobs : List Job) (bs : List Bound) (js : List Job)
    → map (λ (t : Timed). t.job) (map (timed_of jobs bs) js) ≡ js
jobs_timed jobs bs [] = refl
jobs_timed jobs bs (j ∷ js) = ap (λ l. j ∷ l) (jobs_timed jobs bs js)

abbrev IsOf : List Job → List Bound → Timed → Type 0
IsOf jobs bs t = t ≡ timed_of jobs bs t.job

timed_order : (n : ℕ) (jobs : List Job) (bs : List Bound) (rank : ℕ) (ts : List Timed)
    → Each (IsOf jobs bs) ts → IsServed n rank ts
    → ((k : ℕ) → k < length ts → rank + k < due_by n (get_or ts k nothing))
    → AreTimed n (limit jobs bs) rank (map (λ (t : Timed). t.job) ts)
timed_order n jobs bs rank [] of served in_time = tt
timed_order n jobs bs rank (t ∷ ts) of served in_time =
    let due : rank + 0 < due_by n t = in_time zero (omega arith) in (
      record {
        early = omega (arith, served.0, ap (λ (u : Timed). u.early) of.0);
        late = omega (arith, due, ap (λ (u : Timed). u.late) of.0);
        by = omega (arith, due, ap (λ (u : Timed). u.by) of.0);
      },
      timed_order n jobs bs (rank + 1) ts of.1 served.2
          (λ k lt. (let h : rank + suc k < due_by n (get_or ts k nothing) =
          in_time (suc k) (omega arith) in omega (arith, h))),
    )

not_preceded : (n : ℕ) (jobs : List Job) (bs : List Bound) (rank : ℕ) (t u : Timed)
    → IsOf jobs bs t → IsOf jobs bs u → t.early ≤ rank → IsPreferred n rank t u
    → Precedes u.job t.job → ⊥
not_preceded n jobs bs rank t u of_t of_u le preferred h =
    let early = limit_rises jobs bs u.job.early t.job.early h.early in
    let late = limit_rises jobs bs u.job.late t.job.late h.late in
    let before : u.job.by < t.job.by = h.by in
    let by = limit_rises jobs bs u.job.by t.job.by (omega arith) in
    let due : due_by n u ≤ due_by n t = omega (
      arith,
      late,
      by,
      ap (λ (v : Timed). v.late) of_t,
      ap (λ (v : Timed). v.late) of_u,
      ap (λ (v : Timed). v.by) of_t,
      ap (λ (v : Timed). v.by) of_u,
    ) in
    elim preferred [
      | inl lt ↦ omega (
        arith,
        lt,
        le,
        early,
        ap (λ (v : Timed). v.early) of_t,
        ap (λ (v : Timed). v.early) of_u,
      )
      | inr (inl less) ↦ omega (arith, less, due)
      | inr (inr same) ↦ omega (arith, same.1, before)
    ]

preferred_order : (n : ℕ) (jobs : List Job) (bs : List Bound) (rank : ℕ) (ts : List Timed)
    → Each (IsOf jobs bs) ts → IsServed n rank ts
    → EachPair (λ (t u : Timed). Precedes u.job t.job → ⊥) ts
preferred_order n jobs bs rank [] of served = tt
preferred_order n jobs bs rank (t ∷ ts) of served = (
  each_both (IsOf jobs bs) (IsPreferred n rank t) (λ u. Precedes u.job t.job → ⊥)
      (λ u of_u p. not_preceded n jobs bs rank t u of.0 of_u served.0 p) ts of.1 served.1,
  preferred_order n jobs bs (rank + 1) ts of.1 served.2,
)

pub scheduled : (n : ℕ) (jobs sorted : List Job) (bs : List Bound) (list given : List Timed)
    → IsPermutation jobs sorted → list ≡ map (timed_of sorted bs) sorted
    → IsPermutation list given → IsServed n 0 given → AreInTime n given (length given)
    → IsSchedule n jobs (map (λ (t : Timed). t.job) given)
scheduled n jobs sorted bs list given moved is all served in_time =
    let timed : Each (IsOf sorted bs) given =
    each_moved (IsOf sorted bs) (map (timed_of sorted bs) sorted) given
    (subst (λ l. IsPermutation l given) is all) (each_timed sorted bs sorted) in
    let names : map (λ (t : Timed). t.job) list ≡ sorted =
    ap (map (λ (t : Timed). t.job)) is ∙ jobs_timed sorted bs sorted in
    record {
      all = IsPermutation-trans jobs sorted (map (λ (t : Timed). t.job) given) moved
          (subst (λ l. IsPermutation l (map (λ (t : Timed). t.job) given)) names
          (IsPermutation-map (λ (t : Timed). t.job) list given all));
      most = limit sorted bs;
      counts = record {
        rises = limit_rises sorted bs;
        started = λ p. omega (
          arith,
          limit_started sorted bs p,
          count_moved (λ (j : Job). nat_lt j.early p) jobs sorted moved,
        );
      };
      timed = timed_order n sorted bs 0 given timed served
          (λ k lt. omega (arith, in_time k lt));
      preferred = each_pair_map (λ (t : Timed). t.job) (λ (i j : Job). Precedes j i → ⊥) given
          (preferred_order n sorted bs 0 given timed served);
    }

-- BOUNDS

among_more : (n : ℕ) (jobs : List Job) (more bs : List Bound) (b : Bound) (j : Job)
    → (nat_le b.at j.early && is_among n jobs bs b.due j) ≡ true
    → (nat_le b.at j.early && is_among n jobs (more ++ bs) b.due j) ≡ true
among_more n jobs more bs b j e =
    let parts = and_parts (nat_le b.at j.early) (is_among n jobs bs b.due j) e in
    let all = more ++ bs in
    and_from (nat_le b.at j.early) (is_among n jobs all b.due j) parts.0
    (elim (or_cases (nat_le (limit jobs bs j.late) b.due) (nat_le (limit jobs bs j.by + n) b.due)
    parts.1) [
      | inl le ↦ or_left (nat_le (limit jobs all j.late) b.due)
          (nat_le (limit jobs all j.by + n) b.due)
          (le-leb (limit jobs all j.late) b.due
          (omega (arith, leb-true (limit jobs bs j.late) b.due le, limit_more jobs more bs j.late)))
      | inr le ↦ or_right (nat_le (limit jobs all j.late) b.due)
          (nat_le (limit jobs all j.by + n) b.due)
          (le-leb (limit jobs all j.by + n) b.due
          (omega (
            arith,
            leb-true (limit jobs bs j.by + n) b.due le,
            limit_more jobs more bs j.by,
          )))
    ])

pub bounds_added : (n : ℕ) (sorted : List Job) (more bs : List Bound) (list given : List Timed)
    → list ≡ map (timed_of sorted bs) sorted → IsPermutation list given
    → Each (IsMissed n given) more → AreBounds n sorted bs → AreBounds n sorted (more ++ bs)
bounds_added n sorted [] bs list given is all missed h = h
bounds_added n sorted (b ∷ more) bs list given is all missed h =
    let counted : Job → Bool = λ j. nat_le b.at j.early && is_among n sorted bs b.due j in
    let counted_now : Job → Bool =
    λ j. nat_le b.at j.early && is_among n sorted (more ++ bs) b.due j in (
      record {
        some = missed.0.some;
        counted = omega (
          arith,
          missed.0.counted,
          count_moved (is_counted n b) list given all,
          ap (count_by (is_counted n b)) is,
          counted_timed n sorted bs b sorted,
          count_less counted counted_now sorted (λ k d lt. among_more n sorted more bs b (get_or sorted k d)),
        );
      },
      bounds_added n sorted more bs list given is all missed.1 h,
    )

limit_moved : (jobs sorted : List Job) → IsPermutation jobs sorted → (bs : List Bound) (p : ℕ)
    → limit jobs bs p ≡ limit sorted bs p
limit_moved jobs sorted moved [] p =
    sym (count_moved (λ (j : Job). nat_lt j.early p) jobs sorted moved)
limit_moved jobs sorted moved (b ∷ bs) p =
    ap (lower_at b p) (limit_moved jobs sorted moved bs p)

count_same : {X : Type 0} (p q : X → Bool) → ((x : X) → p x ≡ q x) → (xs : List X)
    → count_by p xs ≡ count_by q xs
count_same p q f [] = refl
count_same p q f (x ∷ xs) = omega (
  arith,
  count_cons p x xs,
  count_cons q x xs,
  ap one (f x),
  count_same p q f xs,
)

pub bounds_moved : (n : ℕ) (jobs sorted : List Job) (bs : List Bound) → IsPermutation jobs sorted
    → AreBounds n sorted bs → AreBounds n jobs bs
bounds_moved n jobs sorted [] moved h = tt
bounds_moved n jobs sorted (b ∷ bs) moved h =
    let counted : List Job → Job → Bool =
    λ l j. nat_le b.at j.early && is_among n l bs b.due j in
    let same : (j : Job) → counted jobs j ≡ counted sorted j =
    λ j. (let late = limit_moved jobs sorted moved bs j.late in
    let by = limit_moved jobs sorted moved bs j.by in
    ap (λ x. nat_le b.at j.early && (nat_le x b.due || nat_le (limit jobs bs j.by + n) b.due))
    late
    ∙ ap (λ y. nat_le b.at j.early && (nat_le (limit sorted bs j.late) b.due
    || nat_le (y + n) b.due)) by) in (
      record {
        some = h.0.some;
        counted = omega (
          arith,
          h.0.counted,
          count_same (counted jobs) (counted sorted) same jobs,
          count_moved (counted sorted) jobs sorted moved,
        );
      },
      bounds_moved n jobs sorted bs moved h.1,
    )

pub refuted_by : (n : ℕ) (jobs : List Job) (more bs : List Bound) → EndsRefuted more
    → AreBounds n jobs (more ++ bs) → Refute n jobs (more ++ bs)
refuted_by n jobs [] bs h k = absurd h
refuted_by n jobs (b ∷ more) bs h k = (h, k)

-- LOWERED LIMITS

limit_lowered : (jobs : List Job) (more bs : List Bound) (p : ℕ)
    → lowered_at more p (limit jobs bs p) ≡ limit jobs (more ++ bs) p
limit_lowered jobs [] bs p = refl
limit_lowered jobs (b ∷ more) bs p = ap (lower_at b p) (limit_lowered jobs more bs p)

same_limits : (j : Job) (e b l e' b' l' : ℕ) → e ≡ e' → b ≡ b' → l ≡ l'
    → (let t : Timed = record { job = j; early = e; by = b; late = l } in t)
    ≡ record { job = j; early = e'; by = b'; late = l' }
same_limits j e b l e' b' l' p q r = cc

pub all_lowered : (jobs : List Job) (more bs : List Bound) (js : List Job)
    → map (lowered_all more) (map (timed_of jobs bs) js) ≡ map (timed_of jobs (more ++ bs)) js
all_lowered jobs more bs [] = refl
all_lowered jobs more bs (j ∷ js) =
    let head : lowered_all more (timed_of jobs bs j) ≡ timed_of jobs (more ++ bs) j =
    same_limits j _ _ _ _ _ _ (limit_lowered jobs more bs j.early)
    (limit_lowered jobs more bs j.by) (limit_lowered jobs more bs j.late) in
    let tail = all_lowered jobs more bs js in
    ap (λ t. t ∷ map (lowered_all more) (map (timed_of jobs bs) js)) head
    ∙ ap (λ l. timed_of jobs (more ++ bs) j ∷ l) tail

sum_lowered : (more : List Bound) (list : List Timed)
    → sum_by (λ (t : Timed). t.early) (map (lowered_all more) list)
    ≡ sum_by (λ (t : Timed). lowered_at more t.job.early t.early) list
sum_lowered more [] = refl
sum_lowered more (t ∷ ts) = omega (
  arith,
  sum_by-cons (λ (u : Timed). u.early) (lowered_all more t) (map (lowered_all more) ts),
  sum_by-cons (λ (u : Timed). lowered_at more u.job.early u.early) t ts,
  sum_lowered more ts,
)

pub sum_falls : (more : List Bound) (list given new : List Timed) → IsPermutation list given
    → new ≡ map (lowered_all more) list → Lowers given more
    → sum_by (λ (t : Timed). t.early) new < sum_by (λ (t : Timed). t.early) list
sum_falls more list given new all is lower = omega (
  arith,
  lower,
  ap (sum_by (λ (t : Timed). t.early)) is,
  sum_lowered more list,
  sum_by-IsPermutation (λ (t : Timed). t.early) list given all,
  sum_by-IsPermutation (λ (t : Timed). lowered_at more t.job.early t.early) list given all,
)

-- WHAT A ROUND DECIDES

-- what was written into a list, as the list has it
pub written : (len : ℕ) (new old : List Timed) → len ≡ length new
    → take len (new ++ drop (length new) old) ≡ new
written len new old e =
    ap (λ n. take n (new ++ drop (length new) old)) e
    ∙ take-append_seam new (drop (length new) old)

pub some_items : (len n : ℕ) (empty : Bool) → empty ≡ eqb len 0 → empty ≡ false → len ≡ n → 0 < n
some_items len n empty e is_not same =
    elim (cases_lt 0 n) [
      | inl lt ↦ lt
      | inr le ↦ absurd (eqb-false len 0 (sym e ∙ is_not) (omega (arith, same, le)))
    ]

pub no_items : (len n : ℕ) (empty : Bool) → empty ≡ eqb len 0 → empty ≡ true → len ≡ n → n ≡ 0
no_items len n empty e is_so same = omega (arith, same, eqb-true len 0 (sym e ∙ is_so))

pub none_late : (n : ℕ) (given : List Timed) (bounds : List Bound) (refuted : Bool)
    → length bounds ≡ 0
    → MatchBool refuted (EndsRefuted (reverse bounds)) (IsDecided n given (length given) bounds)
    → AreInTime n given (length given)
none_late n given [] true none h = absurd h
none_late n given [] false none (inl in_time) = in_time.1
none_late n given [] false none (inr lower) = absurd (omega (arith, lower))
none_late n given (b ∷ bs) refuted none h = absurd (omega arith)

pub late_lowers : (n : ℕ) (given : List Timed) (bounds : List Bound) (refuted : Bool)
    → 0 < length bounds → refuted ≡ false
    → MatchBool refuted (EndsRefuted (reverse bounds)) (IsDecided n given (length given) bounds)
    → Lowers given (reverse bounds)
late_lowers n given bounds true some e h = absurd (true≢false e)
late_lowers n given bounds false some e (inl none) = absurd (omega (arith, ap length none.0))
late_lowers n given bounds false some e (inr lower) = lower

pub late_refutes : (n : ℕ) (given : List Timed) (bounds : List Bound) (refuted : Bool)
    → refuted ≡ true
    → MatchBool refuted (EndsRefuted (reverse bounds)) (IsDecided n given (length given) bounds)
    → EndsRefuted (reverse bounds)
late_refutes n given bounds true e h = h
late_refutes n given bounds false e h = absurd (false≢true e)

-- the bounds so far, and those of a round
pub rounds_bounds : (old more new : List Bound) → new ≡ old ++ more
    → reverse new ≡ reverse more ++ reverse old
rounds_bounds old more new e = ap reverse e ∙ reverse-append old more
