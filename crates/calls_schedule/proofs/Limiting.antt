-- The limits at the positions of jobs, and counts of jobs.
use Rattle.std.proofs.Common.{◌≡◌, ℕ, zero, suc, ◌+◌, ◌<◌, ◌≤◌, Bool, true, false, List, [], ◌∷◌}
use Rattle.std.proofs.Common.{refl, ap, sym, ◌∙◌, arith, count_by, get_or, length, map, ◌&&◌, ◌++◌}
use Rattle.std.proofs.Common.{reverse, take, drop, subst}
use Rattle.std.proofs.lemmas.List.{take_more, reverse-append, take-append-drop}
use Rattle.std.specs.Prelude.{nat_le, nat_lt}
use Rattle.std.specs.List.Sorted.{IsPermutation}
use Rattle.calls_core.proofs.Counting.{count_cons, count_moved, one_yes, one_no}
use Rattle.calls_schedule.specs.declared.job.Job.{Job}
use Rattle.calls_schedule.specs.declared.job.Bound.{Bound}
use Rattle.calls_schedule.specs.declared.timed.Timed.{Timed}
use Rattle.calls_schedule.specs.Schedules.{limit, is_among, IsBound, AreBounds}
use Rattle.calls_schedule.specs.Limits.{timed_of, lowered_by, is_counted}

-- how many pass, where those that pass come first
pub count_first : {X : Type 0} (p : X → Bool) (i : ℕ) (xs : List X) → i ≤ length xs
    → ((k : ℕ) (d : X) → 0 ≤ k → k < i → p (get_or xs k d) ≡ true)
    → ((k : ℕ) (d : X) → i ≤ k → k < length xs → p (get_or xs k d) ≡ false) → count_by p xs ≡ i
count_first p zero [] le h k = refl
count_first p (suc i) [] le h k = absurd (omega arith)
count_first p zero (x ∷ xs) le h k =
    omega (
      arith,
      count_cons p x xs,
      one_no (p x) (k zero x (omega arith) (omega arith)),
      count_first p zero xs (omega arith) (λ j d low lt. absurd (omega arith))
          (λ j d low lt. k (suc j) d (omega arith) (omega arith)),
    )
count_first p (suc i) (x ∷ xs) le h k =
    omega (
      arith,
      count_cons p x xs,
      one_yes (p x) (h zero x (omega arith) (omega arith)),
      count_first p i xs (omega arith) (λ j d low lt. h (suc j) d (omega arith) (omega arith))
          (λ j d low lt. k (suc j) d (omega arith) (omega arith)),
    )

pub count_map : {X Y : Type 0} (f : X → Y) (p : Y → Bool) (xs : List X)
    → count_by p (map f xs) ≡ count_by (λ x. p (f x)) xs
count_map f p [] = refl
count_map f p (x ∷ xs) = omega (
  arith,
  count_cons p (f x) (map f xs),
  count_cons (λ y. p (f y)) x xs,
  count_map f p xs,
)

-- a limit from the earliest positions in another order
pub first_limit : (jobs : List Job) (starts : List ℕ) (p : ℕ)
    → IsPermutation (map (λ (j : Job). j.early) jobs) starts
    → count_by (λ start. nat_lt start p) starts ≡ limit jobs [] p
first_limit jobs starts p h =
    count_moved (λ start. nat_lt start p) (map (λ (j : Job). j.early) jobs) starts h
    ∙ count_map (λ (j : Job). j.early) (λ start. nat_lt start p) jobs

pub timed_lowered : (jobs : List Job) (bs : List Bound) (b : Bound) (js : List Job)
    → map (lowered_by b) (map (timed_of jobs bs) js) ≡ map (timed_of jobs (b ∷ bs)) js
timed_lowered jobs bs b [] = refl
timed_lowered jobs bs b (j ∷ js) =
    ap (λ l. timed_of jobs (b ∷ bs) j ∷ l) (timed_lowered jobs bs b js)

pub counted_timed : (n : ℕ) (jobs : List Job) (bs : List Bound) (b : Bound) (js : List Job)
    → count_by (is_counted n b) (map (timed_of jobs bs) js)
    ≡ count_by (λ (j : Job). nat_le b.at j.early && is_among n jobs bs b.due j) js
counted_timed n jobs bs b js = count_map (timed_of jobs bs) (is_counted n b) js

-- the bounds so far, and one more
pub reversed_more : {X : Type 0} (xs : List X) (i : ℕ) (d : X) → i < length xs
    → reverse (take (i + 1) xs) ≡ get_or xs i d ∷ reverse (take i xs)
reversed_more xs i d lt =
    ap reverse (take_more xs i d lt) ∙ reverse-append (take i xs) (get_or xs i d ∷ [])

-- each of the bounds follows from those before it
pub bounds_before : (n : ℕ) (jobs : List Job) (later bs : List Bound)
    → AreBounds n jobs (later ++ bs) → AreBounds n jobs bs
bounds_before n jobs [] bs h = h
bounds_before n jobs (b ∷ later) bs h = bounds_before n jobs later bs h.1

pub bounds_until : (n : ℕ) (jobs : List Job) (bounds : List Bound) (i : ℕ) (d : Bound)
    → i < length bounds → AreBounds n jobs (reverse bounds)
    → IsBound n jobs (reverse (take i bounds)) (get_or bounds i d)
bounds_until n jobs bounds i d lt h =
    let whole : reverse bounds ≡ reverse (drop (i + 1) bounds) ++ reverse (take (i + 1) bounds) =
    ap reverse (sym (take-append-drop (i + 1) bounds))
    ∙ reverse-append (take (i + 1) bounds) (drop (i + 1) bounds) in
    let all : AreBounds n jobs (reverse (drop (i + 1) bounds) ++ reverse (take (i + 1) bounds)) =
    subst (λ l. AreBounds n jobs l) whole h in
    let until = bounds_before n jobs (reverse (drop (i + 1) bounds))
    (reverse (take (i + 1) bounds)) all in
    let here : AreBounds n jobs (get_or bounds i d ∷ reverse (take i bounds)) =
    subst (λ l. AreBounds n jobs l) (reversed_more bounds i d lt) until in
    here.0

pub bounds_more : (n : ℕ) (jobs : List Job) (bounds : List Bound) (i : ℕ) (d : Bound)
    → i < length bounds → IsBound n jobs (reverse (take i bounds)) (get_or bounds i d)
    → AreBounds n jobs (reverse (take i bounds)) → AreBounds n jobs (reverse (take (i + 1) bounds))
bounds_more n jobs bounds i d lt h k =
    subst (λ l. AreBounds n jobs l) (sym (reversed_more bounds i d lt)) (h, k)

pub timed_more : (jobs : List Job) (bounds : List Bound) (i : ℕ) (d : Bound) (list new : List Timed)
    → i < length bounds → list ≡ map (timed_of jobs (reverse (take i bounds))) jobs
    → new ≡ map (lowered_by (get_or bounds i d)) list
    → new ≡ map (timed_of jobs (reverse (take (i + 1) bounds))) jobs
timed_more jobs bounds i d list new lt e f =
    f ∙ ap (map (lowered_by (get_or bounds i d))) e
    ∙ timed_lowered jobs (reverse (take i bounds)) (get_or bounds i d) jobs
    ∙ ap (λ l. map (timed_of jobs l) jobs) (sym (reversed_more bounds i d lt))
