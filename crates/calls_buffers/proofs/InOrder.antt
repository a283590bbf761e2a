-- Items in the order of their jobs.
use Rattle.std.proofs.Common.{◌≡◌, ℕ, zero, suc, ◌+◌, ◌<◌, ◌≤◌, ◌==◌, inl, inr, nat_lt}
use Rattle.std.proofs.Common.{true, false, cond, Some, None, List, [], ◌∷◌, ◌++◌, length}
use Rattle.std.proofs.Common.{map}
use Rattle.std.proofs.Common.{get_or, drop, refl, ap, sym, ◌∙◌, subst, arith, append_assoc, add-one}
use Rattle.std.proofs.Math.Seq.{drop-cons}
use Rattle.std.specs.List.{Contains}
use Rattle.std.specs.List.Sorted.{IsPermutation, IsNonDecreasingBy}
use Rattle.std.specs.Option.{unwrap_or}
use Rattle.std.proofs.lemmas.Bool.{cases_lt, eq-eqb, eqb-true, ltb-true, ltb-false}
use Rattle.std.proofs.lemmas.List.{get_or_default}
use Rattle.std.proofs.lemmas.List.Elements.{All-contains, Contains-append_right}
use Rattle.std.proofs.lemmas.List.Sorted.{Contains-permutation, IsPermutation-sym}
use Rattle.std.proofs.lemmas.List.Sorted.{IsPermutation-map}
use Rattle.calls_core.specs.Lists.{Each}
use Rattle.calls_core.proofs.Lists.{all_from_each, all_pairs_from_each}
use Rattle.calls_schedule.specs.declared.job.Job.{Job}
use Rattle.calls_schedule.specs.Schedules.{IsSchedule}
use Rattle.calls_buffers.specs.declared.accesses.Place.TheVariants.{Completed}
use Rattle.calls_buffers.specs.declared.windows.Window.{Window}
use Rattle.calls_buffers.specs.kept.Windows.{in_by, AreRanked}
use Rattle.calls_buffers.specs.kept.Jobs.{IsJobFrom, AreJobsFrom}
use Rattle.calls_buffers.specs.kept.Ranks.{find_window, one_window, windows_at, Ascend}
use Rattle.calls_buffers.proofs.AreWindows.{each_contains, one_of}
use Rattle.calls_buffers.proofs.RanksOf.{are_ranked}

pub rise : (ws : List Window) → Ascend ws → IsNonDecreasingBy (λ (w : Window). w.item) ws
rise ws h i j d le lt =
    elim (cases_lt i j) [
      | inl less ↦ (let l = all_pairs_from_each (λ (x y : Window). x.item < y.item) ws h i j d less
          lt in omega (arith, l))
      | inr ge ↦ (let same : i ≡ j = omega (arith, le, ge) in
          omega (arith, ap (λ k. (get_or ws k d).item) same))
    ]

-- WHAT IS FOUND

pub find_hit : (list : List Window) (v i : ℕ) (d : Window)
    → ((k : ℕ) (e : Window) → k < i → (get_or list k e).item < v) → i < length list
    → (get_or list i d).item ≡ v → find_window list v ≡ Some (get_or list i d)
find_hit [] v i d low lt e = absurd (omega arith)
find_hit (a ∷ list) v zero d low lt e =
    ap (λ b. cond b (Some a) (find_window list v)) (eq-eqb a.item v e)
find_hit (a ∷ list) v (suc i) d low lt e =
    elim (a.item == v) as (λ b. (a.item == v) ≡ b
    → cond b (Some a) (find_window list v) ≡ Some (get_or list i d)) [
      | true ↦ λ q. absurd (omega (arith, eqb-true a.item v q, low 0 a (omega arith)))
      | false ↦ λ q. find_hit list v i d (λ k x l. low (suc k) x (omega arith)) (omega arith) e
    ] refl

pub find_miss : (list : List Window) (v : ℕ)
    → ((k : ℕ) (d : Window) → k < length list → (get_or list k d).item ≡ v → ⊥)
    → find_window list v ≡ None
find_miss [] v h = refl
find_miss (a ∷ list) v h =
    elim (a.item == v) as (λ b. (a.item == v) ≡ b
    → cond b (Some a) (find_window list v) ≡ None) [
      | true ↦ λ q. absurd (h 0 a (omega arith) (eqb-true a.item v q))
      | false ↦ λ q. find_miss list v (λ k d l. h (suc k) d (omega arith))
    ] refl

-- where a sorted list is parted at an item
pub found_at : (list : List Window) (v i : ℕ) (d : Window)
    → ((k : ℕ) (e : Window) → 0 ≤ k → k < i → nat_lt (get_or list k e).item v ≡ true)
    → i < length list → (get_or list i d).item ≡ v
    → Some (get_or list i d) ≡ find_window list v
found_at list v i d low lt e =
    sym (find_hit list v i d (λ k x l. ltb-true (get_or list k x).item v (low k x (omega arith) l))
    lt e)

pub found_none : (list : List Window) (v i : ℕ) (d : Window)
    → IsNonDecreasingBy (λ (w : Window). w.item) list
    → ((k : ℕ) (e : Window) → 0 ≤ k → k < i → nat_lt (get_or list k e).item v ≡ true)
    → ((k : ℕ) (e : Window) → i ≤ k → k < length list → nat_lt (get_or list k e).item v ≡ false)
    → (i < length list → (get_or list i d).item ≡ v → ⊥) → None ≡ find_window list v
found_none list v i d up low high else = sym (find_miss list v (λ k x l e.
    elim (cases_lt k i) [
      | inl lt ↦ absurd (omega (
        arith,
        e,
        ltb-true (get_or list k x).item v
            (low k x (omega arith) lt),
      ))
      | inr le ↦ other k x l e le
    ]))
  where
    other : (k : ℕ) (x : Window) → k < length list → (get_or list k x).item ≡ v → i ≤ k → ⊥
    other k x l e le =
        let here : i < length list = omega (arith, l, le) in
        let same : get_or list i x ≡ get_or list i d = get_or_default list i x d here in
        else here (omega (
          arith,
          ap (λ (a : Window). a.item) same,
          e,
          up i k x le l,
          ltb-false (get_or list i x).item v (high i x (omega arith) here),
        ))

-- the one window of an item is found
pub find_own : (list : List Window) (a : Window) → Ascend list → Contains list a
    → find_window list a.item ≡ Some a
find_own [] a h (k, lt, e) = absurd (omega arith)
find_own (x ∷ list) a h (zero, lt, e) =
    ap (λ b. cond b (Some x) (find_window list a.item))
    (eq-eqb x.item a.item (ap (λ (y : Window). y.item) e)) ∙ ap Some e
find_own (x ∷ list) a h (suc k, lt, e) =
    let there : Contains list a = (k, (let l : k < length list = omega arith in l), e) in
    let above : x.item < a.item = All-contains (λ (y : Window). x.item < y.item) list a
    (all_from_each (λ (y : Window). x.item < y.item) list h.0) there in
    elim (x.item == a.item) as (λ b. (x.item == a.item) ≡ b
    → cond b (Some x) (find_window list a.item) ≡ Some a) [
      | true ↦ λ q. absurd (omega (arith, above, eqb-true x.item a.item q))
      | false ↦ λ q. find_own list a h.1 there
    ] refl

-- one job more
pub in_order_step : (ws : List Window) (jobs : List Job) (i : ℕ) (d : Job)
    (base next : List Window) (whole : List Window) → i < length jobs
    → next ≡ base ++ one_window (find_window ws (get_or jobs i d).item)
    → base ++ windows_at ws (drop i jobs) ≡ whole
    → next ++ windows_at ws (drop (i + 1) jobs) ≡ whole
in_order_step ws jobs i d base next whole lt e h =
    let own = one_window (find_window ws (get_or jobs i d).item) in
    let rest = windows_at ws (drop (suc i) jobs) in
    ap (λ n. next ++ windows_at ws (drop n jobs)) (add-one i) ∙ ap (λ zs. zs ++ rest) e
    ∙ append_assoc base own rest
    ∙ ap (λ zs. base ++ windows_at ws zs) (sym (drop-cons jobs i d lt)) ∙ h

-- THE ORDER

no_window : Window
no_window = record {
  item = 0;
  put = Completed 0;
  put_first = 0;
  put_last = 0;
  take = None;
  take_first = 0;
  take_last = 0;
}

record HasJob (ws : List Window) (j : Job) : Type 0 where
  window : Window
  job : IsJobFrom ws window j
  is : find_window ws j.item ≡ Some window

module _ (ws : List Window) (up : Ascend ws) where
  own_window : Job → Window
  own_window j = unwrap_or (find_window ws j.item) no_window

  have_jobs : (xs : List Window) (js : List Job) → ((x : Window) → Contains xs x → Contains ws x)
      → AreJobsFrom ws xs js → Each (HasJob ws) js
  have_jobs [] [] within h = tt
  have_jobs [] (j ∷ js) within h = absurd h
  have_jobs (x ∷ xs) [] within h = absurd h
  have_jobs (x ∷ xs) (j ∷ js) within h = (
    record {
      window = x;
      job = h.0;
      is = ap (find_window ws) h.0.item ∙ find_own ws x up (within x (zero, omega arith, refl));
    },
    have_jobs xs js (λ y k. within y (Contains-append_right (x ∷ []) xs y k)) h.1,
  )

  at_all : (js : List Job) → Each (HasJob ws) js → windows_at ws js ≡ map own_window js
  unfolding own_window
  at_all [] h = refl
  at_all (j ∷ js) h =
      ap (λ o. one_window o ++ windows_at ws js) h.0.is
      ∙ ap (λ zs. h.0.window ∷ zs) (at_all js h.1)
      ∙ ap (λ o. unwrap_or o no_window ∷ map own_window js) (sym h.0.is)

  at_jobs : (xs : List Window) (js : List Job) → ((x : Window) → Contains xs x → Contains ws x)
      → AreJobsFrom ws xs js → windows_at ws js ≡ xs
  at_jobs [] [] within h = refl
  at_jobs [] (j ∷ js) within h = absurd h
  at_jobs (x ∷ xs) [] within h = absurd h
  at_jobs (x ∷ xs) (j ∷ js) within h =
      ap (λ o. one_window o ++ windows_at ws js)
      (ap (find_window ws) h.0.item ∙ find_own ws x up (within x (zero, omega arith, refl)))
      ∙ ap (λ zs. x ∷ zs) (at_jobs xs js
      (λ y k. within y (Contains-append_right (x ∷ []) xs y k)) h.1)

  jobs_at : (js : List Job) → Each (HasJob ws) js → AreJobsFrom ws (windows_at ws js) js
  jobs_at [] h = tt
  jobs_at (j ∷ js) h =
      subst (λ o. AreJobsFrom ws (one_window o ++ windows_at ws js) (j ∷ js)) (sym h.0.is)
      (h.0.job, jobs_at js h.1)

  pub ranked_at : (n : ℕ) (jobs order : List Job)
      → Each (λ (w : Window). w.put_first ≤ in_by w) ws → AreJobsFrom ws ws jobs
      → IsSchedule n jobs order → AreRanked n ws (windows_at ws order)
  ranked_at n jobs order begun h k =
      let have = have_jobs ws jobs (λ x q. q) h in
      let there : Each (HasJob ws) order =
      each_contains (HasJob ws) order (λ x q. one_of (HasJob ws)
      jobs x have (Contains-permutation order jobs x (IsPermutation-sym jobs order k.all) q)) in
      let one : map own_window jobs ≡ ws = sym (at_all jobs have) ∙ at_jobs ws jobs (λ x q. q) h in
      let moved : IsPermutation ws (windows_at ws order) =
      subst (λ zs. IsPermutation zs (windows_at ws order)) one
      (subst (IsPermutation (map own_window jobs)) (sym (at_all order there))
      (IsPermutation-map own_window jobs order k.all)) in
      are_ranked ws begun n jobs order (windows_at ws order) moved
      (λ y q. Contains-permutation (windows_at ws order) ws y
      (IsPermutation-sym ws (windows_at ws order) moved) q) (jobs_at order there) k
