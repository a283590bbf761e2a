-- The iterator of a linearizer gives the completed calls in order of their points.
use Rattle.std.proofs.Common.{◌≡◌, ℕ, zero, suc, ◌+◌, ◌<◌, ◌≤◌, Bool, true, false, not, ◌&&◌, List, [], ◌∷◌, ◌++◌, length, map, Some, refl, ap, sym, ◌∙◌, arith, cond, subst, add-zero, zero-add, append_assoc, append-nil, reverse, drop, slice_get}
use Rattle.std.specs.List.{All, filter}
use Rattle.std.proofs.lemmas.Bool.{le-leb, lt-leb}
use Rattle.std.proofs.lemmas.List.{map-append, length-reverse, reverse-reverse}
use Rattle.std.proofs.lemmas.List.Elements.{All-append, All-head, All-tail, All-weaker}
use Rattle.ec_count.specs.Tables.{Tables, IsDeclared}
use Rattle.ec_core.specs.declared.act.Entry.{Entry}
use Rattle.ec_core.specs.Acceptance.{IsAccepted}
use Rattle.ec_order.specs.declared.linearized_entry.LinearizedEntry.{LinearizedEntry}
use Rattle.ec_order.specs.declared.placed.Placed.{Placed}
use Rattle.ec_order.specs.Calls.{is_one_entry_call}
use Rattle.ec_order.specs.Points.{at_moment, by_moments}
use Rattle.ec_order.specs.Linearizer.{LinearizerModel, IsLinearizerModel, linearized_entry, linearized_entries, entries_from_moment, entries_after_moment, due_moment, long_readings, read_comes}
use Rattle.ec_order.specs.Walk.{alone_at, due_then, is_one_entry_act, own_calls}
use Rattle.ec_order.proofs.Gathering.{placed}
use Rattle.ec_order.proofs.Moments.{IsMoment, moment_of, told_calls}
use Rattle.ec_order.proofs.Sorting.{moment_is}
use Rattle.ec_order.proofs.Walking.{by_moments_from, due_next, from_moment, from_points, none_due}

-- ONE MOMENT

-- those that are due come first
due_early : (at : LinearizedEntry → ℕ) (k : ℕ) (f : List LinearizedEntry → List LinearizedEntry) (ps : List Placed) (ds : List LinearizedEntry) → All (λ p. at (linearized_entry p) ≤ k) ps
    → due_then at k f (map linearized_entry ps ++ ds) ≡ map linearized_entry ps
    ++ due_then at k f ds
due_early at k f [] ds h = refl
due_early at k f (p ∷ ps) ds h =
    ap (λ b. cond b (linearized_entry p ∷ due_then at k f (map linearized_entry ps ++ ds)) (f (linearized_entry p ∷ map linearized_entry ps ++ ds))) (le-leb (at (linearized_entry p)) k (All-head (λ q. at (linearized_entry q) ≤ k) p ps h))
    ∙ ap (λ z. linearized_entry p ∷ z) (due_early at k f ps ds (All-tail (λ q. at (linearized_entry q) ≤ k) p ps h))

-- if none is due, the rest comes
due_late : (at : LinearizedEntry → ℕ) (k : ℕ) (f : List LinearizedEntry → List LinearizedEntry) (ps : List Placed) → All (λ p. k < at (linearized_entry p)) ps → due_then at k f (map linearized_entry ps) ≡ f (map linearized_entry ps)
due_late at k f [] h = refl
due_late at k f (p ∷ ps) h =
    ap (λ b. cond b (linearized_entry p ∷ due_then at k f (map linearized_entry ps)) (f (map linearized_entry (p ∷ ps)))) (lt-leb (at (linearized_entry p)) k (All-head (λ q. k < at (linearized_entry q)) p ps h))

due_within : (b : Bool) (d : LinearizedEntry) → due_moment b d ≤ d.point + 1
due_within true d = omega arith
due_within false d = omega arith

module _ (k : ℕ) (x : Entry) (ms : List Bool) (xs : List Entry) (here late : List Placed) (now : All (λ (p : Placed). p.point ≡ k) here) (later : All (λ (p : Placed). k + 1 ≤ p.point) late) where
  abbrev rest : List LinearizedEntry
  rest = entries_from_moment (k + 1) ms xs (map linearized_entry late)

  -- if the next entry is no read or await that returns at once
  on_time : (f : List LinearizedEntry → List LinearizedEntry) → due_then (due_moment false) k f (map linearized_entry here ++ map linearized_entry late) ≡ map linearized_entry here ++ f (map linearized_entry late)
  on_time f =
      due_early (due_moment false) k f here (map linearized_entry late) (All-weaker (λ (p : Placed). p.point ≡ k) (λ (p : Placed). p.point ≤ k) (λ p e. omega arith) here now)
      ∙ ap (λ z. map linearized_entry here ++ z) (due_late (due_moment false) k f late (All-weaker (λ (p : Placed). k + 1 ≤ p.point) (λ (p : Placed). k < p.point) (λ p le. omega arith) late later))

  act_comes : due_then (due_moment false) k (entries_after_moment k (true ∷ ms) (x ∷ xs)) (map linearized_entry here ++ map linearized_entry late) ≡ map linearized_entry (here ++ alone_at k x ∷ []) ++ rest
  unfolding entries_after_moment
  act_comes =
      on_time (entries_after_moment k (true ∷ ms) (x ∷ xs)) ∙ sym (append_assoc (map linearized_entry here) (linearized_entry (alone_at k x) ∷ []) rest) ∙ ap (λ z. z ++ rest) (sym (map-append linearized_entry here (alone_at k x ∷ [])))

  passes : due_then (due_moment false) k (entries_after_moment k (false ∷ ms) xs) (map linearized_entry here ++ map linearized_entry late) ≡ map linearized_entry (here ++ []) ++ rest
  unfolding entries_after_moment
  passes = on_time (entries_after_moment k (false ∷ ms) xs) ∙ ap (λ ps. map linearized_entry ps ++ rest) (sym (append-nil here))

  -- if it is one, the others of its moment come after it
  told_comes : due_then (due_moment true) k (entries_after_moment k (true ∷ ms) (x ∷ xs)) (map linearized_entry here ++ map linearized_entry late) ≡ map linearized_entry (alone_at k x ∷ (here ++ [])) ++ rest
  unfolding entries_after_moment
  told_comes =
      let at = due_moment (read_comes ms xs) in
      let waits : All (λ (p : Placed). k < p.point + 1) (here ++ late) =
      All-append (λ (p : Placed). k < p.point + 1) here late (All-weaker (λ (p : Placed). p.point ≡ k) (λ (p : Placed). k < p.point + 1) (λ p e. omega arith) here now)
      (All-weaker (λ (p : Placed). k + 1 ≤ p.point) (λ (p : Placed). k < p.point + 1) (λ p le. omega arith) late later) in
      ap (due_then (due_moment true) k (entries_after_moment k (true ∷ ms) (x ∷ xs))) (sym (map-append linearized_entry here late))
      ∙ due_late (due_moment true) k (entries_after_moment k (true ∷ ms) (x ∷ xs)) (here
      ++ late) waits
      ∙ ap (λ ds. linearized_entry (alone_at k x) ∷ due_then at (k + 1) (entries_after_moment (k + 1) ms xs) ds) (map-append linearized_entry here late)
      ∙ ap (λ ds. linearized_entry (alone_at k x) ∷ ds)
      (due_early at (k + 1) (entries_after_moment (k + 1) ms xs) here (map linearized_entry late)
      (All-weaker (λ (p : Placed). p.point ≡ k) (λ p. at (linearized_entry p) ≤ k + 1) (λ p e. (let w : at (linearized_entry p) ≤ p.point + 1 = due_within (read_comes ms xs) (linearized_entry p) in omega arith)) here now))
      ∙ ap (λ ps. linearized_entry (alone_at k x) ∷ (map linearized_entry ps
      ++ rest)) (sym (append-nil here))

  moment_comes : (is_one_entry_act x.act ≡ true → is_one_entry_call x ≡ true)
      → entries_from_moment k (is_one_entry_call x ∷ ms) (cond (is_one_entry_call x) (x ∷ xs) xs) (map linearized_entry here ++ map linearized_entry late) ≡ map linearized_entry (told_calls k x ++ (here ++ own_calls k x)) ++ rest
  moment_comes whole =
      elim (is_one_entry_call x) as (λ s. (is_one_entry_act x.act ≡ true → s ≡ true) → entries_from_moment k (s ∷ ms) (cond s (x ∷ xs) xs) (map linearized_entry here ++ map linearized_entry late)
      ≡ map linearized_entry (cond (s && not (is_one_entry_act x.act)) (alone_at k x ∷ []) [] ++ (here ++ cond (is_one_entry_act x.act) (alone_at k x ∷ []) [])) ++ rest) [
        | true ↦ λ h.
            (elim (is_one_entry_act x.act) as (λ a. due_then (due_moment (not a)) k (entries_after_moment k (true ∷ ms) (x ∷ xs)) (map linearized_entry here ++ map linearized_entry late)
            ≡ map linearized_entry (cond (not a) (alone_at k x ∷ []) [] ++ (here ++ cond a (alone_at k x ∷ []) [])) ++ rest) [
              | true ↦ act_comes
              | false ↦ told_comes
            ])
        | false ↦ λ h.
            (elim (is_one_entry_act x.act) as (λ a. (a ≡ true → false ≡ true) → entries_from_moment k (false ∷ ms) xs (map linearized_entry here ++ map linearized_entry late) ≡ map linearized_entry (here ++ cond a (alone_at k x ∷ []) []) ++ rest) [
              | true ↦ λ g. (let e : false ≡ true = g refl in cc)
              | false ↦ λ g. passes
            ] h)
      ] whole

-- THE WHOLE OF IT

moments_come : (all longs : List Placed) (k : ℕ) (xs : List Entry) → ((i : ℕ) (x : Entry) → slice_get xs i ≡ Some x → IsMoment all longs (k + i) x)
    → entries_from_moment k (map is_one_entry_call xs) (filter is_one_entry_call xs) (map linearized_entry (from_moment longs k (length xs))) ≡ map linearized_entry (from_moment all k (length xs))
unfolding entries_after_moment
moments_come all longs k [] h = refl
moments_come all longs k (x ∷ xs) h =
    let n = length xs in
    let here = at_moment longs k in
    let late = from_moment longs (k + 1) n in
    let first : IsMoment all longs k x = subst (λ j. IsMoment all longs j x) (add-zero k) (h zero x refl) in
    let rest : (i : ℕ) (y : Entry) → slice_get xs i ≡ Some y → IsMoment all longs (k + 1 + i) y =
    λ i y at. (let next : k + suc i ≡ k + 1 + i = omega arith in subst (λ j. IsMoment all longs j y) next (h (suc i) y at)) in
    ap (entries_from_moment k (map is_one_entry_call (x ∷ xs)) (filter is_one_entry_call (x ∷ xs))) (map-append linearized_entry here late)
    ∙ moment_comes k x (map is_one_entry_call xs) (filter is_one_entry_call xs) here late (moment_is longs k) (from_points longs (k + 1) n) first.whole
    ∙ ap (λ ps. map linearized_entry ps ++ entries_from_moment (k + 1) (map is_one_entry_call xs) (filter is_one_entry_call xs) (map linearized_entry late)) (sym first.calls)
    ∙ ap (λ ds. map linearized_entry (at_moment all k)
    ++ ds) (moments_come all longs (k + 1) xs rest)
    ∙ sym (map-append linearized_entry (at_moment all k) (from_moment all (k + 1) n))

dates_are : (t : Tables) (h : List Entry) (ds : List LinearizedEntry) → IsDeclared t → IsAccepted t (reverse h) → ds ≡ map linearized_entry (by_moments (long_readings t (reverse h)) (length (reverse h)))
    → entries_from_moment 0 (map is_one_entry_call h) (filter is_one_entry_call h) ds
    ≡ linearized_entries t (reverse h)
unfolding by_moments
dates_are t h ds d acc is =
    let past = reverse h in
    let all = placed t past in
    let longs = long_readings t past in
    let n = length h in
    let from : (ps : List Placed) → by_moments ps (length past) ≡ from_moment ps 0 n = λ ps. ap (by_moments ps) (length-reverse h ∙ sym (zero-add n)) ∙ by_moments_from ps 0 n in
    let each : (i : ℕ) (x : Entry) → slice_get h i ≡ Some x → IsMoment all longs (0 + i) x =
    λ i x at. moment_of t past (0 + i) x d acc (ap (λ g. slice_get g (0 + i)) (reverse-reverse h) ∙ ap (slice_get h) (zero-add i) ∙ at) in
    ap (entries_from_moment 0 (map is_one_entry_call h) (filter is_one_entry_call h)) (is ∙ ap (map linearized_entry) (from longs)) ∙ moments_come all longs 0 h each ∙ ap (map linearized_entry) (sym (from all))

-- what is stored of an accepted past gives its completed calls in order of their points
pub dates_of : (k : LinearizerModel) (past : List Entry) → IsDeclared k.setup → IsAccepted k.setup past → IsLinearizerModel k past → entries_from_moment 0 k.marks k.one_entry_calls k.readings ≡ linearized_entries k.setup past
dates_of k past d acc s =
    let h = reverse past in
    let back : reverse h ≡ past = reverse-reverse past in
    ap (λ ms. entries_from_moment 0 ms k.one_entry_calls k.readings) s.marks ∙ ap (λ xs. entries_from_moment 0 (map is_one_entry_call h) xs k.readings) s.one_entry_calls
    ∙ dates_are k.setup h k.readings d (subst (IsAccepted k.setup) (sym back) acc) (s.readings (length past) (omega arith) ∙ ap (λ xs. map linearized_entry (by_moments (long_readings k.setup xs) (length xs))) (sym back))
    ∙ ap (linearized_entries k.setup) back

-- A STEP OF IT

-- none is due of those from the i-th on
abbrev pub NoneDue : List LinearizedEntry → ℕ → ℕ → Bool → Type 0
NoneDue rs i k waits = (d : LinearizedEntry) → slice_get rs i ≡ Some d → k < due_moment waits d

-- a read or an await of more entries that is due comes next
pub dates_due : (k : ℕ) (ms : List Bool) (xs : List Entry) (rs : List LinearizedEntry) (i : ℕ) (d : LinearizedEntry) → slice_get rs i ≡ Some d → due_moment (read_comes ms xs) d ≤ k
    → entries_from_moment k ms xs (drop i rs) ≡ d ∷ entries_from_moment k ms xs (drop (i + 1) rs)
dates_due k ms xs rs i d at due = due_next (due_moment (read_comes ms xs)) k (entries_after_moment k ms xs) rs i d at due

-- if none is due, a whole call comes next
pub dates_own : (k : ℕ) (ms : List Bool) (x : Entry) (xs : List Entry) (rs : List LinearizedEntry) (i : ℕ) → NoneDue rs i k (read_comes (true ∷ ms) (x ∷ xs))
    → entries_from_moment k (true ∷ ms) (x ∷ xs) (drop i rs) ≡ record { point = k; entry = x } ∷ entries_from_moment (k + 1) ms xs (drop i rs)
unfolding entries_after_moment
dates_own k ms x xs rs i none = none_due (due_moment (read_comes (true ∷ ms) (x ∷ xs))) k (entries_after_moment k (true ∷ ms) (x ∷ xs)) rs i none

-- any other entry is skipped
pub dates_pass : (k : ℕ) (b : Bool) (ms : List Bool) (xs : List Entry) (rs : List LinearizedEntry) (i : ℕ) → NoneDue rs i k (read_comes (b ∷ ms) xs) → (b ≡ true → xs ≡ [])
    → entries_from_moment k (b ∷ ms) xs (drop i rs) ≡ entries_from_moment (k + 1) ms xs (drop i rs)
unfolding entries_after_moment
dates_pass k true ms [] rs i none out = none_due (due_moment false) k (entries_after_moment k (true ∷ ms) []) rs i none
dates_pass k true ms (x ∷ xs) rs i none out = (let e = out refl in cc)
dates_pass k false ms xs rs i none out = none_due (due_moment false) k (entries_after_moment k (false ∷ ms) xs) rs i none

-- after the last entry there is none
pub dates_end : (k : ℕ) (xs : List Entry) (rs : List LinearizedEntry) (i : ℕ) → NoneDue rs i k (read_comes [] xs) → entries_from_moment k [] xs (drop i rs) ≡ []
unfolding entries_after_moment
dates_end k xs rs i none = none_due (due_moment false) k (entries_after_moment k [] xs) rs i none
