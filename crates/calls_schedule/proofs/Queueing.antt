-- Jobs in a queue, and jobs that are given ranks.
use Rattle.std.proofs.Common.{◌≡◌, ℕ, ◌+◌, ◌<◌, ◌≤◌, ◌⊎◌, inl, inr, false}
use Rattle.std.proofs.Common.{List, [], ◌∷◌, ◌++◌, sym, arith, get_or, length, map}
use Rattle.std.proofs.Common.{take, subst, length-append}
use Rattle.std.proofs.lemmas.Bool.{cases_lt}
use Rattle.std.proofs.lemmas.Bool.Decides.{nat_tests}
use Rattle.std.proofs.lemmas.List.{take_more, take_all, append-nil, length-map, length-take}
use Rattle.std.specs.List.{All}
use Rattle.std.specs.List.Sorted.{IsPermutation}
use Rattle.std.specs.Ordering.{nat_cmp, ordering_then, is_lt}
use Rattle.std.specs.BinaryHeap.{IsHeap, IsUpperBound}
use Rattle.std.proofs.lemmas.List.Elements.{All-head, All-tail}
use Rattle.std.proofs.lemmas.List.Sorted.{All-permutation, IsPermutation-push_more}
use Rattle.std.proofs.lemmas.List.Sorted.{IsPermutation-pop_more, IsPermutation-trans}
use Rattle.std.proofs.lemmas.List.Sorted.{IsPermutation-sym, IsPermutation-middle}
use Rattle.std.proofs.lemmas.List.Sorted.{IsPermutation-append_right, IsPermutation-map}
use Rattle.std.proofs.lemmas.List.Sorted.{IsPermutation-refl, length_permutation}
use Rattle.calls_core.specs.Lists.{Each, EachFrom}
use Rattle.calls_core.proofs.Lists.{all_from_each, each_append, each_both, each_from_append}
use Rattle.calls_schedule.specs.declared.timed.Timed.{Timed}
use Rattle.calls_schedule.specs.Serving.{due_by, IsDueFirst, IsPreferred, IsServed, AreReleased}
use Rattle.calls_schedule.specs.Serving.{nothing, Entry, entry_cmp, job_of, IsEntry}
use Rattle.calls_schedule.specs.Serving.{IsOpen, IsServing}

pub each_from_all : {X : Type 0} (P : X → Type 0) (xs : List X) → All P xs → Each P xs
each_from_all P [] h = tt
each_from_all P (x ∷ xs) h = (All-head P x xs h, each_from_all P xs (All-tail P x xs h))

pub each_moved : {X : Type 0} (P : X → Type 0) (xs ys : List X) → IsPermutation xs ys → Each P xs
    → Each P ys
each_moved P xs ys moved h =
    each_from_all P ys (All-permutation P xs ys moved (all_from_each P xs h))

-- a job that may not have one of these ranks
pub follows_early : (n rank : ℕ) (given : List Timed) (u : Timed) → rank + length given ≤ u.early
    → EachFrom (λ r t. IsPreferred n r t u) rank given
follows_early n rank [] u le = tt
follows_early n rank (t ∷ ts) u le =
    (inl (omega arith), follows_early n (rank + 1) ts u (omega arith))

-- an entry more
pub entered : (n : ℕ) (list given : List Timed) (next : ℕ) (entries new : List Entry) (due by : ℕ)
    → IsServing n list given next entries → next < length list
    → (get_or list next nothing).early ≤ length given
    → due ≡ due_by n (get_or list next nothing) → by ≡ (get_or list next nothing).job.by
    → IsHeap entry_cmp new
    → (let e : Entry = record { 0 = (due, by, next) } in IsPermutation (e ∷ entries) new)
    → IsServing n list given (next + 1) new
entered n list given next entries new due by s lt early is_due is_by heap moved =
    let e : Entry = record { 0 = (due, by, next) } in
    let t : Timed = get_or list next nothing in
    let fits : IsOpen n list given e = record {
      entry = record { within = lt; due = is_due; by = is_by };
      early = early;
      follows = follows_early n 0 given t (omega (arith, s.rest next (omega arith) lt));
    } in
    let front : IsPermutation (t ∷ (given ++ map (job_of list) entries))
    (given ++ map (job_of list) new) =
    IsPermutation-trans (t ∷ (given ++ map (job_of list) entries))
    (given ++ t ∷ map (job_of list) entries) (given ++ map (job_of list) new)
    (IsPermutation-sym (given ++ t ∷ map (job_of list) entries)
    (t ∷ (given ++ map (job_of list) entries))
    (IsPermutation-middle given t (map (job_of list) entries)))
    (IsPermutation-append_right given (t ∷ map (job_of list) entries) (map (job_of list) new)
    (IsPermutation-map (job_of list) (e ∷ entries) new moved)) in
    record {
      within = omega arith;
      heap = heap;
      opened = each_moved (IsOpen n list given) (e ∷ entries) new moved (fits, s.opened);
      all = subst (λ l. IsPermutation l (given ++ map (job_of list) new))
          (sym (take_more list next nothing lt))
          (IsPermutation-push_more (take next list) (given ++ map (job_of list) entries)
          (given ++ map (job_of list) new) t s.all front);
      rest = λ k le in_list. s.rest k (omega arith) in_list;
      served = s.served;
    }

-- the heap's order, for numbers
not_before : (a b c x y z : ℕ)
    → is_lt (ordering_then (ordering_then (nat_cmp x a) (nat_cmp y b)) (nat_cmp z c)) ≡ false
    → (a < x) ⊎ ((a ≡ x) × (b ≤ y))
not_before a b c x y z h = grind (arith, nat_tests)

first_due : (n : ℕ) (list : List Timed) (x e : Entry) → IsEntry n list x → IsEntry n list e
    → is_lt (entry_cmp x e) ≡ false → IsDueFirst n (job_of list x) (job_of list e)
first_due n list x e p q h =
    elim (not_before x.0.0 x.0.1 x.0.2 e.0.0 e.0.1 e.0.2 h) [
      | inl lt ↦ inl (omega (arith, p.due, q.due))
      | inr same ↦ inr (omega (arith, p.due, q.due, same.0), omega (arith, p.by, q.by, same.1))
    ]

pub upper_each : (x : Entry) (entries : List Entry) → IsUpperBound entry_cmp x entries
    → Each (λ e. is_lt (entry_cmp x e) ≡ false) entries
upper_each x [] h = tt
upper_each x (e ∷ es) h = (h.0, upper_each x es h.1)

pub served_push : (n rank : ℕ) (given : List Timed) (t : Timed) → IsServed n rank given
    → EachFrom (λ r u. IsPreferred n r u t) rank given → t.early ≤ rank + length given
    → IsServed n rank (given ++ t ∷ [])
served_push n rank [] t s f le = (omega arith, tt, tt)
served_push n rank (u ∷ us) t s f le = (
  s.0,
  each_append (IsPreferred n rank u) us (t ∷ []) s.1 (f.0, tt),
  served_push n (rank + 1) us t s.2 f.1 (omega arith),
)

-- the first entry is given the next rank
pub first_served : (n : ℕ) (list given : List Timed) (next : ℕ) (entries : List Entry) (x : Entry)
    (left : List Entry) → IsServing n list given next entries → AreReleased list
    → (next < length list → length given < (get_or list next nothing).early)
    → IsPermutation entries (x ∷ left) → IsHeap entry_cmp left → IsUpperBound entry_cmp x left
    → IsServing n list (given ++ job_of list x ∷ []) next left
first_served n list given next entries x left s released reached moved heap upper =
    let t : Timed = job_of list x in
    let opened = each_moved (IsOpen n list given) entries (x ∷ left) moved s.opened in
    record {
      within = s.within;
      heap = heap;
      opened = each_both (IsOpen n list given) (λ e. is_lt (entry_cmp x e) ≡ false)
          (IsOpen n list (given ++ t ∷ []))
          (λ e o h. record {
            entry = o.entry;
            early = omega (arith, o.early, length-append given (t ∷ []));
            follows = each_from_append (λ r u. IsPreferred n r u (job_of list e)) 0 (length given)
                given (t ∷ []) (omega arith) o.follows
                (inr (first_due n list x e opened.0.entry o.entry h), tt);
          }) left opened.1 (upper_each x left upper);
      all = IsPermutation-pop_more (take next list) given (map (job_of list) entries)
          (map (job_of list) left) t s.all
          (IsPermutation-map (job_of list) entries (x ∷ left) moved);
      rest = λ k le lt. (let later : (get_or list next nothing).early
          ≤ (get_or list k nothing).early = released.rises next k nothing le lt in
          omega (arith, length-append given (t ∷ []), reached (omega arith), later));
      served = served_push n 0 given t s.served opened.0.follows
          (omega (arith, opened.0.early));
    }

-- a job waits if fewer are given ranks than were in the queue
pub waiting_length : (n : ℕ) (list given : List Timed) (next : ℕ) (entries : List Entry)
    → IsServing n list given next entries → next ≡ length given + length entries
waiting_length n list given next entries s = omega (
  arith,
  s.within,
  length-take next list,
  length_permutation (take next list) (given ++ map (job_of list) entries) s.all,
  length-append given (map (job_of list) entries),
  length-map entries (job_of list),
)

-- one always waits
pub some_waiting : (n : ℕ) (list given : List Timed) (next : ℕ) (entries : List Entry)
    → IsServing n list given next entries → AreReleased list → length given < length list
    → (next < length list → length given < (get_or list next nothing).early)
    → length given < next
some_waiting n list given next entries s released lt reached =
    elim (cases_lt next (length list)) [
      | inl within ↦ omega (arith, reached within, released.starts next nothing within)
      | inr le ↦ omega (arith, s.within)
    ]

pub nothing_served : (n : ℕ) (list given : List Timed) (entries : List Entry) → given ≡ []
    → entries ≡ [] → IsHeap entry_cmp entries → IsServing n list given 0 entries
nothing_served n list given entries g e heap =
    let start : IsHeap entry_cmp [] → IsServing n list [] 0 [] = λ h. record {
      within = omega arith;
      heap = h;
      opened = tt;
      all = IsPermutation-refl [];
      rest = λ k le lt. omega arith;
      served = tt;
    } in
    subst (λ l. IsServing n list l 0 entries) (sym g)
    (subst (λ l. IsHeap entry_cmp l → IsServing n list [] 0 l) (sym e) start heap)

pub all_served : (n : ℕ) (list given : List Timed) (next : ℕ) (entries : List Entry)
    → IsServing n list given next entries → length list ≤ length given
    → IsPermutation list given
all_served n list given next [] s le =
    let all : take next list ≡ list = take_all next list
    (omega (arith, waiting_length n list given next [] s)) in
    subst (λ l. IsPermutation l given) all
    (subst (λ l. IsPermutation (take next list) l) (append-nil given) s.all)
all_served n list given next (e ∷ es) s le =
    absurd (omega (arith, s.within, waiting_length n list given next (e ∷ es) s))
