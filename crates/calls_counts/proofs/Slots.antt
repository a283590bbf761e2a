-- The state at a later position, with more calls.
use Rattle.std.proofs.Common.{◌≡◌, ℕ, ◌+◌, ◌<◌, ◌≤◌, inl, inr, Bool, List, [], ◌∷◌, ◌++◌, length}
use Rattle.std.proofs.Common.{Option, Some, None, refl, ap, ◌∙◌, arith, cond, subst, count_by}
use Rattle.std.specs.List.{Contains, cons_option}
use Rattle.std.specs.List.Sorted.{IsPermutation}
use Rattle.std.proofs.lemmas.Option.{IfSome_then}
use Rattle.std.proofs.lemmas.List.Elements.{Contains-append_right, filter_map-append}
use Rattle.std.proofs.lemmas.List.Sorted.{IsPermutation-cons, IsPermutation-trans}
use Rattle.std.proofs.lemmas.List.Sorted.{IsPermutation-sym, IsPermutation-middle}
use Rattle.calls_core.specs.declared.history.Call.{Call}
use Rattle.calls_counts.specs.declared.state.Slot.{Slot}
use Rattle.calls_counts.specs.declared.state.PlacedRead.{PlacedRead}
use Rattle.calls_counts.specs.Faults.{Source, Reached, lies_between, made_between}
use Rattle.calls_core.specs.Lists.{EachFrom}
use Rattle.calls_counts.specs.ScanStates.{free, frees, taken_calls, Fits, Raised, IsSlotAt}
use Rattle.calls_counts.specs.ScanStates.{IsNotedCall, Enough, IsReadAt}
use Rattle.calls_core.proofs.Counting.{one, count_cons, count_append}
use Rattle.calls_core.specs.declared.pending.NotedCall.{NotedCall}

-- WITH MORE CALLS AND A LATER POSITION

module _ (start : ℕ) (more calls : List Call) (t u : ℕ) (le : t ≤ u) where
  pub known_later : (c : Call) → Contains calls c → Contains (more ++ calls) c
  known_later c h = Contains-append_right more calls c h

  pub made_later : (a d : ℕ) → made_between a d calls ≤ made_between a d (more ++ calls)
  made_later a d = omega (arith, count_append (lies_between a d) more calls)

  pub fits_later : (m : ℕ) (c : Call) → Fits t m c → Fits u m c
  fits_later m c h = record {
    op = h.op;
    reply = h.reply;
    first = h.first;
    last = h.last;
    early =
        omega arith;
  }

  pub raised_later : (i m : ℕ) → Raised start calls i m → Raised start (more ++ calls) i m
  raised_later i m r = record {
    call = r.call;
    known = known_later r.call r.known;
    reading =
        r.reading;
    at = r.at;
    beyond = r.beyond;
  }

  pub slot_later : (i : ℕ) (s : Slot) → IsSlotAt start calls t i s
      → IsSlotAt start (more ++ calls) u i s
  slot_later i s h = record {
    early = omega arith;
    fits = IfSome_then s.taken h.fits (fits_later s.moment);
    raised = λ e. raised_later i s.moment (h.raised e);
  }

  source_later : (d from base : ℕ) → Source calls d from base → Source (more ++ calls) d from base
  source_later d from base s = record {
    call = s.call;
    known = known_later s.call s.known;
    reading =
        s.reading;
    before = s.before;
    from_is = s.from_is;
    base_is = s.base_is;
  }

  pub reached_later : (d n : ℕ) → Reached start calls d n → Reached start (more ++ calls) d n
  reached_later d n r = record {
    from = r.from;
    base = r.base;
    source = elim r.source [ inl b ↦ inl b | inr s ↦ inr (source_later d r.from r.base s) ];
    counted = omega (arith, r.counted, made_later r.from d);
  }

  pub pending_later : (ms : List ℕ) (w : NotedCall) → IsNotedCall start calls t ms w
      → IsNotedCall start (more ++ calls) u ms w
  pending_later ms w h = record {
    early = omega arith;
    within = h.within;
    around = h.around;
    reached = reached_later w.call.first (start + w.noted) h.reached;
  }

  pub read_later : (ms : List ℕ) (p : PlacedRead) → IsReadAt start t ms p → IsReadAt start u ms p
  read_later ms p h = record {
    early = h.early;
    returned = omega arith;
    within = h.within;
    reading =
        h.reading;
    gives = h.gives;
    around = h.around;
  }

-- TAKEN SLOTS

pub taken_free : (xs : List Slot) (s : Slot) (ys : List Slot) → s.taken ≡ None
    → taken_calls (xs ++ s ∷ ys) ≡ taken_calls xs ++ taken_calls ys
taken_free xs s ys e = filter_map-append (λ (z : Slot). z.taken) xs (s ∷ ys) ∙ ap (λ o.
    taken_calls xs ++ cons_option o (taken_calls ys)) e

pub taken_some : (xs : List Slot) (m : ℕ) (c : Call) (ys : List Slot)
    → taken_calls (xs ++ record { moment = m; taken = Some c } ∷ ys) ≡ taken_calls xs ++ c
    ∷ taken_calls ys
taken_some xs m c ys = filter_map-append (λ (z : Slot). z.taken) xs (record {
  moment = m;
  taken =
      Some c;
} ∷ ys)

pub moves_into : {X : Type 0} (calls xs ys : List X) (c : X) → IsPermutation calls (xs ++ ys)
    → IsPermutation (c ∷ calls) (xs ++ c ∷ ys)
moves_into calls xs ys c h = IsPermutation-trans (c ∷ calls) (c ∷ (xs ++ ys)) (xs ++ c ∷ ys)
    (IsPermutation-cons c calls (xs ++ ys) h) (IsPermutation-sym (xs ++ c ∷ ys) (c ∷ (xs ++ ys))
    (IsPermutation-middle xs c ys))

pub count_out : {X : Type 0} (p : X → Bool) (xs : List X) (y : X) (ys : List X)
    → count_by p (xs ++ y ∷ ys) ≡ one (p y) + count_by p (xs ++ ys)
count_out p xs y ys = omega (
  arith,
  count_append p xs (y ∷ ys),
  count_append p xs ys,
  count_cons p y
      ys,
)

-- every slot is taken or free
pub slots_counted : (slots : List Slot) → frees slots + length (taken_calls slots) ≡ length slots
slots_counted [] = refl
slots_counted (s ∷ slots) = omega (
  arith,
  count_cons (λ (z : Slot). free z.taken) s slots,
  slots_counted slots,
  counted_one s.taken (taken_calls slots),
)
  where
    counted_one : (o : Option Call) (cs : List Call) → one (free o) + length (cons_option o cs) ≡ 1
        + length cs
    counted_one None cs = omega arith
    counted_one (Some c) cs = omega arith

-- ENOUGH ADVANCES

pub enough_more : (f g : ℕ → ℕ) → ((i : ℕ) → f i ≤ g i) → (n i : ℕ) (slots : List Slot)
    → Enough f n i slots → Enough g n i slots
enough_more f g le n i [] h = tt
enough_more f g le n i (s ∷ slots) h = (
  λ e. (let lt : n < f i = h.0 e in omega (arith, le i)),
  enough_more f g le
      ((cond (free s.taken) 1 0) + n) (i + 1) slots h.1,
)

pub enough_same : (f g : ℕ → ℕ) (n i : ℕ) (slots : List Slot)
    → EachFrom (λ j (s : Slot). s.taken ≡ None → f j ≡ g j) i slots → Enough f n i slots
    → Enough g n i slots
enough_same f g n i [] k h = tt
enough_same f g n i (s ∷ slots) k h = (
  λ e. (let lt : n < f i = h.0 e in let same : f i ≡ g i = k.0 e in omega arith),
  enough_same f g
      ((cond (free s.taken) 1 0) + n) (i + 1) slots k.1 h.1,
)

pub enough_less : (f g : ℕ → ℕ) (m n i : ℕ) (slots : List Slot) → m ≡ n + 1
    → ((j : ℕ) → i ≤ j → f j ≡ g j + 1) → Enough f m i slots → Enough g n i slots
enough_less f g m n i [] e k h = tt
enough_less f g m n i (s ∷ slots) e k h = (
  λ none. (let lt : m < f i = h.0 none in omega (arith, k i (omega arith))),
  enough_less f g ((cond (free s.taken) 1 0) + m) ((cond (free s.taken) 1 0) + n) (i + 1) slots
      (omega arith) (λ j le. k j (omega arith)) h.1,
)

pub enough_left : (f : ℕ → ℕ) (n i : ℕ) (xs ys : List Slot) → Enough f n i (xs ++ ys)
    → Enough f n i xs
enough_left f n i [] ys h = tt
enough_left f n i (s ∷ xs) ys h = (
  h.0,
  enough_left f ((cond (free s.taken) 1 0) + n)
      (i + 1) xs ys h.1,
)

pub enough_right : (f : ℕ → ℕ) (n m i k : ℕ) (xs ys : List Slot) → m ≡ frees xs + n
    → k ≡ i + length xs → Enough f n i (xs ++ ys) → Enough f m k ys
enough_right f n m i k [] ys e l h = (let a : n ≡ m = omega arith in let b : i ≡ k = omega arith in
    subst (λ j. Enough f j k ys) a (subst (λ j. Enough f n j ys) b h))
enough_right f n m i k (s ∷ xs) ys e l h =
    enough_right f ((cond (free s.taken) 1 0) + n) m (i + 1) k xs ys
    (omega (arith, count_cons (λ (z : Slot). free z.taken) s xs)) (omega arith) h.1

pub enough_append : (f : ℕ → ℕ) (n m i k : ℕ) (xs ys : List Slot) → m ≡ frees xs + n
    → k ≡ i + length xs → Enough f n i xs → Enough f m k ys → Enough f n i (xs ++ ys)
enough_append f n m i k [] ys e l h g = (let a : m ≡ n = omega arith in let b : k ≡ i =
    omega arith in subst (λ j. Enough f n j ys) b (subst (λ j. Enough f j k ys) a g))
enough_append f n m i k (s ∷ xs) ys e l h g = (
  h.0,
  enough_append f ((cond (free s.taken) 1 0) + n) m (i + 1) k xs ys
      (omega (arith, count_cons (λ (z : Slot). free z.taken) s xs)) (omega arith) h.1 g,
)
