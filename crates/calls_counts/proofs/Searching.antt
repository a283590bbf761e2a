-- Searches for pending calls and free slots, and counts of invocations.
use Rattle.std.proofs.Common.{◌≡◌, ℕ, zero, suc, ◌+◌, ◌<◌, ◌≤◌, Bool, true, false, not, ◌&&◌}
use Rattle.std.proofs.Common.{nat_le, nat_lt, List, [], ◌∷◌, ◌++◌, length, Option, Some, None}
use Rattle.std.proofs.Common.{refl, ap, sym, ◌∙◌, arith, cond, subst, slice_get, get_or, take, drop}
use Rattle.std.proofs.Common.{set, count_by, drop-cons}
use Rattle.std.specs.List.{filter_map, cons_option}
use Rattle.std.specs.Option.{is_some}
use Rattle.std.proofs.lemmas.Bool.{and_left, and_right, le-leb, lt-leb, ltb-true, ltb-false}
use Rattle.std.proofs.lemmas.List.{take-append-drop, set_split, length-take-le}
use Rattle.std.proofs.lemmas.Option.{slice_get_within, slice_get-get_or, get_or_from_slice_get}
use Rattle.calls_core.specs.declared.history.Call.{Call}
use Rattle.calls_counts.specs.declared.state.Slot.{Slot}
use Rattle.calls_counts.specs.Faults.{is_advance, lies_between, made_between}
use Rattle.calls_counts.specs.ScanStates.{taken_calls}
use Rattle.calls_counts.specs.Scanning.{FreeBelow, NoneFree, IsFirstFree, slot_of_call}
use Rattle.calls_counts.specs.Scanning.{IsFilled, invoked_before, AreInvocations}
use Rattle.calls_core.proofs.Counting.{one, one_yes, one_no, count_cons}
use Rattle.calls_core.proofs.Lists.{each_from_get}

-- FREE SLOTS

pub is_none : (o : Option Call) (b : Bool) → is_some o ≡ not b → b ≡ true → o ≡ None
is_none None b e t = refl
is_none (Some c) b e t = (let no : true ≡ false = e ∙ ap not t in cc)

pub is_not_none : (o : Option Call) (b : Bool) → is_some o ≡ not b → b ≡ false → o ≡ None → ⊥
is_not_none o b e f none = (let no : false ≡ true = ap is_some (sym none) ∙ e ∙ ap not f in cc)

abbrev pub FreeAt : List Slot → ℕ → ℕ → Type 0
FreeAt slots n k = (s : Slot) → slice_get slots k ≡ Some s → FreeBelow n k s

pub first_from : (slots : List Slot) (n k : ℕ) (d : Slot) → k < length slots → n ≤ k
    → (get_or slots k d).taken ≡ None → ((j : ℕ) → j < k → FreeAt slots n j) → IsFirstFree slots n k
first_from slots n k d lt low none h = record {
  slot = get_or slots k d;
  at = slice_get-get_or slots k d lt;
  none = none;
  low = low;
  before = λ j s below at. h j below s at;
}

pub none_free : (slots : List Slot) (n k : ℕ) → length slots ≤ k
    → ((j : ℕ) → j < k → FreeAt slots n j) → NoneFree slots n
none_free slots n k le h =
    each_from_get (FreeBelow n) 0 slots
    (λ j s at. (let lt : j < length slots = slice_get_within slots j s at in
    let same : j ≡ 0 + j = omega arith in
    subst (λ i. FreeBelow n i s) same (h j (omega arith) s at)))

get_front : (slots : List Slot) (k j : ℕ) (s : Slot) → slice_get (take k slots) j ≡ Some s → (j < k)
    × (slice_get slots j ≡ Some s)
get_front [] zero j s h = absurd (cc)
get_front [] (suc k) j s h = absurd (cc)
get_front (z ∷ slots) zero j s h = absurd (cc)
get_front (z ∷ slots) (suc k) zero s h = (omega arith, h)
get_front (z ∷ slots) (suc k) (suc j) s h = (let r = get_front slots k j s h in let lt : j < k =
    r.0 in (omega arith, r.1))

-- a list split at an element
pub parted : {X : Type 0} (xs : List X) (k : ℕ) (x : X) → slice_get xs k ≡ Some x
    → xs ≡ take k xs ++ x ∷ drop (suc k) xs
parted xs k x at =
    let lt : k < length xs = slice_get_within xs k x at in
    sym (take-append-drop k xs) ∙ ap (λ zs. take k xs ++ zs) (drop-cons xs k x lt) ∙ ap (λ z.
    take k xs ++ z ∷ drop (suc k) xs) (get_or_from_slice_get xs k x x at)

pub filled_from : (slots : List Slot) (n k : ℕ) (c : Call) (x : Slot) → x ≡ get_or slots k x
    → IsFirstFree slots n k → IsFilled slots (set slots k (slot_of_call x.moment c)) n c
filled_from slots n k c x read f =
    let lt : k < length slots = slice_get_within slots k f.slot f.at in
    let long : length (take k slots) ≡ k = length-take-le k slots (omega arith) in
    record {
      prefix = take k slots;
      slot = f.slot;
      back = drop (suc k) slots;
      was = parted slots k f.slot f.at;
      is = set_split slots k (slot_of_call x.moment c) lt ∙ ap
          (λ (z : Slot). take k slots ++ slot_of_call z.moment c ∷ drop (suc k) slots)
          (read ∙ get_or_from_slice_get slots k f.slot x f.at);
      none = f.none;
      low = (let low : n ≤ k = f.low in omega arith);
      below = each_from_get (FreeBelow n) 0 (take k slots)
          (λ j s at. (let r = get_front slots k j s at in
          let same : j ≡ 0 + j = omega arith in
          subst (λ i. FreeBelow n i s) same (f.before j s r.0 r.1)));
    }

-- COUNTS

and_yes : (b : Bool) → (b && true) ≡ b
and_yes true = refl
and_yes false = refl

invocation_one : (a d : ℕ) (o : Option Call) (cs : List Call) (fs : List ℕ)
    → count_by (λ f. nat_le a f) fs ≡ made_between a d cs
    → count_by (λ f. nat_le a f) (cons_option (invoked_before d o) fs) ≡ made_between a d
    (cons_option o cs)
invocation_one a d None cs fs h = h
invocation_one a d (Some c) cs fs h = go (is_advance c.op) (nat_lt c.last d) refl refl
  where
    go : (x y : Bool) → is_advance c.op ≡ x → nat_lt c.last d ≡ y
        → count_by (λ f. nat_le a f) (cons_option (invoked_before d (Some c)) fs)
        ≡ made_between a d (c ∷ cs)
    go true true ex ey =
        ap (λ b. count_by (λ f. nat_le a f) (cons_option (cond b (Some c.first) None) fs))
        (ap (λ b. b && nat_lt c.last d) ex ∙ ey)
        ∙ omega (
          arith,
          h,
          count_cons (λ f. nat_le a f) c.first fs,
          count_cons (lies_between a d) c
              cs,
          ap one (ap (λ b. b && (nat_le a c.first && nat_lt c.last d)) ex ∙ ap (λ b.
              nat_le a c.first && b) ey ∙ and_yes (nat_le a c.first)),
        )
    go true false ex ey =
        ap (λ b. count_by (λ f. nat_le a f) (cons_option (cond b (Some c.first) None) fs))
        (ap (λ b. b && nat_lt c.last d) ex ∙ ey)
        ∙ omega (
          arith,
          h,
          count_cons (lies_between a d) c cs,
          one_no (lies_between a d c)
              (and_right (is_advance c.op) (nat_le a c.first && nat_lt c.last d)
              (and_right (nat_le a c.first) (nat_lt c.last d) ey)),
        )
    go false y ex ey =
        ap (λ b. count_by (λ f. nat_le a f) (cons_option (cond b (Some c.first) None) fs))
        (ap (λ b. b && nat_lt c.last d) ex)
        ∙ omega (
          arith,
          h,
          count_cons (lies_between a d) c cs,
          one_no (lies_between a d c)
              (and_left (is_advance c.op) (nat_le a c.first && nat_lt c.last d) ex),
        )

pub are_invocations : (slots : List Slot) (d : ℕ) → AreInvocations slots d
    (filter_map (λ (s : Slot). invoked_before d s.taken) slots)
are_invocations [] d = λ a. refl
are_invocations (s ∷ slots) d = λ a. invocation_one a d s.taken (taken_calls slots)
    (filter_map (λ (z : Slot). invoked_before d z.taken) slots) (are_invocations slots d a)

-- the numbers that are at least a, in ascending order
pub count_behind : (a i : ℕ) (fs : List ℕ) → i ≤ length fs → ((k : ℕ) (d : ℕ) → 0 ≤ k → k < i
    → nat_lt (get_or fs k d) a ≡ true) → ((k : ℕ) (d : ℕ) → i ≤ k → k < length fs
    → nat_lt (get_or fs k d) a ≡ false) → count_by (λ f. nat_le a f) fs + i ≡ length fs
count_behind a zero [] le h k = refl
count_behind a (suc i) [] le h k = absurd (omega arith)
count_behind a zero (f ∷ fs) le h k =
    omega (
      arith,
      count_cons (λ f. nat_le a f) f fs,
      one_yes (nat_le a f)
          (le-leb a f (ltb-false f a (k zero 0 (omega arith) (omega arith)))),
      count_behind a zero fs
          (omega arith) (λ j d low lt. absurd (omega arith)) (λ j d low lt.
          k (suc j) d (omega arith) (omega arith)),
    )
count_behind a (suc i) (f ∷ fs) le h k =
    omega (
      arith,
      count_cons (λ f. nat_le a f) f fs,
      one_no (nat_le a f)
          (lt-leb a f (ltb-true f a (h zero 0 (omega arith) (omega arith)))),
      count_behind a i fs
          (omega arith) (λ j d low lt. h (suc j) d (omega arith) (omega arith)) (λ j d low lt.
          k (suc j) d (omega arith) (omega arith)),
    )
