-- Turns of putting items in, taken by produces.
use Rattle.std.proofs.Common.{◌≡◌, ℕ, zero, suc, ◌+◌, ◌-◌, ◌<◌, ◌≤◌, ◌⊎◌, inl, inr, Bool, true}
use Rattle.std.proofs.Common.{false, cond, nat_lt, Option, Some, None, List, [], ◌∷◌, ◌++◌, length}
use Rattle.std.proofs.Common.{drop, get_or, refl, ap, sym, ◌∙◌, subst, arith, slice_get, reverse}
use Rattle.std.proofs.Common.{length-append, append_assoc, add-one}
use Rattle.std.proofs.Math.Seq.{drop-cons}
use Rattle.std.specs.List.{Contains}
use Rattle.std.specs.List.Sorted.{IsPermutation}
use Rattle.std.proofs.lemmas.Bool.{cases_lt, le-leb, ltb-true, lt-ltb}
use Rattle.std.proofs.lemmas.Option.{slice_get_within, get_or_from_slice_get, same_Some}
use Rattle.std.proofs.lemmas.Option.{none-some}
use Rattle.std.proofs.lemmas.List.{get_or_append_left, get_or_past}
use Rattle.std.proofs.lemmas.List.Elements.{Contains-append_left, Contains-append_right}
use Rattle.std.proofs.lemmas.List.Elements.{Contains-append_cases}
use Rattle.std.proofs.lemmas.List.Sorted.{Contains-permutation, IsPermutation-refl}
use Rattle.std.proofs.lemmas.List.Sorted.{IsPermutation-sym, length_permutation}
use Rattle.calls_core.specs.declared.history.Kind.TheVariants.{Buffer}
use Rattle.calls_core.specs.declared.history.Op.TheVariants.{Produce, Consume}
use Rattle.calls_core.specs.declared.history.Reply.TheVariants.{Number}
use Rattle.calls_core.specs.declared.history.PendingCall.{PendingCall}
use Rattle.calls_core.specs.declared.history.Call.{Call}
use Rattle.calls_core.specs.Lists.{Each, EachPair}
use Rattle.calls_core.specs.Calls.{Earlier, AreCallsOf}
use Rattle.calls_core.proofs.Lists.{each_weaker, each_append, each_left, each_pair_append}
use Rattle.calls_core.proofs.Lists.{each_pair_left, all_from_each, all_pairs_from_each}
use Rattle.calls_turns.specs.declared.turn.Turn.{Turn}
use Rattle.calls_turns.specs.declared.turn.Taker.{Taker}
use Rattle.calls_turns.specs.declared.turn.Step.{Step}
use Rattle.calls_turns.specs.declared.turn.Clash.{Clash}
use Rattle.calls_turns.specs.Turns.{MayTake, AreTakenBy, IsTaking}
use Rattle.calls_turns.specs.Steps.{Refute}
use Rattle.calls_buffers.specs.declared.accesses.Access.{Access}
use Rattle.calls_buffers.specs.declared.windows.Window.{Window}
use Rattle.calls_buffers.specs.declared.fault.Flow.TheVariants.{In}
use Rattle.calls_buffers.specs.Counts.{is_consume}
use Rattle.calls_buffers.specs.Faults.{FromOutrun}
use Rattle.calls_buffers.specs.Jobs.{IsProduceOf, IsConsumeOf}
use Rattle.calls_buffers.specs.Turns.{puts_of, takes_of, AreApart, takers_of, asking, asking_of}
use Rattle.calls_buffers.specs.Turns.{absent, first_before, putting_turns, spare_turns, turns_in}
use Rattle.calls_buffers.specs.Turns.{AreFewOrApart}
use Rattle.calls_buffers.specs.Accesses.{put_item, taken_item, produced_item}
use Rattle.calls_buffers.specs.Accesses.{accesses, asked_of, asked, AreWithin}
use Rattle.calls_buffers.specs.kept.Pairs.{with_take, without_take, window_of}
use Rattle.calls_buffers.specs.kept.Windows.{in_by, out_from, MayPrecede, HaveRoom}
use Rattle.calls_buffers.specs.kept.Windows.{IsCompletedTake}
use Rattle.calls_buffers.specs.kept.Spans.{AreInvokedApart, HasPut, HasTake}
use Rattle.calls_buffers.specs.kept.Settling.{IsPendingTake, IsGiven, AreGiven}
use Rattle.calls_buffers.specs.kept.Puttings.{put_window, put_windows}
use Rattle.calls_buffers.proofs.Alongside.{each_moved}
use Rattle.calls_buffers.proofs.Asking.{consumes}
use Rattle.calls_buffers.proofs.AreWindows.{access_known, taken_is, each_contains, one_of}
use Rattle.calls_buffers.proofs.JobsOf.{within_calls}
use Rattle.calls_buffers.proofs.Takings.{Differ, differ_moved, each_access, accesses_differ}
use Rattle.calls_buffers.proofs.Takings.{takers_differ, access_at, taker_for, none, a_put}

-- ELEMENTS AND THEIR NUMBERS, WHICH RISE

-- P holds of each element and a number, which is k or greater for the first
abbrev EachRising : {X : Type 0} → (ℕ → X → Type 0) → ℕ → List X → Type 0
EachRising P k [] = Unit {0}
EachRising P k (x ∷ xs) = (i : ℕ) × (k ≤ i) × P i x × EachRising P (i + 1) xs

rising_from : {X : Type 0} (P : ℕ → X → Type 0) (j k : ℕ) (xs : List X) → j ≤ k
    → EachRising P k xs → EachRising P j xs
rising_from P j k [] le h = tt
rising_from P j k (x ∷ xs) le h = (h.0, omega (arith, le, h.1), h.2, h.3)

rising_later : {X : Type 0} (P : ℕ → X → Type 0) (Q : X → Type 0) (m : ℕ)
    → ((k : ℕ) (y : X) → m ≤ k → P k y → Q y) → (k : ℕ) (ys : List X) → m ≤ k → EachRising P k ys
    → Each Q ys
rising_later P Q m f k [] le h = tt
rising_later P Q m f k (y ∷ ys) le h = (
  f h.0 y (omega (arith, le, h.1)) h.2,
  rising_later P Q m f (h.0 + 1) ys (omega (arith, le, h.1)) h.3,
)

rising_dropped : {X : Type 0} (P : ℕ → X → Type 0) (Q : X → Type 0) (n i : ℕ)
    → ((k : ℕ) (y : X) → i + n ≤ k → P k y → Q y) → (ys : List X) → EachRising P i ys
    → Each Q (drop n ys)
rising_dropped P Q zero i f ys h =
    rising_later P Q i (λ k y le p. f k y (omega (arith, le)) p) i ys (omega arith) h
rising_dropped P Q (suc n) i f [] h = tt
rising_dropped P Q (suc n) i f (y ∷ ys) h =
    rising_dropped P Q n (h.0 + 1) (λ k z le p. f k z (omega (arith, le, h.1)) p) ys h.3

rising_pairs : {X : Type 0} (P : ℕ → X → Type 0) (R : X → X → Type 0)
    → ((i k : ℕ) (x y : X) → i < k → P i x → P k y → R x y) → (i : ℕ) (xs : List X)
    → EachRising P i xs → EachPair R xs
rising_pairs P R f i [] h = tt
rising_pairs P R f i (x ∷ xs) h = (
  rising_later P (R x) (h.0 + 1) (λ k y le p. f h.0 k x y (omega (arith, le)) h.2 p) (h.0 + 1) xs
      (omega arith) h.3,
  rising_pairs P R f (h.0 + 1) xs h.3,
)

rising_room : (n : ℕ) (P : ℕ → Window → Type 0)
    → ((i k : ℕ) (x y : Window) → i + n ≤ k → P i x → P k y → out_from x ≤ in_by y) → (i : ℕ)
    (ws : List Window) → EachRising P i ws → HaveRoom n ws
rising_room n P f i [] h = tt
rising_room n P f i (x ∷ ws) h = (
  rising_dropped P (λ (y : Window). out_from x ≤ in_by y) n h.0
      (λ k y le p. f h.0 k x y le h.2 p) (x ∷ ws) (h.0, omega arith, h.2, h.3),
  rising_room n P f (h.0 + 1) ws h.3,
)

past : {X : Type 0} (xs : List X) (k : ℕ) → slice_get xs k ≡ None → length xs ≤ k
past [] k e = omega arith
past (x ∷ xs) zero e = absurd (none-some x (sym e))
past (x ∷ xs) (suc k) e = (let le = past xs k e in omega arith)

-- TAKERS

abbrev no_taker : Taker
no_taker = record { call = 0; item = None; from = 0; by = 0 }

-- this taker is one of the accesses
record IsTakerOf (list : List Access) (x : Taker) : Type 0 where
  access : Access
  at : slice_get list x.call ≡ Some access
  item : x.item ≡ Some access.item
  first : access.first ≡ x.from
  last : access.last ≡ x.by

takers_are : (all : List Access) (i : ℕ) (list : List Access)
    → ((k : ℕ) → slice_get list k ≡ slice_get all (i + k)) → Each (IsTakerOf all) (takers_of i list)
takers_are all i [] h = tt
takers_are all i (a ∷ list) h = (
  record {
    access = a;
    at = (let same : i + 0 ≡ i = omega arith in sym (h zero ∙ ap (slice_get all) same));
    item = refl;
    first = refl;
    last = refl;
  },
  takers_are all (i + 1) list (λ k. (let same : i + suc k ≡ i + 1 + k = omega arith in
      h (suc k) ∙ ap (slice_get all) same)),
)

as_many : (i : ℕ) (list : List Access) → length (takers_of i list) ≡ length list
as_many i [] = refl
as_many i (a ∷ list) = omega (arith, as_many (i + 1) list)

-- THEY WERE INVOKED AT DIFFERENT POSITIONS

each_asked : (P : ℕ → Type 0) (end i : ℕ) (os : List PendingCall)
    → Each (λ (o : PendingCall). P o.first) os
    → Each (λ (a : Access). P a.first) (asked end i os)
each_asked P end i [] h = tt
each_asked P end i (o ∷ os) h =
    each_append (λ (a : Access). P a.first) (asked_of end i o (produced_item o.op))
    (asked end (i + 1) os) (own (produced_item o.op)) (each_asked P end (i + 1) os h.1)
  where
    own : (p : Option ℕ) → Each (λ (a : Access). P a.first) (asked_of end i o p)
    own None = tt
    own (Some v) = (h.0, tt)

asked_differ : (end i : ℕ) (os : List PendingCall) → EachPair Earlier os
    → Differ (λ (a : Access). a.first) (asked end i os)
asked_differ end i [] h = tt
asked_differ end i (o ∷ os) h =
    each_pair_append (λ (a b : Access). a.first ≡ b.first → ⊥)
    (asked_of end i o (produced_item o.op)) (asked end (i + 1) os) (alone (produced_item o.op))
    (asked_differ end (i + 1) os h.1) (across (produced_item o.op))
  where
    alone : (p : Option ℕ) → EachPair (λ (a b : Access). a.first ≡ b.first → ⊥) (asked_of end i o p)
    alone None = tt
    alone (Some v) = (tt, tt)

    others : Each (λ (q : PendingCall). o.first ≡ q.first → ⊥) os
    others = each_weaker (Earlier o) (λ (q : PendingCall). o.first ≡ q.first → ⊥)
        (λ q lt e. omega (arith, lt, e)) os h.0

    across : (p : Option ℕ) → Each (λ (a : Access). Each (λ (b : Access). a.first ≡ b.first → ⊥)
        (asked end (i + 1) os)) (asked_of end i o p)
    across None = tt
    across (Some v) = (each_asked (λ m. o.first ≡ m → ⊥) end (i + 1) os others, tt)

puts_differ : (end : ℕ) (done : List Call) (pending : List PendingCall)
    → AreInvokedApart done pending → EachPair Earlier pending
    → Differ (λ (a : Access). a.first) (puts_of end done pending)
puts_differ end done pending apart rises =
    each_pair_append (λ (a b : Access). a.first ≡ b.first → ⊥) (accesses put_item 0 done)
    (asked end 0 pending) (accesses_differ put_item 0 done apart.completed)
    (asked_differ end 0 pending rises)
    (each_access (λ m. Each (λ (b : Access). m ≡ b.first → ⊥) (asked end 0 pending)) put_item 0 done
    (each_weaker (λ (c : Call). Each (λ (o : PendingCall). c.first ≡ o.first → ⊥) pending)
    (λ (c : Call). Each (λ (b : Access). c.first ≡ b.first → ⊥) (asked end 0 pending))
    (λ c h. each_asked (λ m. c.first ≡ m → ⊥) end 0 pending h) done apart.across))

-- CONSUMES

first_before_is : (n end : ℕ) (all : List Access) (k : ℕ) → n ≤ k
    → first_before n end all k ≡ (get_or all (k - n) (absent end)).first
first_before_is n end all k le =
    ap (λ b. cond b (get_or all (k - n) (absent end)).first 0) (le-leb n k le)

-- a pending one
record IsAsking (end : ℕ) (pending : List PendingCall) (a : Access) : Type 0 where
  call : PendingCall
  known : Contains pending call
  asks : call.op ≡ Consume
  first : call.first ≡ a.first
  last : a.last ≡ end

are_asking : (end : ℕ) (pending : List PendingCall) (i : ℕ) (os : List PendingCall)
    → Each (Contains pending) os → Each (IsAsking end pending) (asking end i os)
are_asking end pending i [] h = tt
are_asking end pending i (o ∷ os) h =
    each_append (IsAsking end pending) (asking_of end i o (is_consume o.op)) (asking end (i + 1) os)
    (own (is_consume o.op) refl) (are_asking end pending (i + 1) os h.1)
  where
    own : (b : Bool) → is_consume o.op ≡ b → Each (IsAsking end pending) (asking_of end i o b)
    own false e = tt
    own true e = (
      record {
        call = o;
        known = h.0;
        asks = consumes o.op e;
        first = refl;
        last = refl;
      },
      tt,
    )

-- a completed one
record IsTakeOf (done : List Call) (end : ℕ) (a : Access) : Type 0 where
  is : (w : Window) → w.item ≡ a.item → w.take_first ≡ a.first → w.take_last ≡ a.last
      → IsCompletedTake done w
  lasts : a.first < a.last
  early : a.last < end

a_take : (end : ℕ) (done : List Call) (pending : List PendingCall) → AreWithin end done pending
    → (a : Access) → Contains (takes_of done) a → IsTakeOf done end a
a_take end done pending within a h =
    let r = access_known taken_item 0 done a h in
    let known : Contains done r.call = (r.index, r.within, r.at r.call) in
    let is = taken_is a.item r.call.op r.call.reply r.is in
    let times = one_of (λ (c : Call). (c.first < c.last) × (c.last < end)) done r.call
    within.completed known in
    record {
      is = λ w item first last. record {
        call = r.call;
        consume = record {
          known = known;
          asks = is.0;
          returns = is.1 ∙ ap Number (sym item);
        };
        first = r.first ∙ sym first;
        last = r.last ∙ sym last;
      };
      lasts = omega (arith, times.0, r.first, r.last);
      early = omega (arith, times.1, r.last);
    }

-- what begins before the end and lasts until then at most
record IsWhole (end : ℕ) (a : Access) : Type 0 where
  lasts : a.first ≤ a.last
  begun : a.first < end
  ends : a.last ≤ end

-- THE WINDOWS

module _ (n end : ℕ) (done : List Call) (pending : List PendingCall) (takes : List Access)
    (order : List Taker) (moment : ℕ → ℕ) (within : AreWithin end done pending)
    (are_takes : Each (IsTakeOf done end) takes) where
  abbrev puts : List Access
  puts = puts_of end done pending

  abbrev others : List Access
  others = asking end 0 pending

  abbrev all : List Access
  all = takes ++ others

  -- the consume of turn k
  abbrev consume : ℕ → Access
  consume k = get_or all k (absent end)

  are_others : Each (IsAsking end pending) others
  are_others = are_asking end pending 0 pending
      (each_contains (Contains pending) pending (λ o k. k))

  whole : Each (IsWhole end) all
  whole = each_append (IsWhole end) takes others
      (each_weaker (IsTakeOf done end) (IsWhole end) (λ a h. record {
        lasts = omega (arith, h.lasts);
        begun = omega (arith, h.lasts, h.early);
        ends = omega (arith, h.early);
      }) takes are_takes)
      (each_weaker (IsAsking end pending) (IsWhole end) (λ a h.
      let early = one_of (λ (o : PendingCall). o.first < end) pending h.call within.invoked
      h.known in
      record {
        lasts = omega (arith, early, h.first, h.last);
        begun = omega (arith, early, h.first);
        ends = omega (arith, h.last);
      }) others are_others)

  whole_at : (k : ℕ) → k < length all → IsWhole end (consume k)
  whole_at k lt = all_from_each (IsWhole end) all whole k (absent end) lt

  -- the window of the produce that takes turn k
  record IsRow (k : ℕ) (w : Window) : Type 0 where
    given : IsGiven done pending end w
    put : w.put_first ≤ moment k
    put_by : moment k ≤ w.put_last
    take_by : moment k ≤ w.take_last
    room : first_before n end all k ≤ moment k
    taker_within : k < length order
    taker : (get_or order k no_taker).from ≡ w.put_first
    take_first : w.take_first ≡ (consume k).first
    take_last : w.take_last ≡ (consume k).last

  -- with a consume
  row_with : (k : ℕ) (t : Turn) (x : Taker) (a : Access) → slice_get all k ≡ Some a
      → get_or order k no_taker ≡ x → k < length order → first_before n end all k ≡ t.from
      → moment k ≤ a.last → (own : IsTakerOf puts x)
      → IsCompletedTake done (with_take own.access a)
      ⊎ IsPendingTake pending end (with_take own.access a)
      → MayTake (moment k) t x → IsRow k (with_take own.access a)
  row_with k t x a at xat lt from by own take m =
      let p = own.access in
      let put = a_put end done pending within p (
        x.call,
        slice_get_within puts x.call p own.at,
        get_or_from_slice_get puts x.call p p own.at,
      ) in
      let is : consume k ≡ a = get_or_from_slice_get all k a (absent end) at in
      record {
        given = record {
          put = put.put (with_take p a) refl refl refl;
          take = elim take [ inl h ↦ inl h | inr h ↦ inr (inl h) ];
          first = put.begun;
          follows = omega (arith, own.first, m.from, by);
        };
        put = omega (arith, own.first, m.from);
        put_by = omega (arith, own.last, m.by);
        take_by = by;
        room = omega (arith, from, m.turn_from);
        taker_within = lt;
        taker = ap (λ (y : Taker). y.from) xat ∙ sym own.first;
        take_first = ap (λ (b : Access). b.first) (sym is);
        take_last = ap (λ (b : Access). b.last) (sym is);
      }

  -- and with none
  row_without : (k : ℕ) (t : Turn) (x : Taker) → length all ≤ k → get_or order k no_taker ≡ x
      → k < length order → first_before n end all k ≡ t.from → t.by ≡ end
      → (own : IsTakerOf puts x) → own.access.last < end → MayTake (moment k) t x
      → IsRow k (without_take end own.access)
  row_without k t x past xat lt from by own early m =
      let p = own.access in
      let put = a_put end done pending within p (
        x.call,
        slice_get_within puts x.call p own.at,
        get_or_from_slice_get puts x.call p p own.at,
      ) in
      let is : consume k ≡ absent end = get_or_past all k (absent end) past in
      record {
        given = record {
          put = put.put (without_take end p) refl refl refl;
          take = inr (inr (record { first = refl; last = refl; put = early }));
          first = put.begun;
          follows = omega (arith, put.begun);
        };
        put = omega (arith, own.first, m.from);
        put_by = omega (arith, own.last, m.by);
        take_by = omega (arith, by, m.turn_by);
        room = omega (arith, from, m.turn_from);
        taker_within = lt;
        taker = ap (λ (y : Taker). y.from) xat ∙ sym own.first;
        take_first = ap (λ (b : Access). b.first) (sym is);
        take_last = ap (λ (b : Access). b.last) (sym is);
      }

  -- a pending produce whose item nobody takes has no window
  left_over : (k : ℕ) (p : Access) (more : List Window)
      → (p.last < end → IsRow k (without_take end p)) → EachRising IsRow (k + 1) more
      → EachRising IsRow k (window_of end p None ++ more)
  left_over k p more f h =
      elim (nat_lt p.last end) as (λ b. nat_lt p.last end ≡ b
      → EachRising IsRow k (cond b (without_take end p ∷ []) [] ++ more)) [
        | true ↦ λ q. (k, omega arith, f (ltb-true p.last end q), h)
        | false ↦ λ q. rising_from IsRow k (k + 1) more (omega arith) h
      ] refl

  abbrev turns_left : ℕ → ℕ → List Access → ℕ → List Turn
  turns_left k b ts left = putting_turns n end all k ts ++ spare_turns n end all b left

  -- these elements of a list come from number k on
  abbrev From : {X : Type 0} → List X → ℕ → List X → Type 0
  From list k part = (j : ℕ) → slice_get part j ≡ slice_get list (k + j)

  from_next : {X : Type 0} (list : List X) (k : ℕ) (x : X) (part : List X) → From list k (x ∷ part)
      → From list (k + 1) part
  from_next list k x part h = λ j. (let next : k + suc j ≡ k + 1 + j = omega arith in
      h (suc j) ∙ ap (slice_get list) next)

  from_none : {X : Type 0} (list : List X) (k : ℕ) → From list k [] → From list (k + 1) []
  from_none list k h = λ j. (let next : k + suc j ≡ k + 1 + j = omega arith in
      h (suc j) ∙ ap (slice_get list) next)

  from_first : {X : Type 0} (list : List X) (k : ℕ) (part : List X) → From list k part
      → slice_get list k ≡ slice_get part 0
  from_first list k part h = (let same : k ≡ k + 0 = omega arith in
      ap (slice_get list) same ∙ sym (h 0))

  next_window : (k : ℕ) (x : Taker) (xs : List Taker) (own : IsTakerOf puts x) (o : Option Access)
      → slice_get all k ≡ o → put_windows end puts all k (x ∷ xs)
      ≡ window_of end own.access o ++ put_windows end puts all (k + 1) xs
  next_window k x xs own o at =
      let more = put_windows end puts all (k + 1) xs in
      ap (λ q. put_window end q (slice_get all k) ++ more) own.at
      ∙ ap (λ q. window_of end own.access q ++ more) at

  rows : (k b left : ℕ) (ts rs : List Access) (xs : List Taker) → From all k (ts ++ rs)
      → Each (IsTakeOf done end) ts → Each (IsAsking end pending) rs → b ≡ k + length ts
      → From order k xs → Each (IsTakerOf puts) xs
      → AreTakenBy moment end k (turns_left k b ts left) xs
      → EachRising IsRow k (put_windows end puts all k xs)
  rows k b left ts rs [] at known asks base xat own taken = tt
  rows k b zero [] rs (x ∷ xs) at known asks base xat own taken = absurd taken
  rows k b (suc left) [] [] (x ∷ xs) at known asks base xat own taken =
      let o : slice_get all k ≡ None = from_first all k [] at in
      let y : slice_get order k ≡ Some x = from_first order k (x ∷ xs) xat in
      let turn : Turn = record { item = None; from = first_before n end all b; by = end } in
      let same : k ≡ b = omega (arith, base) in
      subst (EachRising IsRow k) (sym (next_window k x xs own.0 None o))
      (left_over k own.0.access (put_windows end puts all (k + 1) xs)
      (λ early. row_without k turn x (past all k o)
      (get_or_from_slice_get order k x no_taker y) (slice_get_within order k x y)
      (ap (first_before n end all) same) refl own.0 early taken.0)
      (rows (k + 1) (b + 1) left [] [] xs (from_none all k at) tt tt (omega (arith, base))
      (from_next order k x xs xat) own.1 taken.1))
  rows k b (suc left) [] (a ∷ rs) (x ∷ xs) at known asks base xat own taken =
      let o : slice_get all k ≡ Some a = from_first all k (a ∷ rs) at in
      let y : slice_get order k ≡ Some x = from_first order k (x ∷ xs) xat in
      let turn : Turn = record { item = None; from = first_before n end all b; by = end } in
      let same : k ≡ b = omega (arith, base) in
      let by : moment k ≤ end = taken.0.turn_by in
      let take : IsPendingTake pending end (with_take own.0.access a) = record {
        call = asks.0.call;
        known = asks.0.known;
        asks = asks.0.asks;
        first = asks.0.first;
        last = asks.0.last;
      } in
      subst (EachRising IsRow k) (sym (next_window k x xs own.0 (Some a) o)) (
        k,
        omega arith,
        row_with k turn x a o (get_or_from_slice_get order k x no_taker y)
            (slice_get_within order k x y) (ap (first_before n end all) same)
            (omega (arith, by, asks.0.last)) own.0 (inr take) taken.0,
        rows (k + 1) (b + 1) left [] rs xs (from_next all k a rs at) tt asks.1
            (omega (arith, base)) (from_next order k x xs xat) own.1 taken.1,
      )
  rows k b left (a ∷ ts) rs (x ∷ xs) at known asks base xat own taken =
      let o : slice_get all k ≡ Some a = from_first all k (a ∷ (ts ++ rs)) at in
      let y : slice_get order k ≡ Some x = from_first order k (x ∷ xs) xat in
      let turn : Turn =
      record { item = Some a.item; from = first_before n end all k; by = a.last } in
      let p = own.0.access in
      let by : moment k ≤ a.last = taken.0.turn_by in
      let take : IsCompletedTake done (with_take p a) = known.0.is (with_take p a)
      (taken.0.item p.item a.item own.0.item refl) refl refl in
      subst (EachRising IsRow k) (sym (next_window k x xs own.0 (Some a) o)) (
        k,
        omega arith,
        row_with k turn x a o (get_or_from_slice_get order k x no_taker y)
            (slice_get_within order k x y) refl by own.0 (inl take) taken.0,
        rows (k + 1) b left ts rs xs (from_next all k a (ts ++ rs) at) known.1 asks
            (omega (arith, base)) (from_next order k x xs xat) own.1 taken.1,
      )

  -- EACH CALL HAS ITS WINDOW

  own_put : (p : Access) (o : Option Access) (more : List Window) → p.last < end
      → HasPut (window_of end p o ++ more) p.item p.first
  own_put p (Some t) more lt =
      record { window = with_take p t; known = (zero, omega arith, refl); is = refl; at = refl }
  own_put p None more lt =
      subst (λ b. HasPut (cond b (without_take end p ∷ []) [] ++ more) p.item p.first)
      (sym (lt-ltb p.last end lt)) (record {
        window = without_take end p;
        known = (zero, omega arith, refl);
        is = refl;
        at = refl;
      })

  has_put : (k : ℕ) (xs : List Taker) → Each (IsTakerOf puts) xs → (x : Taker) (v : ℕ)
      → x.item ≡ Some v → x.by < end → Contains xs x
      → HasPut (put_windows end puts all k xs) v x.from
  has_put k [] own x v is early h = absurd (none x h)
  has_put k (y ∷ xs) own x v is early (zero, lt, e) =
      let r = own_put own.0.access (slice_get all k) (put_windows end puts all (k + 1) xs)
      (omega (arith, own.0.last, ap (λ (z : Taker). z.by) e, early)) in
      subst (λ ws. HasPut ws v x.from) (sym (next_window k y xs own.0 (slice_get all k) refl))
      (record {
        window = r.window;
        known = r.known;
        is = r.is ∙ same_Some own.0.access.item v
            (sym own.0.item ∙ ap (λ (z : Taker). z.item) e ∙ is);
        at = r.at ∙ own.0.first ∙ ap (λ (z : Taker). z.from) e;
      })
  has_put k (y ∷ xs) own x v is early (suc j, lt, e) =
      let r = has_put (k + 1) xs own.1 x v is early
      (j, (let l : j < length xs = omega arith in l), e) in
      record {
        window = r.window;
        known = Contains-append_right (put_window end (slice_get puts y.call) (slice_get all k))
            (put_windows end puts all (k + 1) xs) r.window r.known;
        is = r.is;
        at = r.at;
      }

  has_take : (k b left : ℕ) (ts rs : List Access) (xs : List Taker) → From all k (ts ++ rs)
      → Each (IsTakeOf done end) ts → Each (IsTakerOf puts) xs
      → AreTakenBy moment end k (turns_left k b ts left) xs → (t : Access) → Contains ts t
      → HasTake (put_windows end puts all k xs) t.item t.first
  has_take k b left [] rs xs at known own taken t h = absurd (none t h)
  has_take k b left (a ∷ ts) rs [] at known own taken t h =
      absurd (omega (arith, taken.0, known.0.early))
  has_take k b left (a ∷ ts) rs (x ∷ xs) at known own taken t (zero, lt, e) =
      let o : slice_get all k ≡ Some a = from_first all k (a ∷ (ts ++ rs)) at in
      let p = own.0.access in
      subst (λ ws. HasTake ws t.item t.first) (sym (next_window k x xs own.0 (Some a) o)) (record {
        window = with_take p a;
        known = (zero, omega arith, refl);
        is = taken.0.item p.item a.item own.0.item refl ∙ ap (λ (z : Access). z.item) e;
        at = ap (λ (z : Access). z.first) e;
      })
  has_take k b left (a ∷ ts) rs (x ∷ xs) at known own taken t (suc j, lt, e) =
      let r = has_take (k + 1) b left ts rs xs (from_next all k a (ts ++ rs) at) known.1 own.1
      taken.1 t (j, (let l : j < length ts = omega arith in l), e) in
      record {
        window = r.window;
        known = Contains-append_right (put_window end (slice_get puts x.call) (slice_get all k))
            (put_windows end puts all (k + 1) xs) r.window r.known;
        is = r.is;
        at = r.at;
      }

  -- RANKS

  module _ (rises : (i k : ℕ) → i ≤ k → k < length order → moment i ≤ moment k)
      (apart : (i k : ℕ) → i < k → k < length order → k < length all
      → (consume i).last < (consume k).first)
      (distinct : Differ (λ (x : Taker). x.from) order) where
    -- consumes are invoked in their order, and what does not happen is at the end
    ascend : (i k : ℕ) → i ≤ k → k < length order → (consume i).first ≤ (consume k).first
    ascend i k le lt =
        elim (cases_lt k (length all)) [
          | inr out ↦ (let is = get_or_past all k (absent end) out in
              elim (cases_lt i (length all)) [
                | inl here ↦ omega (
                  arith,
                  (whole_at i here).begun,
                  ap (λ (a : Access). a.first) is,
                )
                | inr there ↦ omega (
                  arith,
                  ap (λ (a : Access). a.first) (get_or_past all i (absent end) there),
                  ap (λ (a : Access). a.first) is,
                )
              ])
          | inl here ↦ elim (cases_lt i k) [
            | inl less ↦ omega (
              arith,
              apart i k less lt here,
              (whole_at i (omega (arith, less, here))).lasts,
            )
            | inr ge ↦ (let same : i ≡ k = omega (arith, le, ge) in
                let e = ap (λ j. (consume j).first) same in omega (arith, e))
          ]
        ]

    -- each returns no earlier than the one before it was invoked
    in_order : (i k : ℕ) → i ≤ k → k < length order → (consume i).first ≤ (consume k).last
    in_order i k le lt =
        let up = ascend i k le lt in
        elim (cases_lt k (length all)) [
          | inl here ↦ omega (arith, up, (whole_at k here).lasts)
          | inr past ↦ (let is = get_or_past all k (absent end) past in omega (
            arith,
            up,
            ap (λ (a : Access). a.first) is,
            ap (λ (a : Access). a.last) is,
          ))
        ]

    may_precede : (i k : ℕ) (x y : Window) → i < k → IsRow i x → IsRow k y → MayPrecede x y
    may_precede i k x y lt r s =
        let up = rises i k (omega (arith, lt)) s.taker_within in
        let next = in_order i k (omega (arith, lt)) s.taker_within in
        record {
          put = omega (arith, up, r.put, s.put_by, s.take_by);
          take = omega (arith, up, next, r.put, s.take_by, r.take_first, s.take_last);
        }

    room_row : (i k : ℕ) (x y : Window) → i + n ≤ k → IsRow i x → IsRow k y
        → out_from x ≤ in_by y
    room_row i k x y le r s =
        let up = rises i k (omega (arith, le)) s.taker_within in
        let before = first_before_is n end all k (omega (arith, le)) in
        let next = ascend i (k - n) (omega (arith, le)) (omega (arith, s.taker_within)) in
        omega (
          arith,
          up,
          before,
          next,
          r.put,
          r.take_first,
          s.room,
          s.put_by,
          s.take_by,
        )

    puts_row : (i k : ℕ) (x y : Window) → i < k → IsRow i x → IsRow k y
        → x.put_first ≡ y.put_first → ⊥
    puts_row i k x y lt r s e =
        all_pairs_from_each (λ (a b : Taker). a.from ≡ b.from → ⊥) order distinct i k no_taker lt
        s.taker_within (r.taker ∙ e ∙ sym s.taker)

    kept_row : (i k : ℕ) (x y : Window) → i < k → IsRow i x → IsRow k y → x.take_first ≡ end
        → y.take_first ≡ end
    kept_row i k x y lt r s e =
        elim (cases_lt k (length all)) [
          | inl here ↦ absurd (omega (
            arith,
            (whole_at i (omega (arith, lt, here))).begun,
            r.take_first,
            e,
          ))
          | inr past ↦ s.take_first
              ∙ ap (λ (a : Access). a.first) (get_or_past all k (absent end) past)
        ]

    takes_row : (i k : ℕ) (x y : Window) → i < k → IsRow i x → IsRow k y
        → x.take_first ≡ y.take_first → x.take_first ≡ end
    takes_row i k x y lt r s e =
        elim (cases_lt k (length all)) [
          | inl here ↦ absurd (omega (
            arith,
            apart i k lt s.taker_within here,
            (whole_at i (omega (arith, lt, here))).lasts,
            r.take_first,
            s.take_first,
            e,
          ))
          | inr past ↦ e ∙ s.take_first
              ∙ ap (λ (a : Access). a.first) (get_or_past all k (absent end) past)
        ]

-- CALLS

module _ (n end : ℕ) (done : List Call) (pending : List PendingCall) (takes : List Access)
    (order : List Taker) (calls : AreCallsOf (Buffer n) done pending end)
    (invoked : AreInvokedApart done pending) (moved : IsPermutation (takes_of done) takes)
    (apart : AreApart takes)
    (rest : AreFewOrApart (length (puts_of end done pending)) takes (asking end 0 pending))
    (h : IsTaking end
    (turns_in n end takes (takes ++ asking end 0 pending) (length (puts_of end done pending)))
    (takers_of 0 (puts_of end done pending)) order)
  where
    abbrev given_puts : List Access
    given_puts = puts_of end done pending

    abbrev pending_takes : List Access
    pending_takes = asking end 0 pending

    abbrev each_take : List Access
    each_take = takes ++ pending_takes

    abbrev ws : List Window
    ws = put_windows end given_puts each_take 0 order

    within_end : AreWithin end done pending
    within_end = within_calls (Buffer n) done pending end calls

    own : Each (IsTakerOf given_puts) order
    own = each_left (IsTakerOf given_puts) order h.rest (each_moved (IsTakerOf given_puts)
        (takers_of 0 given_puts) (order ++ h.rest) h.all (takers_are given_puts 0 given_puts
        (λ k. (let same : k ≡ 0 + k = omega arith in ap (slice_get given_puts) same))))

    distinct : Differ (λ (x : Taker). x.from) order
    distinct = each_pair_left (λ (x y : Taker). x.from ≡ y.from → ⊥) order h.rest
        (differ_moved (λ (x : Taker). x.from) (takers_of 0 given_puts) (order ++ h.rest) h.all
        (takers_differ 0 given_puts (puts_differ end done pending invoked calls.rises)))

    known : Each (IsTakeOf done end) takes
    known = each_contains (IsTakeOf done end) takes (λ a k. a_take end done pending within_end a
        (Contains-permutation takes (takes_of done) a
        (IsPermutation-sym (takes_of done) takes moved) k))

    few_or_apart : (i k : ℕ) → i < k → k < length order → k < length each_take
        → (get_or each_take i (absent end)).last < (get_or each_take k (absent end)).first
    few_or_apart i k lt within here = elim rest [
      | inl few ↦ (let less : k < length takes = omega (
        arith,
        few,
        within,
        as_many 0 given_puts,
        length_permutation (takers_of 0 given_puts) (order ++ h.rest) h.all,
        length-append order h.rest,
      ) in
          let low : i < length takes = omega (arith, lt, less) in
          omega (
            arith,
            all_pairs_from_each (λ (a b : Access). a.last < b.first) takes apart i k (absent end) lt
                less,
            ap (λ (a : Access). a.last)
                (get_or_append_left takes pending_takes (absent end) i low),
            ap (λ (a : Access). a.first)
                (get_or_append_left takes pending_takes (absent end) k less),
          ))
      | inr all ↦ all_pairs_from_each (λ (a b : Access). a.last < b.first) each_take all i k
          (absent end) lt here
    ]

    abbrev Row : ℕ → Window → Type 0
    Row = IsRow n end done pending takes order h.moment within_end known

    all_rows : EachRising Row 0 ws
    all_rows = rows n end done pending takes order h.moment within_end known 0 (length takes)
        (length given_puts - length takes) takes pending_takes order
        (λ j. (let same : j ≡ 0 + j = omega arith in ap (slice_get each_take) same)) known
        (are_asking end pending 0 pending (each_contains (Contains pending) pending (λ o k. k)))
        (omega arith) (λ j. (let same : j ≡ 0 + j = omega arith in ap (slice_get order) same)) own
        h.taken

    put_has : (v : ℕ) (c : Call) → IsProduceOf done v c → HasPut ws v c.first
    put_has v c p =
        let e : put_item c.op c.reply ≡ Some v =
        ap (λ op. put_item op c.reply) p.asks ∙ ap (put_item (Produce v)) p.returns in
        let r = access_at put_item 0 done c v p.known e in
        let x = taker_for 0 given_puts r.access (Contains-append_left (accesses put_item 0 done)
        (asked end 0 pending) r.access r.known) in
        let times = one_of (λ (d : Call). (d.first < d.last) × (d.last < end)) done c
        within_end.completed p.known in
        let early : x.taker.by < end = omega (arith, x.by, r.last, times.1) in
        elim (Contains-append_cases order h.rest x.taker (Contains-permutation
        (takers_of 0 given_puts) (order ++ h.rest) x.taker h.all x.known)) [
          | inl here ↦ (let w = has_put n end done pending takes order h.moment within_end known 0
              order own x.taker r.access.item x.item early here in record {
                window = w.window;
                known = w.known;
                is = w.is ∙ r.item;
                at = w.at ∙ x.from ∙ r.first;
              })
          | inr there ↦ absurd (omega (
            arith,
            one_of (λ (y : Taker). end ≤ y.by) h.rest x.taker h.others there,
            early,
          ))
        ]

    take_has : (v : ℕ) (c : Call) → IsConsumeOf done v c → HasTake ws v c.first
    take_has v c p =
        let e : taken_item c.op c.reply ≡ Some v =
        ap (λ op. taken_item op c.reply) p.asks ∙ ap (taken_item Consume) p.returns in
        let r = access_at taken_item 0 done c v p.known e in
        let there = Contains-permutation (takes_of done) takes r.access moved r.known in
        let w = has_take n end done pending takes order h.moment within_end known 0 (length takes)
        (length given_puts - length takes) takes pending_takes order
        (λ j. (let same : j ≡ 0 + j = omega arith in ap (slice_get each_take) same)) known own
        h.taken r.access there in
        record {
          window = w.window;
          known = w.known;
          is = w.is ∙ r.item;
          at = w.at ∙ r.first;
        }

    rising_pair : (R : Window → Window → Type 0) → ((i k : ℕ) (x y : Window) → i < k → Row i x
        → Row k y → R x y) → EachPair R ws
    rising_pair R f = rising_pairs Row R f 0 ws all_rows

    pub are_given : AreGiven n done pending end ws
    are_given = record {
      each = rising_later Row (IsGiven done pending end) 0 (λ i x le r. r.given) 0 ws (omega arith)
          all_rows;
      puts = put_has;
      takes = take_has;
      puts_apart = rising_pair (λ (x y : Window). x.put_first ≡ y.put_first → ⊥)
          (puts_row n end done pending takes order h.moment within_end known h.rises few_or_apart
          distinct);
      takes_apart = rising_pair (λ (x y : Window). x.take_first ≡ y.take_first → x.take_first ≡ end)
          (takes_row n end done pending takes order h.moment within_end known h.rises few_or_apart
          distinct);
      kept_last = rising_pair (λ (x y : Window). x.take_first ≡ end → y.take_first ≡ end)
          (kept_row n end done pending takes order h.moment within_end known h.rises few_or_apart
          distinct);
      ranked = record {
        all = IsPermutation-refl ws;
        pairs = rising_pair MayPrecede (may_precede n end done pending takes order h.moment
            within_end known h.rises few_or_apart distinct);
        room = rising_room n Row (room_row n end done pending takes order h.moment within_end known
            h.rises few_or_apart distinct) 0 ws all_rows;
      };
    }

-- ONE PRODUCE MORE

pub put_step : (end : ℕ) (puts takes : List Access) (order : List Taker) (k : ℕ) (d : Taker)
    (base next more last : List Window) → k < length order
    → more ≡ put_window end (slice_get puts (get_or order k d).call) (slice_get takes k)
    → next ≡ base ++ more → base ++ put_windows end puts takes k (drop k order) ≡ last
    → next ++ put_windows end puts takes (k + 1) (drop (k + 1) order) ≡ last
put_step end puts takes order k d base next more last lt is e h =
    let rest = put_windows end puts takes (k + 1) (drop (suc k) order) in
    ap (λ j. next ++ put_windows end puts takes (k + 1) (drop j order)) (add-one k)
    ∙ ap (λ zs. zs ++ rest) e ∙ append_assoc base more rest
    ∙ ap (λ zs. base ++ (zs ++ rest)) is
    ∙ ap (λ xs. base ++ put_windows end puts takes k xs) (sym (drop-cons order k d lt)) ∙ h

-- A FAULT

pub outrun : (n end : ℕ) (done : List Call) (pending : List PendingCall) (takes : List Access)
    (steps : List Step) (clash : Clash) → AreCallsOf (Buffer n) done pending end
    → IsPermutation (takes_of done) takes → AreApart takes
    → AreFewOrApart (length (puts_of end done pending)) takes (asking end 0 pending)
    → Refute end
    (turns_in n end takes (takes ++ asking end 0 pending) (length (puts_of end done pending)))
    (takers_of 0 (puts_of end done pending)) (reverse steps) clash
    → FromOutrun n done pending In steps clash
outrun n end done pending takes steps clash calls moved apart rest refuted = record {
  end = end;
  within = within_calls (Buffer n) done pending end calls;
  turns = turns_in n end takes (takes ++ asking end 0 pending) (length (puts_of end done pending));
  takers = takers_of 0 (puts_of end done pending);
  are = record {
    takes = takes;
    all = moved;
    apart = apart;
    rest = rest;
    turns_are = refl;
    takers_are = refl;
  };
  refuted = refuted;
}
