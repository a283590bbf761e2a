-- Windows in the order of their ranks, which are told by their calls: those of items that are put
-- in once, and those of items that may come again, if no two calls were invoked at one position.
use Rattle.std.proofs.Common.{◌≡◌, ℕ, zero, suc, ◌+◌, ◌<◌, ◌≤◌, ◌==◌, inl, inr, Bool, true, false}
use Rattle.std.proofs.Common.{◌&&◌, List, [], ◌∷◌, length, get_or, refl, ap, sym, ◌∙◌, arith}
use Rattle.std.proofs.Common.{count_by}
use Rattle.std.specs.List.{Contains}
use Rattle.std.specs.List.Sorted.{IsPermutation}
use Rattle.std.proofs.lemmas.Bool.{cases_lt, eq-eqb, eqb-true, ne_eqb, and_right, and_parts}
use Rattle.std.proofs.lemmas.List.{get_or_default}
use Rattle.std.proofs.lemmas.List.Elements.{All-contains}
use Rattle.std.proofs.lemmas.List.Sorted.{All-permutation, Contains-permutation}
use Rattle.calls_core.specs.declared.history.Op.TheVariants.{Produce, Consume}
use Rattle.calls_core.specs.declared.history.Reply.TheVariants.{Done, Number}
use Rattle.calls_core.specs.declared.history.PendingCall.{PendingCall}
use Rattle.calls_core.specs.declared.history.Call.{Call}
use Rattle.calls_core.specs.Lists.{Each, EachPair}
use Rattle.calls_core.specs.Calls.{Earlier}
use Rattle.calls_core.proofs.Lists.{each_weaker, each_pair_weaker, all_from_each}
use Rattle.calls_core.proofs.Lists.{all_pairs_from_each}
use Rattle.calls_core.proofs.Filters.{each_from_all}
use Rattle.calls_core.proofs.Counting.{count_cons, count_moved, count_less, count_none, one_yes}
use Rattle.calls_core.proofs.Counting.{one_no}
use Rattle.calls_buffers.specs.declared.windows.Window.{Window}
use Rattle.calls_buffers.specs.Counts.{item, produces, put_one, took_one, is_put, is_take}
use Rattle.calls_buffers.specs.Jobs.{IsProduceOf, IsConsumeOf}
use Rattle.calls_buffers.specs.kept.Windows.{IsWindow, HasWindow, AreWindows}
use Rattle.calls_buffers.specs.kept.Spans.{AreInvokedApart, IsSpan, HasPut, HasTake, AreSpans}
use Rattle.calls_buffers.specs.kept.Plans.{no_window, window_at, put_pair, take_pair}
use Rattle.calls_buffers.proofs.Asking.{count_some}
use Rattle.calls_buffers.proofs.PlansRunning.{passing}

-- ONLY ONE

some_at : {X : Type 0} (p : X → Bool) (xs : List X) (d : X) (i : ℕ) → i < length xs
    → p (get_or xs i d) ≡ true → 0 < count_by p xs
some_at p [] d i lt e = absurd (omega arith)
some_at p (x ∷ xs) d zero lt e = omega (arith, count_cons p x xs, one_yes (p x) e)
some_at p (x ∷ xs) d (suc i) lt e = omega (
  arith,
  count_cons p x xs,
  some_at p xs d i (omega arith) e,
)

one_place : {X : Type 0} (p : X → Bool) (xs : List X) (d : X) (i k : ℕ) → i < length xs
    → k < length xs → p (get_or xs i d) ≡ true → p (get_or xs k d) ≡ true → count_by p xs ≤ 1
    → i ≡ k
one_place p [] d i k li lk e f le = absurd (omega arith)
one_place p (x ∷ xs) d zero zero li lk e f le = refl
one_place p (x ∷ xs) d zero (suc k) li lk e f le = absurd (omega (
  arith,
  count_cons p x xs,
  one_yes (p x) e,
  some_at p xs d k (omega arith) f,
))
one_place p (x ∷ xs) d (suc i) zero li lk e f le = absurd (omega (
  arith,
  count_cons p x xs,
  one_yes (p x) f,
  some_at p xs d i (omega arith) e,
))
one_place p (x ∷ xs) d (suc i) (suc k) li lk e f le = ap suc (one_place p xs d i k (omega arith)
    (omega arith) e f (omega (arith, count_cons p x xs)))

pub only_one : {X : Type 0} (p : X → Bool) (xs : List X) (a b : X) → Contains xs a → Contains xs b
    → p a ≡ true → p b ≡ true → count_by p xs ≤ 1 → a ≡ b
only_one p xs a b (i, li, e) (k, lk, f) pa pb le =
    let here : get_or xs k a ≡ b = get_or_default xs k a b lk ∙ f in
    let same : i ≡ k = one_place p xs a i k li lk (ap p e ∙ pa) (ap p here ∙ pb) le in
    sym e ∙ ap (λ j. get_or xs j a) same ∙ here

-- of elements with different numbers, at most one passes a test that only those with one number do
few_at : {X : Type 0} (at : X → ℕ) (test : X → Bool) (p : ℕ)
    → ((x : X) → test x ≡ true → at x ≡ p) → (xs : List X)
    → EachPair (λ x y. at x ≡ at y → ⊥) xs → count_by test xs ≤ 1
few_at at test p f [] h = omega arith
few_at {X} at test p f (x ∷ xs) h =
    elim (test x) as (λ b. test x ≡ b → count_by test (x ∷ xs) ≤ 1) [
      | true ↦ λ e. (let none : count_by test xs ≡ 0 = count_none test xs (all_from_each (λ y.
          test y ≡ false) xs (each_weaker (λ y. at x ≡ at y → ⊥) (λ y. test y ≡ false)
          (λ y ne. other y ne (test y) refl (f x e)) xs h.0)) in
          omega (arith, count_cons test x xs, one_yes (test x) e))
      | false ↦ λ e. omega (
        arith,
        count_cons test x xs,
        one_no (test x) e,
        few_at at test p f xs h.1,
      )
    ] refl
  where
    other : (y : X) → (at x ≡ at y → ⊥) → (b : Bool) → test y ≡ b → at x ≡ p → test y ≡ false
    other y ne true e own = absurd (ne (own ∙ sym (f y e)))
    other y ne false e own = e

-- CALLS OF ITEMS

pub is_produce : (v : ℕ) (c : Call) → c.op ≡ Produce v → c.reply ≡ Done → is_put (item v) c ≡ true
is_produce v c asks returns = ap (λ op. put_one (item v) op c.reply) asks
    ∙ ap (put_one (item v) (Produce v)) returns ∙ eq-eqb v v refl

pub is_consume_of : (v : ℕ) (c : Call) → c.op ≡ Consume → c.reply ≡ Number v
    → is_take (item v) c ≡ true
is_consume_of v c asks returns = ap (λ op. took_one (item v) op c.reply) asks
    ∙ ap (took_one (item v) Consume) returns ∙ eq-eqb v v refl

pub is_asking : (v : ℕ) (o : PendingCall) → o.op ≡ Produce v → produces (item v) o.op ≡ true
is_asking v o asks = ap (produces (item v)) asks ∙ eq-eqb v v refl

-- whether a call of an item was invoked at a position
abbrev pub puts_from : ℕ → ℕ → Call → Bool
puts_from v p c = is_put (item v) c && (c.first == p)

abbrev pub takes_from : ℕ → ℕ → Call → Bool
takes_from v p c = is_take (item v) c && (c.first == p)

abbrev pub asks_from : ℕ → ℕ → PendingCall → Bool
asks_from v p o = produces (item v) o.op && (o.first == p)

-- each window has calls of its own, which its item and their invocations tell
pub record AreTold (done : List Call) (pending : List PendingCall) (end : ℕ) (order : List Window)
    : Type 0 where
  pub each : Each (IsSpan done pending end) order
  pub puts : (v : ℕ) (c : Call) → IsProduceOf done v c → HasPut order v c.first
  pub takes : (v : ℕ) (c : Call) → IsConsumeOf done v c → HasTake order v c.first
  pub puts_apart : (i k : ℕ) → i < length order → k < length order
      → put_pair (window_at order i) ≡ put_pair (window_at order k) → i ≡ k
  pub takes_apart : (i k : ℕ) → i < length order → k < length order
      → take_pair (window_at order i) ≡ take_pair (window_at order k)
      → (window_at order k).take_first < end → i ≡ k
  pub put_once : (v p : ℕ)
      → count_by (puts_from v p) done + count_by (asks_from v p) pending ≤ 1
  pub taken_once : (v p : ℕ) → count_by (takes_from v p) done ≤ 1

-- ITEMS THAT ARE PUT IN ONCE

module _ (done : List Call) (pending : List PendingCall) (end : ℕ) (ws order : List Window)
    (are : AreWindows done pending end ws) (all : IsPermutation ws order) where
  distinct : (i k : ℕ) → i < length order → k < length order
      → (window_at order i).item ≡ (window_at order k).item → i ≡ k
  distinct i k li lk e =
      let v = (window_at order k).item in
      let test : Window → Bool = λ (x : Window). x.item == v in
      one_place test order no_window i k li lk (eq-eqb (window_at order i).item v e)
      (eq-eqb v v refl) (omega (
        arith,
        count_moved test ws order all,
        few_at (λ (x : Window). x.item) test v (λ x same. eqb-true x.item v same) ws
            (each_pair_weaker (λ (x y : Window). x.item < y.item) (λ x y. x.item ≡ y.item → ⊥)
            (λ x y less same. omega arith) ws are.ascend),
      ))

  window_of : (v : ℕ) → HasWindow ws v → (w : Window) × Contains order w × (w.item ≡ v)
      × IsWindow done pending end w
  window_of v h = (
    h.window,
    Contains-permutation ws order h.window all h.known,
    h.is,
    All-contains (IsWindow done pending end) ws h.window
        (all_from_each (IsWindow done pending end) ws are.each) h.known,
  )

  has_put : (v : ℕ) (c : Call) → IsProduceOf done v c → HasPut order v c.first
  has_put v c h =
      let r = window_of v (are.puts v c h) in
      let yes = is_produce v c h.asks h.returns in
      let once = are.put_once v in
      record {
        window = r.0;
        known = r.1;
        is = r.2;
        at = elim r.3.put [
          | inl p ↦ (let same : p.call ≡ c = only_one (is_put (item v)) done p.call c
              p.produce.known h.known (is_produce v p.call (p.produce.asks ∙ ap Produce r.2)
              p.produce.returns) yes (omega arith) in
              sym p.first ∙ ap (λ (d : Call). d.first) same)
          | inr p ↦ absurd (omega (
            arith,
            count_some (is_put (item v)) done c h.known yes,
            count_some (λ (o : PendingCall). produces (item v) o.op) pending p.call p.known
                (is_asking v p.call (p.asks ∙ ap Produce r.2)),
          ))
        ];
      }

  has_take : (v : ℕ) (c : Call) → IsConsumeOf done v c → HasTake order v c.first
  has_take v c h =
      let r = window_of v (are.takes v c h) in
      let yes = is_consume_of v c h.asks h.returns in
      record {
        window = r.0;
        known = r.1;
        is = r.2;
        at = elim r.3.take [
          | inl p ↦ (let same : p.call ≡ c = only_one (is_take (item v)) done p.call c
              p.consume.known h.known (is_consume_of v p.call p.consume.asks
              (p.consume.returns ∙ ap Number r.2)) yes (are.taken_once v) in
              sym p.first ∙ ap (λ (d : Call). d.first) same)
          | inr p ↦ absurd (omega (
            arith,
            count_some (is_take (item v)) done c h.known yes,
            ap (λ u. count_by (is_take (item u)) done) r.2,
            p.none,
          ))
        ];
      }

  span_of : (w : Window) → IsWindow done pending end w → IsSpan done pending end w
  span_of w h = record {
    put = h.put;
    take = elim h.take [
      | inl p ↦ inl p
      | inr p ↦ inr (record { first = p.first; last = p.last })
    ];
    some = h.some;
    first = h.first;
    follows = h.follows;
  }

  -- fewer pass both tests than the first one
  fewer : {X : Type 0} (p q : X → Bool) (xs : List X)
      → count_by (λ x. p x && q x) xs ≤ count_by p xs
  fewer p q xs = count_less (λ x. p x && q x) p xs (λ k d lt e.
      (and_parts (p (get_or xs k d)) (q (get_or xs k d)) e).0)

  pub told_by_items : AreTold done pending end order
  told_by_items = record {
    each = each_from_all (IsSpan done pending end) order (All-permutation
        (IsSpan done pending end) ws order all (all_from_each (IsSpan done pending end) ws
        (each_weaker (IsWindow done pending end) (IsSpan done pending end) span_of ws are.each)));
    puts = has_put;
    takes = has_take;
    puts_apart = λ i k li lk e. distinct i k li lk (ap (λ (q : ℕ × ℕ). q.0) e);
    takes_apart = λ i k li lk e less. distinct i k li lk (ap (λ (q : ℕ × ℕ). q.0) e);
    put_once = λ v p. omega (
      arith,
      are.put_once v,
      fewer (is_put (item v)) (λ (c : Call). c.first == p) done,
      fewer (λ (o : PendingCall). produces (item v) o.op) (λ (o : PendingCall). o.first == p)
          pending,
    );
    taken_once = λ v p. omega (
      arith,
      are.taken_once v,
      fewer (is_take (item v)) (λ (c : Call). c.first == p) done,
    );
  }

-- ITEMS THAT MAY COME AGAIN

module _ (done : List Call) (pending : List PendingCall) (end : ℕ) (order : List Window)
    (earlier : EachPair Earlier pending) (invoked : AreInvokedApart done pending)
    (are : AreSpans done pending end order) where
  call_from : (v p : ℕ) (c : Call) → puts_from v p c ≡ true → c.first ≡ p
  call_from v p c e = eqb-true c.first p (and_parts (is_put (item v) c) (c.first == p) e).1

  few_done : (v p : ℕ) → count_by (puts_from v p) done ≤ 1
  few_done v p = few_at (λ (c : Call). c.first) (puts_from v p) p (call_from v p) done
      invoked.completed

  few_asked : (v p : ℕ) → count_by (asks_from v p) pending ≤ 1
  few_asked v p = few_at (λ (o : PendingCall). o.first) (asks_from v p) p
      (λ o e. eqb-true o.first p (and_parts (produces (item v) o.op) (o.first == p) e).1) pending
      (each_pair_weaker Earlier (λ x y. x.first ≡ y.first → ⊥) (λ x y less same. omega arith)
      pending earlier)

  none_asked : (v p : ℕ) → 0 < count_by (puts_from v p) done
      → count_by (asks_from v p) pending ≡ 0
  none_asked v p lt =
      let r = passing (puts_from v p) (λ (c : Call).
      Each (λ (o : PendingCall). c.first ≡ o.first → ⊥) pending) done invoked.across lt in
      let own : r.call.first ≡ p = call_from v p r.call r.passes in
      count_none (asks_from v p) pending (all_from_each (λ o. asks_from v p o ≡ false) pending
      (each_weaker (λ (o : PendingCall). r.call.first ≡ o.first → ⊥) (λ o.
      asks_from v p o ≡ false) (λ o ne. and_right (produces (item v) o.op) (o.first == p)
      (ne_eqb o.first p (λ e. ne (own ∙ sym e)))) pending r.holds))

  put_alone : (v p : ℕ) → count_by (puts_from v p) done + count_by (asks_from v p) pending ≤ 1
  put_alone v p = elim (cases_lt 0 (count_by (puts_from v p) done)) [
    | inl lt ↦ omega (arith, few_done v p, none_asked v p lt)
    | inr le ↦ omega (arith, few_asked v p)
  ]

  taken_alone : (v p : ℕ) → count_by (takes_from v p) done ≤ 1
  taken_alone v p = few_at (λ (c : Call). c.first) (takes_from v p) p
      (λ c e. eqb-true c.first p (and_parts (is_take (item v) c) (c.first == p) e).1) done
      invoked.completed

  taken_apart : (i k : ℕ) → i < length order → k < length order
      → (window_at order i).take_first ≡ (window_at order k).take_first
      → (window_at order k).take_first < end → i ≡ k
  taken_apart i k li lk e less =
      let all = all_pairs_from_each (λ (x y : Window). x.take_first ≡ y.take_first
      → x.take_first ≡ end) order are.takes_apart in
      elim (cases_lt i k) [
        | inl lt ↦ absurd (let late = all i k no_window lt lk e in omega arith)
        | inr ge ↦ elim (cases_lt k i) [
          | inl lt ↦ absurd (let late = all k i no_window lt li (sym e) in omega arith)
          | inr le ↦ omega arith
        ]
      ]

  put_apart : (i k : ℕ) → i < length order → k < length order
      → (window_at order i).put_first ≡ (window_at order k).put_first → i ≡ k
  put_apart i k li lk e =
      let all = all_pairs_from_each (λ (x y : Window). x.put_first ≡ y.put_first → ⊥) order
      are.puts_apart in
      elim (cases_lt i k) [
        | inl lt ↦ absurd (all i k no_window lt lk e)
        | inr ge ↦ elim (cases_lt k i) [
          | inl lt ↦ absurd (all k i no_window lt li (sym e))
          | inr le ↦ omega arith
        ]
      ]

  pub told_by_calls : AreTold done pending end order
  told_by_calls = record {
    each = are.each;
    puts = are.puts;
    takes = are.takes;
    puts_apart = λ i k li lk e. put_apart i k li lk (ap (λ (q : ℕ × ℕ). q.1) e);
    takes_apart = λ i k li lk e less. taken_apart i k li lk (ap (λ (q : ℕ × ℕ). q.1) e) less;
    put_once = put_alone;
    taken_once = taken_alone;
  }
