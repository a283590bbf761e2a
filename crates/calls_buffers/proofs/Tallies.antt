-- Counts of a history, and of the calls of a linearization before and after a cut.
use Rattle.std.proofs.Common.{◌≡◌, ℕ, ◌+◌, ◌<◌, ◌≤◌, Bool, true, false, ◌&&◌, nat_le, nat_lt, List}
use Rattle.std.proofs.Common.{[], ◌∷◌, ◌++◌, Option, Some, None, ap, ◌∙◌, arith}
use Rattle.std.proofs.Common.{count_by}
use Rattle.std.proofs.lemmas.Bool.{lt-leb, le-leb, le-ltb, and_from, and_right, and_parts}
use Rattle.std.proofs.lemmas.List.Sorted.{All-permutation}
use Rattle.calls_core.specs.declared.history.Kind.TheVariants.{Buffer}
use Rattle.calls_core.specs.declared.history.Reply.{Reply}
use Rattle.calls_core.specs.declared.history.PendingCall.{PendingCall}
use Rattle.calls_core.specs.declared.history.Call.{Call}
use Rattle.calls_core.specs.Lists.{Each, EachPair}
use Rattle.calls_core.specs.Histories.{Takes, completion}
use Rattle.calls_core.specs.Linearizations.{IsLegalHistory, KeepsOrder, initial, IsLinearOrder}
use Rattle.calls_core.specs.Linearizations.{answered_one, answered_calls}
use Rattle.calls_core.specs.Calls.{Early, IsCallOf, AreCallsOf}
use Rattle.calls_core.proofs.Lists.{each_weaker, each_append, all_from_each}
use Rattle.calls_core.proofs.Filters.{each_from_all}
use Rattle.calls_core.proofs.Counting.{one, one_less, count_cons, count_append, count_moved}
use Rattle.calls_core.proofs.Counting.{count_less, count_none}
use Rattle.calls_core.proofs.Settling.{each_pair_from_all}
use Rattle.calls_buffers.specs.Queues.{IsQueueRun}
use Rattle.calls_buffers.proofs.Runs.{IsBufferCall, is_queue}
use Rattle.calls_buffers.proofs.Cuts.{Lasts}

-- LISTS

-- no more pass the first test than the second
pub count_under : {X : Type 0} (p q : X → Bool) (P : X → Type 0) → ((x : X) → P x → p x ≡ true
    → q x ≡ true) → (xs : List X) → Each P xs → count_by p xs ≤ count_by q xs
count_under p q P f xs h = count_less p q xs (all_from_each (λ x. p x ≡ true → q x ≡ true) xs
    (each_weaker P (λ x. p x ≡ true → q x ≡ true) f xs h))

pub count_zero : (p : Call → Bool) (P : Call → Type 0) → ((c : Call) → P c → p c ≡ false)
    → (cs : List Call) → Each P cs → count_by p cs ≡ 0
count_zero p P f cs h = count_none p cs (all_from_each (λ c. p c ≡ false) cs
    (each_weaker P (λ c. p c ≡ false) f cs h))

-- PENDING CALLS

module _ (t : ℕ) (answer : PendingCall → Option Reply) where
  one_answered : (P : Call → Type 0) (o : PendingCall) (r : Option Reply)
      → ((x : Reply) → P (completion t x o)) → Each P (answered_one t o r)
  one_answered P o None f = tt
  one_answered P o (Some x) f = (f x, tt)

  pub answered_each : (Q : PendingCall → Type 0) (P : Call → Type 0)
      → ((o : PendingCall) (x : Reply) → Q o → P (completion t x o))
      → (os : List PendingCall) → Each Q os → Each P (answered_calls t answer os)
  answered_each Q P f [] h = tt
  answered_each Q P f (o ∷ os) h =
      each_append P (answered_one t o (answer o)) (answered_calls t answer os)
      (one_answered P o (answer o) (λ x. f o x h.0)) (answered_each Q P f os h.1)

  module _ (p : Call → Bool) (q : PendingCall → Bool)
      (covers : (o : PendingCall) (x : Reply) → p (completion t x o) ≡ true → q o ≡ true) where
    one_few : (o : PendingCall) (r : Option Reply) → count_by p (answered_one t o r) ≤ one (q o)
    one_few o None = omega arith
    one_few o (Some x) = omega (
      arith,
      count_cons p (completion t x o) [],
      one_less (p (completion t x o)) (q o) (covers o x),
    )

    pub answered_few : (os : List PendingCall)
        → count_by p (answered_calls t answer os) ≤ count_by q os
    answered_few [] = omega arith
    answered_few (o ∷ os) = omega (
      arith,
      count_append p (answered_one t o (answer o)) (answered_calls t answer os),
      one_few o (answer o),
      answered_few os,
      count_cons q o os,
    )

-- ONE LINEARIZATION

module _ (n t : ℕ) (done : List Call) (pending : List PendingCall) (cs : List Call)
    (l : IsLinearOrder (IsLegalHistory (initial (Some (Buffer n)))) done pending t cs)
    (h : AreCallsOf (Buffer n) done pending t) where
  abbrev answered : List Call
  answered = answered_calls t l.answer pending

  moved : (P : Call → Type 0) → Each P answered → Each P done → Each P cs
  moved P a d = each_from_all P cs (All-permutation P (answered ++ done) cs l.each_once
      (all_from_each P (answered ++ done) (each_append P answered done a d)))

  pub all_last : Each Lasts cs
  all_last = moved Lasts
      (answered_each t l.answer (Early t) Lasts (λ o x e. e) pending h.early)
      (each_weaker (IsCallOf (Buffer n) t) Lasts (λ c k. k.lasts) done h.completed)

  pub all_fit : Each (IsBufferCall n) cs
  all_fit = moved (IsBufferCall n)
      (answered_each t l.answer (λ (o : PendingCall). Takes (Some (Buffer n)) o.op)
      (IsBufferCall n) (λ o x k. k) pending h.fits)
      (each_weaker (IsCallOf (Buffer n) t) (IsBufferCall n) (λ c k. k.fits) done h.completed)

  pub all_keep : EachPair KeepsOrder cs
  all_keep = each_pair_from_all KeepsOrder cs l.in_order

  pub queue : IsQueueRun n [] cs
  queue = is_queue n cs all_fit l.run

  count_all : (p : Call → Bool) → count_by p cs ≡ count_by p answered + count_by p done
  count_all p = count_moved p (answered ++ done) cs l.each_once ∙ count_append p answered done

  -- a call that is among the completed ones is counted
  pub done_counted : (p : Call → Bool) → count_by p done ≤ count_by p cs
  done_counted p = omega (arith, count_all p)

  -- and so is each of the linearization, if pending ones are counted too
  module _ (p : Call → Bool) (q : PendingCall → Bool)
      (covers : (o : PendingCall) (x : Reply) → p (completion t x o) ≡ true → q o ≡ true) where
    pub counted : count_by p cs ≤ count_by p done + count_by q pending
    counted = omega (arith, count_all p, answered_few t l.answer p q covers pending)

  module _ (prefix back : List Call) (is : cs ≡ prefix ++ back) where
    split : (p : Call → Bool) → count_by p cs ≡ count_by p prefix + count_by p back
    split p = ap (count_by p) is ∙ count_append p prefix back

    -- what had returned by position u is in the front
    pub returned_in_front : (p : Call → Bool) (u : ℕ) → Each (λ (c : Call). u < c.last) back
        → count_by (λ (c : Call). p c && nat_le c.last u) done ≤ count_by p prefix
    returned_in_front p u late =
        let test : Call → Bool = λ (c : Call). p c && nat_le c.last u in
        omega (
          arith,
          done_counted test,
          split test,
          count_zero test (λ (c : Call). u < c.last)
              (λ c lt. and_right (p c) (nat_le c.last u) (lt-leb c.last u lt)) back late,
          count_less test p prefix (λ k d lt e. (and_parts _ _ e).0),
        )

    -- what was invoked after position u is in the back
    pub invoked_in_back : (p : Call → Bool) (u : ℕ) → Each (λ (c : Call). c.first ≤ u) prefix
        → count_by (λ (c : Call). p c && nat_lt u c.first) done ≤ count_by p back
    invoked_in_back p u early =
        let test : Call → Bool = λ (c : Call). p c && nat_lt u c.first in
        omega (
          arith,
          done_counted test,
          split test,
          count_zero test (λ (c : Call). c.first ≤ u)
              (λ c le. and_right (p c) (nat_lt u c.first) (le-ltb u c.first le)) prefix early,
          count_less test p back (λ k d lt e. (and_parts _ _ e).0),
        )

    -- what is in the front was invoked by position u
    pub front_invoked : (p : Call → Bool) (q : PendingCall → Bool)
        → ((o : PendingCall) (x : Reply) → p (completion t x o) ≡ true → q o ≡ true)
        → (u : ℕ) → Each (λ (c : Call). c.first ≤ u) prefix
        → count_by p prefix ≤ count_by (λ (c : Call). p c && nat_le c.first u) done
        + count_by (λ (o : PendingCall). q o && nat_le o.first u) pending
    front_invoked p q covers u early =
        let test : Call → Bool = λ (c : Call). p c && nat_le c.first u in
        let pending_test : PendingCall → Bool = λ (o : PendingCall). q o && nat_le o.first u in
        omega (
          arith,
          count_under p test (λ (c : Call). c.first ≤ u)
              (λ c le e. and_from (p c) (nat_le c.first u) e (le-leb c.first u le)) prefix early,
          split test,
          counted test pending_test (λ o x e. (let parts = and_parts (p (completion t x o))
              (nat_le o.first u) e in
              and_from (q o) (nat_le o.first u) (covers o x parts.0) parts.1)),
        )
