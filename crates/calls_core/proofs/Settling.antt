-- The position at which a pending call that took effect counts as having its response.
use Rattle.std.proofs.Common.{◌≡◌, ℕ, zero, suc, ◌<◌, ◌≤◌, inl, inr, cond, List, [], ◌∷◌, ◌++◌}
use Rattle.std.proofs.Common.{map, Option, Some, None, refl, ap, sym, ◌∙◌, arith, subst}
use Rattle.std.proofs.Common.{append_assoc}
use Rattle.std.specs.List.{AllPairs}
use Rattle.std.specs.List.Sorted.{IsPermutation}
use Rattle.std.proofs.lemmas.Bool.{lt-ltb, le-ltb, cases_lt}
use Rattle.std.proofs.lemmas.List.Sorted.{All-permutation, IsPermutation-map}
use Rattle.calls_core.specs.declared.history.Kind.{Kind}
use Rattle.calls_core.specs.declared.history.Reply.{Reply}
use Rattle.calls_core.specs.declared.history.Event.{Event}
use Rattle.calls_core.specs.declared.history.PendingCall.{PendingCall}
use Rattle.calls_core.specs.declared.history.Call.{Call}
use Rattle.calls_core.specs.Lists.{Each, EachPair}
use Rattle.calls_core.specs.Histories.{clock, pending_calls, completion, completed_calls}
use Rattle.calls_core.specs.Histories.{IsHistoryOf}
use Rattle.calls_core.specs.Linearizations.{after, IsLegalHistory, initial, set_at, IsRun}
use Rattle.calls_core.specs.Linearizations.{KeepsOrder, answered_one, answered_calls, IsLinearOrder}
use Rattle.calls_core.specs.Completions.{with_last, settled_last, settle_call}
use Rattle.calls_core.specs.Calls.{Early, Earlier, IsCallOf, AreCallsOf, IsCompletedCall, AreCalls}
use Rattle.calls_core.specs.Outcomes.{IsOrderOf, HasOrderOf}
use Rattle.calls_core.proofs.Lists.{each_weaker, each_append, all_from_each, all_pairs_from_each}
use Rattle.calls_core.proofs.Filters.{each_from_all}
use Rattle.calls_core.proofs.Positions.{are_calls_of}

-- POSITIONS

abbrev pub Spans : ℕ → Call → Type 0
Spans m c = (c.first < c.last) × (c.last < m)

abbrev pub Begun : ℕ → Call → Type 0
Begun m c = c.first < m

-- the completed and the pending calls of a history that ends before position m
pub record AreBefore (m : ℕ) (done : List Call) (pending : List PendingCall) : Type 0 where
  pub spans : Each (Spans m) done
  pub early : Each (Early m) pending
  pub rises : EachPair Earlier pending

pub before_of : (kind : Kind) (done : List Call) (pending : List PendingCall) (m : ℕ)
    → AreCallsOf kind done pending m → AreBefore m done pending
before_of kind done pending m h = record {
  spans = each_weaker (IsCallOf kind m) (Spans m) (λ c k. (k.lasts, k.early)) done h.completed;
  early = h.early;
  rises = h.rises;
}

pub before : (kinds : List Kind) (done : List Call) (pending : List PendingCall) (m : ℕ)
    → AreCalls kinds done pending m → AreBefore m done pending
before kinds done pending m h = record {
  spans = each_weaker (IsCompletedCall kinds m) (Spans m) (λ c k.
      (k.lasts, k.early)) done h.completed_calls.completed;
  early = h.pending_calls.early;
  rises = h.pending_calls.rises;
}

-- PAIRS

pub each_pair_from_all : {X : Type 0} (R : X → X → Type 0) (xs : List X) → AllPairs R xs
    → EachPair R xs
each_pair_from_all R [] h = tt
each_pair_from_all R (x ∷ xs) h = (
  each_from_all (R x) xs (λ k d lt.
      h zero (suc k) d (omega arith) (omega arith)),
  each_pair_from_all R xs (λ i j d lt le.
      h (suc i) (suc j) d (omega arith) (omega arith)),
)

-- SETTLED

pub early_last : (m t n : ℕ) → n < m → settled_last m t n ≡ n
early_last m t n lt = ap (λ b. cond b n t) (lt-ltb n m lt)

pub late_last : (m t n : ℕ) → m ≤ n → settled_last m t n ≡ t
late_last m t n le = ap (λ b. cond b n t) (le-ltb n m le)

module _ (m t : ℕ) where
  pub settled_done : (cs : List Call) → Each (Spans m) cs → map (settle_call m t) cs ≡ cs
  settled_done [] h = refl
  settled_done (c ∷ cs) h = ap (λ n. with_last c n ∷ map (settle_call m t) cs)
      (early_last m t c.last h.0.1) ∙ ap (λ zs. c ∷ zs) (settled_done cs h.1)

  settled_one : (u : ℕ) (o : PendingCall) (z : Option Reply) (xs ys : List Call) → m ≤ u
      → map (settle_call m t) xs ≡ ys → map (settle_call m t) (answered_one u o z ++ xs)
      ≡ answered_one t o z ++ ys
  settled_one u o None xs ys le e = e
  settled_one u o (Some r) xs ys le e = ap (λ n. completion n r o ∷ map (settle_call m t) xs)
      (late_last m t u le) ∙ ap (λ zs. completion t r o ∷ zs) e

  pub settled_answers : (u : ℕ) (answer : PendingCall → Option Reply) (os : List PendingCall)
      (cs : List Call) → m ≤ u → map (settle_call m t) (answered_calls u answer os ++ cs)
      ≡ answered_calls t answer os ++ map (settle_call m t) cs
  settled_answers u answer [] cs le = refl
  settled_answers u answer (o ∷ os) cs le =
      ap (map (settle_call m t)) (append_assoc (answered_one u o (answer o))
      (answered_calls u answer os) cs)
      ∙ settled_one u o (answer o) (answered_calls u answer os ++ cs)
      (answered_calls t answer os ++ map (settle_call m t) cs) le
      (settled_answers u answer os cs le)
      ∙ sym (append_assoc (answered_one t o (answer o)) (answered_calls t answer os)
      (map (settle_call m t) cs))

  pub settled_run : (s : ℕ → ℕ → ℕ) (cs : List Call) → IsRun s cs
      → IsRun s (map (settle_call m t) cs)
  settled_run s [] h = tt
  settled_run s (c ∷ cs) h = (
    h.0,
    settled_run (set_at c.object (after (s c.object) c.op c.reply) s)
        cs h.1,
  )

  pub settled_one_run : (n : ℕ → ℕ) (cs : List Call) → IsLegalHistory n cs
      → IsLegalHistory n (map (settle_call m t) cs)
  settled_one_run n [] h = tt
  settled_one_run n (c ∷ cs) h = (h.0, settled_one_run (after n c.op c.reply) cs h.1)

  pub settled_keeps : (cs : List Call) → m ≤ t → Each (Begun m) cs → EachPair KeepsOrder cs
      → EachPair KeepsOrder (map (settle_call m t) cs)
  settled_keeps [] le f h = tt
  settled_keeps (c ∷ cs) le f h = (one cs h.0, settled_keeps cs le f.1 h.1)
    where
      not_before : (n : ℕ) → (n < c.first → ⊥) → settled_last m t n < c.first → ⊥
      not_before n h lt =
          (let early : c.first < m = f.0 in
          elim (cases_lt n m) [
            | inl returned ↦ h (omega (arith, early_last m t n returned))
            | inr late ↦ absurd (omega (arith, late_last m t n late))
          ])

      one : (ds : List Call) → Each (KeepsOrder c) ds → Each (KeepsOrder (settle_call m t c))
          (map (settle_call m t) ds)
      one [] k = tt
      one (d ∷ ds) k = (not_before d.last k.0, one ds k.1)

-- ORDERS

answered_begun : (m u : ℕ) (answer : PendingCall → Option Reply) (os : List PendingCall)
    → Each (Early m) os → Each (Begun m) (answered_calls u answer os)
answered_begun m u answer [] h = tt
answered_begun m u answer (o ∷ os) h = each_append (Begun m) (answered_one u o (answer o))
    (answered_calls u answer os) (one (answer o)) (answered_begun m u answer os h.1)
  where
    one : (z : Option Reply) → Each (Begun m) (answered_one u o z)
    one None = tt
    one (Some r) = (h.0, tt)

pub done_begun : (m : ℕ) (done : List Call) → Each (Spans m) done → Each (Begun m) done
done_begun m done h = each_weaker (Spans m) (Begun m) (λ c k. (let a : c.first < c.last = k.0 in
    let b : c.last < m = k.1 in omega arith)) done h

pub all_begun : (m u : ℕ) (answer : PendingCall → Option Reply) (done : List Call)
    (pending : List PendingCall) (cs : List Call) → Each (Early m) pending → Each (Begun m) done
    → IsPermutation (answered_calls u answer pending ++ done) cs → Each (Begun m) cs
all_begun m u answer done pending cs early begun moved =
    each_from_all (Begun m) cs (All-permutation (Begun m) _ cs moved
    (all_from_each (Begun m) (answered_calls u answer pending ++ done)
    (each_append (Begun m) (answered_calls u answer pending) done
    (answered_begun m u answer pending early) begun)))

-- an order in which the pending calls that took effect respond at u, as one in which they respond
-- at t
pub order_settled : (Run : List Call → Type 0) (m u t : ℕ) (done : List Call)
    (pending : List PendingCall) (cs : List Call) → m ≤ u → m ≤ t → AreBefore m done pending
    → (Run cs → Run (map (settle_call m t) cs)) → IsLinearOrder Run done pending u cs
    → IsLinearOrder Run done pending t (map (settle_call m t) cs)
order_settled Run m u t done pending cs le later b still l =
    let same : map (settle_call m t) (answered_calls u l.answer pending ++ done)
    ≡ answered_calls t l.answer pending ++ done =
    settled_answers m t u l.answer pending done le ∙ ap (λ zs.
    answered_calls t l.answer pending ++ zs) (settled_done m t done b.spans) in
    let begun = all_begun m u l.answer done pending cs b.early (done_begun m done b.spans)
    l.each_once in
    record {
      answer = l.answer;
      each_once = subst (λ zs. IsPermutation zs (map (settle_call m t) cs)) same
          (IsPermutation-map (settle_call m t) _ cs l.each_once);
      in_order = all_pairs_from_each KeepsOrder (map (settle_call m t) cs)
          (settled_keeps m t cs later begun (each_pair_from_all KeepsOrder cs l.in_order));
      run = still l.run;
    }

-- the same for one object
pub order_at : (kind : Kind) (past : List Event) (u t : ℕ) (cs : List Call) → IsHistoryOf kind past
    → clock past ≤ u → clock past ≤ t → IsOrderOf kind past u cs
    → IsOrderOf kind past t (map (settle_call (clock past) t) cs)
order_at kind past u t cs h le later l =
    order_settled (IsLegalHistory (initial (Some kind))) (clock past) u t (completed_calls past)
    (pending_calls past) cs le later (before_of kind (completed_calls past) (pending_calls past)
    (clock past) (are_calls_of kind past h))
    (settled_one_run (clock past) t (initial (Some kind)) cs) l

pub has_order_from : (kind : Kind) (past : List Event) (u : ℕ) (cs : List Call)
    → IsHistoryOf kind past → clock past ≤ u → IsOrderOf kind past u cs → HasOrderOf kind past
has_order_from kind past u cs h le l = (
  map (settle_call (clock past) (clock past)) cs,
  order_at kind
      past u (clock past) cs h le (omega arith) l,
)

pub order_later : (kind : Kind) (past : List Event) (t : ℕ) → IsHistoryOf kind past → clock past ≤ t
    → HasOrderOf kind past → (cs : List Call) × IsOrderOf kind past t cs
order_later kind past t h le l = (
  map (settle_call (clock past) t) l.0,
  order_at kind past
      (clock past) t l.0 h (omega arith) le l.1,
)
