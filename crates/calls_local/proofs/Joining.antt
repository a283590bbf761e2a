-- The placed orders of the objects, one after another.
use Rattle.std.proofs.Common.{◌≡◌, ℕ, zero, suc, ◌+◌, ◌<◌, ◌≤◌, inl, inr, true, ◌==◌}
use Rattle.std.proofs.Common.{List, [], ◌∷◌, ◌++◌, length, Option, Some, None, refl, ap, sym}
use Rattle.std.proofs.Common.{◌∙◌, arith, subst, slice_get, append-nil}
use Rattle.std.proofs.lemmas.Bool.{eqb-true, eq-eqb, ne_eqb, cases_lt}
use Rattle.std.proofs.lemmas.List.Elements.{filter-append}
use Rattle.std.proofs.lemmas.List.Sorted.{All-permutation, IsPermutation-refl}
use Rattle.calls_core.specs.declared.history.Kind.{Kind}
use Rattle.calls_core.specs.declared.history.Op.{Op}
use Rattle.calls_core.specs.declared.history.Reply.{Reply}
use Rattle.calls_core.specs.declared.history.PendingCall.{PendingCall}
use Rattle.calls_core.specs.declared.history.Call.{Call}
use Rattle.calls_core.specs.declared.history.Placed.{Placed}
use Rattle.calls_core.specs.Lists.{Each}
use Rattle.calls_core.specs.Histories.{Takes}
use Rattle.calls_core.specs.Linearizations.{IsLegalHistory, IsRun, start, answered_one}
use Rattle.calls_core.specs.Linearizations.{answered_calls, IsLinearOrder, calls_on, pending_on}
use Rattle.calls_core.specs.Points.{calls_of, by_points, IsPlacedOrder, placed_on}
use Rattle.calls_core.specs.Calls.{Fitting, IsCompletedCall, AreCalls}
use Rattle.calls_core.proofs.Lists.{each_weaker, each_append, each_filter, all_from_each}
use Rattle.calls_core.proofs.Filters.{each_from_all, filter_yes, filter_no}
use Rattle.calls_local.proofs.Objects.{order_of_placed}

-- PARTS OF LISTS

pub all_on : (k : ℕ) (ps : List Placed) → Each (λ (p : Placed). p.call.object ≡ k) ps
    → placed_on k ps ≡ ps
all_on k [] h = refl
all_on k (p ∷ ps) h = filter_yes (λ (q : Placed). q.call.object == k) p ps
    (eq-eqb p.call.object k h.0) ∙ ap (λ zs. p ∷ zs) (all_on k ps h.1)

none_on : (k : ℕ) (ps : List Placed) → Each (λ (p : Placed). p.call.object ≡ k → ⊥) ps
    → placed_on k ps ≡ []
none_on k [] h = refl
none_on k (p ∷ ps) h = filter_no (λ (q : Placed). q.call.object == k) p ps
    (ne_eqb p.call.object k h.0) ∙ none_on k ps h.1

no_calls : (k : ℕ) (cs : List Call) → Each (λ (c : Call). c.object ≡ k → ⊥) cs → calls_on k cs ≡ []
no_calls k [] h = refl
no_calls k (c ∷ cs) h = filter_no (λ (d : Call). d.object == k) c cs (ne_eqb c.object k h.0)
    ∙ no_calls k cs h.1

no_pending : (k : ℕ) (os : List PendingCall) → Each (λ (o : PendingCall). o.object ≡ k → ⊥) os
    → pending_on k os ≡ []
no_pending k [] h = refl
no_pending k (o ∷ os) h = filter_no (λ (p : PendingCall). p.object == k) o os
    (ne_eqb o.object k h.0) ∙ no_pending k os h.1

pub each_unmap : (Q : Call → Type 0) (ps : List Placed) → Each Q (calls_of ps)
    → Each (λ (p : Placed). Q p.call) ps
each_unmap Q [] h = tt
each_unmap Q (p ∷ ps) h = (h.0, each_unmap Q ps h.1)

-- THE CALLS OF ONE OBJECT

one_object : (t k : ℕ) (o : PendingCall) (r : Option Reply) → o.object ≡ k
    → Each (λ (c : Call). c.object ≡ k) (answered_one t o r)
one_object t k o None e = tt
one_object t k o (Some r) e = (e, tt)

answered_object : (t k : ℕ) (answer : PendingCall → Option Reply) (os : List PendingCall)
    → Each (λ (o : PendingCall). o.object ≡ k) os → Each (λ (c : Call). c.object ≡ k)
    (answered_calls t answer os)
answered_object t k answer [] h = tt
answered_object t k answer (o ∷ os) h = each_append (λ (c : Call). c.object ≡ k)
    (answered_one t o (answer o)) (answered_calls t answer os) (one_object t k o (answer o) h.0)
    (answered_object t k answer os h.1)

each_any : {X : Type 0} (xs : List X) → Each (λ x. Unit {0}) xs
each_any [] = tt
each_any (x ∷ xs) = (tt, each_any xs)

pub order_object : (n : ℕ → ℕ) (k t : ℕ) (done : List Call) (pending : List PendingCall)
    (cs : List Call) → IsLinearOrder (IsLegalHistory n) (calls_on k done) (pending_on k pending) t
    cs → Each (λ (c : Call). c.object ≡ k) cs
order_object n k t done pending cs h =
    let calls : Each (λ (c : Call). c.object ≡ k) (calls_on k done) =
    each_weaker (λ (c : Call). Unit {0} × ((c.object == k) ≡ true)) (λ (c : Call). c.object ≡ k)
    (λ c e. eqb-true c.object k e.1) (calls_on k done) (each_filter (λ (c : Call). Unit {0})
    (λ (c : Call). c.object == k) done (each_any done)) in
    let open_ones : Each (λ (o : PendingCall). o.object ≡ k) (pending_on k pending) =
    each_weaker (λ (o : PendingCall). Unit {0} × ((o.object == k) ≡ true))
    (λ (o : PendingCall). o.object ≡ k) (λ o e. eqb-true o.object k e.1) (pending_on k pending)
    (each_filter (λ (o : PendingCall). Unit {0}) (λ (o : PendingCall). o.object == k) pending
    (each_any pending)) in
    let all = answered_calls t h.answer (pending_on k pending) ++ calls_on k done in
    each_from_all (λ (c : Call). c.object ≡ k) cs (All-permutation (λ (c : Call). c.object ≡ k) all
    cs h.each_once
    (all_from_each (λ (c : Call). c.object ≡ k) all (each_append (λ (c : Call). c.object ≡ k)
    (answered_calls t h.answer (pending_on k pending)) (calls_on k done)
    (answered_object t k h.answer (pending_on k pending) open_ones) calls)))

placed_object : (n : ℕ → ℕ) (k t : ℕ) (done : List Call) (pending : List PendingCall)
    (ps : List Placed) → IsPlacedOrder (IsLegalHistory n) (calls_on k done) (pending_on k pending)
    t ps → Each (λ (p : Placed). p.call.object ≡ k) ps
placed_object n k t done pending ps h = each_unmap (λ (c : Call). c.object ≡ k) ps
    (order_object n k t done pending (calls_of ps) h.legal)

-- ONE MORE OBJECT

-- a placed order of the calls of each object with an index below n, and no calls of others
pub record ArePlacedBelow (kinds : List Kind) (n : ℕ) (done : List Call)
    (pending : List PendingCall) (t : ℕ) (ps : List Placed) : Type 0 where
  pub below : Each (λ (p : Placed). p.call.object < n) ps
  pub placed : (k : ℕ) → k < n → IsPlacedOrder (IsLegalHistory (start kinds k)) (calls_on k done)
      (pending_on k pending) t (placed_on k ps)

module _ (kinds : List Kind) (done : List Call) (pending : List PendingCall) (t : ℕ) where
  pub placed_none : ArePlacedBelow kinds 0 done pending t []
  placed_none = record { below = tt; placed = λ k lt. absurd (omega arith) }

  pub placed_more : (n : ℕ) (ps qs more : List Placed) → ArePlacedBelow kinds n done pending t ps
      → IsPlacedOrder (IsLegalHistory (start kinds n)) (calls_on n done) (pending_on n pending) t
      qs → more ≡ ps ++ qs → ArePlacedBelow kinds (n + 1) done pending t more
  placed_more n ps qs more h q is =
      let own = placed_object (start kinds n) n t done pending qs q in
      let parts : (k : ℕ) → placed_on k more ≡ placed_on k ps ++ placed_on k qs = λ k.
      ap (placed_on k) is ∙ filter-append (λ (p : Placed). p.call.object == k) ps qs in
      record {
        below = subst (Each (λ (p : Placed). p.call.object < n + 1)) (sym is)
            (each_append (λ (p : Placed). p.call.object < n + 1) ps qs
            (each_weaker (λ (p : Placed). p.call.object < n) (λ (p : Placed). p.call.object < n
            + 1) (λ p lt. omega arith) ps h.below)
            (each_weaker (λ (p : Placed). p.call.object ≡ n) (λ (p : Placed). p.call.object < n + 1)
            (λ p e. omega arith) qs own));
        placed = λ k lt. elim (cases_lt k n) [
          | inl old ↦
              let rest : placed_on k qs ≡ [] = none_on k qs
              (each_weaker (λ (p : Placed). p.call.object ≡ n) (λ (p : Placed). p.call.object
              ≡ k → ⊥) (λ p e f. omega arith) qs own) in
              subst (IsPlacedOrder (IsLegalHistory (start kinds k)) (calls_on k done)
              (pending_on k pending) t) (sym (parts k ∙ ap (λ zs. placed_on k ps ++ zs) rest
              ∙ append-nil (placed_on k ps))) (h.placed k old)
          | inr ge ↦
              let same : n ≡ k = omega arith in
              let none : placed_on n ps ≡ [] = none_on n ps
              (each_weaker (λ (p : Placed). p.call.object < n) (λ (p : Placed). p.call.object
              ≡ n → ⊥) (λ p lt f. omega arith) ps h.below) in
              subst (λ j. IsPlacedOrder (IsLegalHistory (start kinds j)) (calls_on j done)
              (pending_on j pending) t (placed_on j more)) same
              (subst (IsPlacedOrder (IsLegalHistory (start kinds n)) (calls_on n done)
              (pending_on n pending) t) (sym (parts n ∙ ap (λ zs. zs ++ placed_on n qs) none
              ∙ all_on n qs own)) q)
        ];
      }

  nothing : (n : ℕ → ℕ) → IsPlacedOrder (IsLegalHistory n) [] [] t []
  nothing n = record {
    legal = record {
      answer = λ o. None;
      each_once = IsPermutation-refl [];
      in_order =
          λ i j d lt le. absurd (omega arith);
      run = tt;
    };
    within = tt;
    rises = tt;
  }

  pub no_kind : (ks : List Kind) (j : ℕ) → length ks ≤ j → slice_get ks j ≡ None
  no_kind [] j le = refl
  no_kind (k ∷ ks) zero le = absurd (omega arith)
  no_kind (k ∷ ks) (suc j) le = no_kind ks j (omega arith)

  takes_none : (kind : Option Kind) (op : Op) → kind ≡ None → Takes kind op → ⊥
  takes_none kind op e h = subst (λ k. Takes k op) e h

  -- the empty order, for an index that no object has
  pub placed_nothing : (k : ℕ) → AreCalls kinds done pending t → slice_get kinds k ≡ None
      → IsPlacedOrder (IsLegalHistory (start kinds k)) (calls_on k done) (pending_on k pending) t
      []
  placed_nothing k calls kind =
      let cs : calls_on k done ≡ [] = no_calls k done (each_weaker (IsCompletedCall kinds t)
      (λ (c : Call). c.object ≡ k → ⊥)
      (λ c d e. takes_none (slice_get kinds c.object) c.op (ap (slice_get kinds) e ∙ kind) d.fits)
      done calls.completed_calls.completed) in
      let os : pending_on k pending ≡ [] = no_pending k pending (each_weaker (Fitting kinds)
      (λ (o : PendingCall). o.object ≡ k → ⊥)
      (λ o f e. takes_none (slice_get kinds o.object) o.op (ap (slice_get kinds) e ∙ kind) f)
      pending calls.pending_calls.fits) in
      subst (λ zs. IsPlacedOrder (IsLegalHistory (start kinds k)) zs (pending_on k pending) t [])
      (sym cs)
      (subst (λ zs. IsPlacedOrder (IsLegalHistory (start kinds k)) [] zs t []) (sym os)
      (nothing (start kinds k)))

  pub all_placed : (n : ℕ) (ps : List Placed) → AreCalls kinds done pending t → length kinds ≤ n
      → ArePlacedBelow kinds n done pending t ps → IsPlacedOrder (IsRun (start kinds)) done pending
      t (by_points ps)
  all_placed n ps calls le h =
      order_of_placed (start kinds) done pending t ps (λ k. elim (cases_lt k n) [
        | inl lt ↦ h.placed k lt
        | inr ge ↦
            let none : placed_on k ps ≡ [] = none_on k ps
            (each_weaker (λ (p : Placed). p.call.object < n) (λ (p : Placed). p.call.object ≡ k
            → ⊥) (λ p lt e. omega arith) ps h.below) in
            subst (IsPlacedOrder (IsLegalHistory (start kinds k)) (calls_on k done)
            (pending_on k pending) t) (sym none) (placed_nothing k calls
            (no_kind kinds k (omega arith)))
      ])

  -- a placed order for each object, and so one of all
  placed_below : (n : ℕ) → ((k : ℕ) → (qs : List Placed)
      × IsPlacedOrder (IsLegalHistory (start kinds k)) (calls_on k done) (pending_on k pending) t
      qs) → (ps : List Placed) × ArePlacedBelow kinds n done pending t ps
  placed_below zero l = ([], placed_none)
  placed_below (suc n) l =
      let r = placed_below n l in
      let q = l n in
      let next : n + 1 ≡ suc n = omega arith in (
        r.0 ++ q.0,
        subst (λ m. ArePlacedBelow kinds m done pending t (r.0 ++ q.0)) next
            (placed_more n r.0 q.0 (r.0 ++ q.0) r.1 q.1 refl),
      )

  pub whole_placed : AreCalls kinds done pending t → ((k : ℕ) → (qs : List Placed)
      × IsPlacedOrder (IsLegalHistory (start kinds k)) (calls_on k done) (pending_on k pending) t
      qs) → (ps : List Placed) × IsPlacedOrder (IsRun (start kinds)) done pending t ps
  whole_placed calls l = (let r = placed_below (length kinds) l in
      (by_points r.0, all_placed (length kinds) r.0 calls (omega arith) r.1))
