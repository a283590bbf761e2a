-- From an order that was found to a linearization.
use Rattle.std.proofs.Common.{◌≡◌, ℕ, ◌+◌, ◌<◌, ◌≤◌, ◌==◌, Bool, true, false, cond, List, [], ◌∷◌}
use Rattle.std.proofs.Common.{◌++◌, Option, Some, None, length, take, get_or, refl, ap, sym, ◌∙◌}
use Rattle.std.proofs.Common.{subst, arith, append_assoc, append-nil}
use Rattle.std.specs.List.Sorted.{IsPermutation}
use Rattle.std.proofs.lemmas.Bool.{eqb-true, eq-eqb}
use Rattle.std.proofs.lemmas.List.{take_more, length-take}
use Rattle.std.proofs.lemmas.List.Sorted.{IsPermutation-trans, IsPermutation-append_comm}
use Rattle.std.proofs.lemmas.List.Sorted.{All-permutation}
use Rattle.calls_core.specs.declared.history.Kind.TheVariants.{Buffer}
use Rattle.calls_core.specs.declared.history.Reply.{Reply}
use Rattle.calls_core.specs.declared.history.Event.{Event}
use Rattle.calls_core.specs.declared.history.PendingCall.{PendingCall}
use Rattle.calls_core.specs.declared.history.Call.{Call}
use Rattle.calls_core.specs.Lists.{Each, EachPair}
use Rattle.calls_core.specs.Histories.{Takes, IsHistoryOf, clock, completion, completed_calls}
use Rattle.calls_core.specs.Histories.{pending_calls}
use Rattle.calls_core.specs.Linearizations.{KeepsOrder, answered_one, answered_calls}
use Rattle.calls_core.specs.Outcomes.{IsOrderOf}
use Rattle.calls_core.specs.Calls.{Earlier, IsCallOf}
use Rattle.calls_core.proofs.Positions.{are_calls_of}
use Rattle.calls_core.proofs.Lists.{each_weaker, each_append, all_from_each, all_pairs_from_each}
use Rattle.calls_core.proofs.Filters.{each_from_all}
use Rattle.calls_buffers.specs.kept.Orders.{answered_from, IsFound}
use Rattle.calls_buffers.proofs.Runs.{IsBufferCall, is_run}
use Rattle.calls_buffers.proofs.Tallies.{answered_each}

not_equal : (a b : ℕ) → b < a → (a == b) ≡ false
not_equal a b lt = go (a == b) refl
  where
    go : (x : Bool) → (a == b) ≡ x → x ≡ false
    go true e = absurd (let same : a ≡ b = eqb-true a b e in omega arith)
    go false e = refl

-- replies by places are replies by calls
record IsAnswered (t : ℕ) (os : List PendingCall) (cs : List Call) : Type 0 where
  answer : PendingCall → Option Reply
  same : answered_calls t answer os ≡ cs

same_answers : (t : ℕ) (f g : PendingCall → Option Reply) (os : List PendingCall)
    → Each (λ (o : PendingCall). f o ≡ g o) os → answered_calls t f os ≡ answered_calls t g os
same_answers t f g [] h = refl
same_answers t f g (o ∷ os) h = ap (λ r. answered_one t o r ++ answered_calls t f os) h.0
    ∙ ap (λ zs. answered_one t o (g o) ++ zs) (same_answers t f g os h.1)

answered_by : (t : ℕ) (answers : List (Option Reply)) (i : ℕ) (os : List PendingCall)
    → EachPair Earlier os → IsAnswered t os (answered_from t answers i os)
answered_by t answers i [] h = record { answer = λ o. None; same = refl }
answered_by t answers i (o ∷ os) h =
    let r = answered_by t answers (i + 1) os h.1 in
    let own : Option Reply = get_or answers i None in
    let f : PendingCall → Option Reply =
    λ (p : PendingCall). cond (p.first == o.first) own (r.answer p) in
    let here : f o ≡ own = ap (λ b. cond b own (r.answer o)) (eq-eqb o.first o.first refl) in
    let there : Each (λ (p : PendingCall). f p ≡ r.answer p) os =
    each_weaker (Earlier o) (λ (p : PendingCall). f p ≡ r.answer p) (λ p lt.
    ap (λ b. cond b own (r.answer p)) (not_equal p.first o.first lt)) os h.0 in
    record {
      answer = f;
      same = ap (λ q. answered_one t o q ++ answered_calls t f os) here
          ∙ ap (λ zs. answered_one t o own ++ zs) (same_answers t f r.answer os there ∙ r.same);
    }

pub order_found : (n t : ℕ) (past : List Event) (cs : List Call) → IsHistoryOf (Buffer n) past
    → clock past ≤ t → IsFound n (completed_calls past) (pending_calls past) t cs
    → IsOrderOf (Buffer n) past t cs
order_found n t past cs h le f =
    let done = completed_calls past in
    let pending = pending_calls past in
    let calls = are_calls_of (Buffer n) past h in
    let a = answered_by t f.answers 0 pending calls.rises in
    let answered = answered_calls t a.answer pending in
    let all : IsPermutation (done ++ answered) cs =
    subst (λ zs. IsPermutation (done ++ zs) cs) (sym a.same) f.moved in
    let moved : IsPermutation (answered ++ done) cs = IsPermutation-trans (answered ++ done)
    (done ++ answered) cs (IsPermutation-append_comm answered done) all in
    let fits : Each (IsBufferCall n) cs = each_from_all (IsBufferCall n) cs
    (All-permutation (IsBufferCall n) (answered ++ done) cs moved
    (all_from_each (IsBufferCall n) (answered ++ done) (each_append (IsBufferCall n) answered done
    (answered_each t a.answer (λ (o : PendingCall). Takes (Some (Buffer n)) o.op) (IsBufferCall n)
    (λ o x k. k) pending calls.fits)
    (each_weaker (IsCallOf (Buffer n) (clock past)) (IsBufferCall n) (λ c k. k.fits) done
    calls.completed)))) in
    record {
      answer = a.answer;
      each_once = moved;
      in_order = all_pairs_from_each KeepsOrder cs f.legal.in_order;
      run = is_run n cs fits f.legal.run;
    }

-- ONE PENDING CALL MORE

answered_end : (t : ℕ) (answers : List (Option Reply)) (i k : ℕ) (os : List PendingCall)
    (o : PendingCall) → k ≡ i + length os
    → answered_from t answers i (os ++ o ∷ []) ≡ answered_from t answers i os
    ++ answered_one t o (get_or answers k None)
answered_end t answers i k [] o e =
    let same : i ≡ k = omega arith in
    append-nil (answered_one t o (get_or answers i None))
    ∙ ap (λ j. answered_one t o (get_or answers j None)) same
answered_end t answers i k (p ∷ os) o e =
    ap (λ zs. answered_one t p (get_or answers i None) ++ zs)
    (answered_end t answers (i + 1) k os o (omega arith))
    ∙ sym (append_assoc (answered_one t p (get_or answers i None)) (answered_from t answers (i + 1)
    os) (answered_one t o (get_or answers k None)))

pub answered_more : (t : ℕ) (answers : List (Option Reply)) (k : ℕ) (os : List PendingCall)
    (d : PendingCall) (r : Option Reply) → k < length os → get_or answers k None ≡ r
    → answered_from t answers 0 (take (k + 1) os) ≡ answered_from t answers 0 (take k os)
    ++ answered_one t (get_or os k d) r
answered_more t answers k os d r lt e =
    ap (answered_from t answers 0) (take_more os k d lt)
    ∙ answered_end t answers 0 k (take k os) (get_or os k d) (omega (arith, length-take k os))
    ∙ ap (λ q. answered_from t answers 0 (take k os) ++ answered_one t (get_or os k d) q) e

-- one pending call more: without a reply, and with one
pub answered_none : (t : ℕ) (answers : List (Option Reply)) (k : ℕ) (os : List PendingCall)
    (d : PendingCall) (old new : List Call) → k < length os → get_or answers k None ≡ None
    → old ≡ answered_from t answers 0 (take k os) → new ≡ old
    → new ≡ answered_from t answers 0 (take (k + 1) os)
answered_none t answers k os d old new lt e is same =
    let before = answered_from t answers 0 (take k os) in
    let after = answered_more t answers k os d None lt e in
    same ∙ is ∙ sym (append-nil before) ∙ sym after

pub answered_some : (t : ℕ) (answers : List (Option Reply)) (k : ℕ) (os : List PendingCall)
    (d : PendingCall) (r : Reply) (old new : List Call) → k < length os
    → get_or answers k None ≡ Some r → old ≡ answered_from t answers 0 (take k os)
    → new ≡ old ++ completion t r (get_or os k d) ∷ []
    → new ≡ answered_from t answers 0 (take (k + 1) os)
answered_some t answers k os d r old new lt e is more =
    let own : List Call = completion t r (get_or os k d) ∷ [] in
    let after = answered_more t answers k os d (Some r) lt e in
    more ∙ ap (λ zs. zs ++ own) is ∙ sym after

-- the same of the calls as they were listed
pub order_of_found : (n t : ℕ) (past : List Event) (done : List Call) (pending : List PendingCall)
    (cs : List Call) → IsHistoryOf (Buffer n) past → clock past ≤ t → done ≡ completed_calls past
    → pending ≡ pending_calls past → IsFound n done pending t cs → IsOrderOf (Buffer n) past t cs
order_of_found n t past done pending cs h le d p f =
    order_found n t past cs h le (subst (λ zs. IsFound n zs (pending_calls past) t cs) d
    (subst (λ os. IsFound n done os t cs) p f))
