-- A linearization by later responses is one by answers.
use Rattle.std.proofs.Common.{◌≡◌, ℕ, ◌<◌, ◌≤◌, inl, inr, min, Bool, true, false, ◌==◌}
use Rattle.std.proofs.Common.{cond, List, [], ◌∷◌, ◌++◌, map, Option, Some, None, refl, ap, sym}
use Rattle.std.proofs.Common.{◌∙◌, arith, subst}
use Rattle.std.specs.List.{filter}
use Rattle.std.specs.List.Sorted.{IsPermutation}
use Rattle.std.proofs.lemmas.Bool.{eq-eqb, ne_eqb, cases_lt}
use Rattle.std.proofs.lemmas.Option.{same_Some, none-some}
use Rattle.std.proofs.lemmas.List.Sorted.{IsPermutation-refl, IsPermutation-cons}
use Rattle.std.proofs.lemmas.List.Sorted.{IsPermutation-trans, IsPermutation-sym}
use Rattle.std.proofs.lemmas.List.Sorted.{IsPermutation-append_left, IsPermutation-map}
use Rattle.std.proofs.lemmas.List.Sorted.{All-permutation}
use Rattle.calls_core.specs.declared.history.Kind.{Kind}
use Rattle.calls_core.specs.declared.history.Reply.{Reply}
use Rattle.calls_core.specs.declared.history.Action.{Action}
use Rattle.calls_core.specs.declared.history.Action.TheVariants.{Invoke, Respond}
use Rattle.calls_core.specs.declared.history.Event.{Event}
use Rattle.calls_core.specs.declared.history.PendingCall.{PendingCall}
use Rattle.calls_core.specs.declared.history.Call.{Call}
use Rattle.calls_core.specs.Lists.{Each, EachPair}
use Rattle.calls_core.specs.Histories.{clock, pending_of, without, pending_after, pending_calls}
use Rattle.calls_core.specs.Histories.{completion, ended_call, completed_calls, IsNext, IsHistory}
use Rattle.calls_core.specs.Linearizations.{IsRun, start}
use Rattle.calls_core.specs.Linearizations.{KeepsOrder, answered_one, answered_calls, IsLinearOrder}
use Rattle.calls_core.specs.Linearizations.{IsAnsweredLinearization}
use Rattle.calls_core.specs.Completions.{is_response, IsLinearizationIn, IsLinearization, with_last}
use Rattle.calls_core.specs.Completions.{known_at, settled_last, settle_call}
use Rattle.calls_core.specs.Calls.{Early, Earlier}
use Rattle.calls_core.proofs.Lists.{each_weaker, each_kept, all_from_each, all_pairs_from_each}
use Rattle.calls_core.proofs.Filters.{each_from_all, permutation_turn}
use Rattle.calls_core.proofs.Positions.{each_without, each_call_by, histories_have_calls}
use Rattle.calls_core.proofs.Settling.{Spans, before, done_begun, each_pair_from_all, early_last}
use Rattle.calls_core.proofs.Settling.{late_last, settled_done, settled_keeps, settled_run}

abbrev pub none : Option Reply → Bool
none None = true
none (Some r) = false

abbrev pub unanswered : (PendingCall → Option Reply) → List PendingCall → List PendingCall
unanswered a os = filter (λ o. none (a o)) os

unanswered_same : (f g : PendingCall → Option Reply) (os : List PendingCall)
    → Each (λ o. f o ≡ g o) os → unanswered f os ≡ unanswered g os
unanswered_same f g [] h = refl
unanswered_same f g (o ∷ os) h = ap (λ r. cond (none r) (o ∷ unanswered f os) (unanswered f os)) h.0
    ∙ ap (λ zs. cond (none (g o)) (o ∷ zs) zs) (unanswered_same f g os h.1)

unanswered_all : (os : List PendingCall) → os ≡ unanswered (λ o. None) os
unanswered_all [] = refl
unanswered_all (o ∷ os) = ap (λ zs. o ∷ zs) (unanswered_all os)

answered_none : (t : ℕ) (os : List PendingCall) → answered_calls t (λ o. None) os ≡ []
answered_none t [] = refl
answered_none t (o ∷ os) = answered_none t os

answered_same : (t : ℕ) (f g : PendingCall → Option Reply) (os : List PendingCall)
    → Each (λ o. f o ≡ g o) os → answered_calls t f os ≡ answered_calls t g os
answered_same t f g [] h = refl
answered_same t f g (o ∷ os) h = ap (λ r. answered_one t o r ++ answered_calls t f os) h.0 ∙ ap
    (λ zs. answered_one t o (g o) ++ zs) (answered_same t f g os h.1)

-- ONE MORE ANSWER

module _ (t w : ℕ) (o : PendingCall) (r : Reply) (a : PendingCall → Option Reply) where
  abbrev pub more : PendingCall → Option Reply
  more p = cond (p.first == o.first) (Some r) (a p)

  more_other : (p : PendingCall) → (p.first ≡ o.first → ⊥) → more p ≡ a p
  more_other p h = ap (λ b. cond b (Some r) (a p)) (ne_eqb p.first o.first h)

  more_own : (p : PendingCall) → p ≡ o → more p ≡ Some r
  more_own p e = ap (λ b. cond b (Some r) (a p)) (eq-eqb p.first o.first
      (ap (λ (q : PendingCall). q.first) e))

  abbrev Answered : List PendingCall → Type 0
  Answered os = (unanswered more os ≡ without w (unanswered a os))
      × IsPermutation (answered_calls t more os) (completion t r o ∷ answered_calls t a os)

  -- the same with one more pending call in front, which has no answer
  kept_answered : (y : PendingCall) (os : List PendingCall) (z : Option Reply) → a y ≡ z
      → more y ≡ a y → (y.worker == w) ≡ false → z ≡ None → Answered os → Answered (y ∷ os)
  kept_answered y os z e same other is h =
      let mine : a y ≡ None = e ∙ is in
      let new : more y ≡ None = same ∙ mine in (
        ap (λ k. cond (none k) (y ∷ unanswered more os) (unanswered more os)) new ∙ ap (λ zs.
            y ∷ zs) h.0
            ∙ sym (ap (λ b. cond b (unanswered a os) (y ∷ without w (unanswered a os))) other)
            ∙ sym (ap (λ k. without w (cond (none k) (y ∷ unanswered a os) (unanswered a os)))
            mine),
        subst (λ k. IsPermutation (answered_one t y k ++ answered_calls t more os)
            (completion t r o ∷ (answered_one t y (a y) ++ answered_calls t a os))) (sym new)
            (subst (λ k. IsPermutation (answered_calls t more os)
            (completion t r o ∷ (answered_one t y k ++ answered_calls t a os))) (sym mine) h.1),
      )

  old_answered : (y : PendingCall) (os : List PendingCall) (q : Reply) → a y ≡ Some q → more y ≡ a y
      → Answered os → Answered (y ∷ os)
  old_answered y os q mine same h =
      let new : more y ≡ Some q = same ∙ mine in (
        ap (λ k. cond (none k) (y ∷ unanswered more os) (unanswered more os)) new ∙ h.0 ∙ sym
            (ap (λ k. without w (cond (none k) (y ∷ unanswered a os) (unanswered a os))) mine),
        subst (λ k. IsPermutation (answered_one t y k ++ answered_calls t more os)
            (completion t r o ∷ (answered_one t y (a y) ++ answered_calls t a os))) (sym new)
            (subst (λ k. IsPermutation (completion t q y ∷ answered_calls t more os)
            (completion t r o ∷ (answered_one t y k ++ answered_calls t a os))) (sym mine)
            (IsPermutation-trans _ _ _ (IsPermutation-cons (completion t q y) _ _ h.1)
            (permutation_turn (completion t q y) (completion t r o) (answered_calls t a os)))),
      )

  own_answered : (y : PendingCall) (os : List PendingCall) → a y ≡ None → (y.worker == w) ≡ true
      → y ≡ o → Each (Earlier y) os → Answered (y ∷ os)
  own_answered y os mine own e later =
      let new : more y ≡ Some r = more_own y e in
      let at : y.first ≡ o.first = ap (λ (q : PendingCall). q.first) e in
      let rest : Each (λ p. more p ≡ a p) os = each_weaker (Earlier y) (λ p. more p ≡ a p) (λ p lt.
      more_other p (λ q. omega arith)) os later in (
        ap (λ k. cond (none k) (y ∷ unanswered more os) (unanswered more os)) new
            ∙ unanswered_same more a os rest ∙ sym (ap (λ b.
            cond b (unanswered a os) (y ∷ without w (unanswered a os))) own)
            ∙ sym (ap (λ k. without w (cond (none k) (y ∷ unanswered a os) (unanswered a os)))
            mine),
        subst (λ k. IsPermutation (answered_one t y k ++ answered_calls t more os)
            (completion t r o ∷ (answered_one t y (a y) ++ answered_calls t a os))) (sym new)
            (subst (λ k. IsPermutation (completion t r y ∷ answered_calls t more os)
            (completion t r o ∷ (answered_one t y k ++ answered_calls t a os))) (sym mine)
            (subst (λ (z : PendingCall). IsPermutation (completion t r y ∷ answered_calls t more os)
            (completion t r z ∷ answered_calls t a os)) e
            (subst (λ zs. IsPermutation (completion t r y ∷ answered_calls t more os)
            (completion t r y ∷ zs)) (answered_same t more a os rest) (IsPermutation-refl _)))),
      )

  pub answered : (os : List PendingCall) → EachPair Earlier os
      → pending_of w (unanswered a os) ≡ Some o → Answered os
  answered [] h e = absurd (none-some o e)
  answered (y ∷ os) h e = by_answer (answered os h.1) (a y) refl e
    where
      behind : pending_of w (unanswered a os) ≡ Some o → more y ≡ a y
      behind is =
          (let lt : y.first < o.first = each_call_by (Earlier y) w (unanswered a os) o
          (each_kept (Earlier y) (λ p. none (a p)) os h.0) is in
          more_other y (λ q. omega arith))

      by_worker : (pending_of w (unanswered a os) ≡ Some o → Answered os) → (b : Bool)
          → (y.worker == w) ≡ b → a y ≡ None → cond b (Some y) (pending_of w (unanswered a os))
          ≡ Some o → Answered (y ∷ os)
      by_worker ih true own mine is = own_answered y os mine own (same_Some y o is) h.0
      by_worker ih false own mine is = kept_answered y os (a y) refl (behind is) own mine (ih is)

      by_answer : (pending_of w (unanswered a os) ≡ Some o → Answered os) → (z : Option Reply)
          → a y ≡ z → pending_of w (cond (none z) (y ∷ unanswered a os) (unanswered a os)) ≡ Some o
          → Answered (y ∷ os)
      by_answer ih None mine is = by_worker ih (y.worker == w) refl mine is
      by_answer ih (Some q) mine is = old_answered y os q mine (behind is) (ih is)

-- ALL LATER RESPONSES

known_early : (t : ℕ) (c : Call) → c.last < t → known_at t c ≡ c
known_early t c lt = (let e : min c.last t ≡ c.last = omega arith in ap (with_last c) e)

pub known_all : (m t : ℕ) (cs : List Call) → m ≤ t → Each (Spans m) cs → map (known_at t) cs ≡ cs
known_all m t [] le h = refl
known_all m t (c ∷ cs) le h = ap (λ d. d ∷ map (known_at t) cs)
    (known_early t c (let lt : c.last < m = h.0.1 in omega arith)) ∙ ap (λ zs.
    c ∷ zs) (known_all m t cs le h.1)

-- at the end of the history, a settled call is the call as it is known
same_last : (m n : ℕ) → settled_last m m n ≡ min n m
same_last m n = elim (cases_lt n m) [
  | inl lt ↦ early_last m m n lt ∙ omega arith
  | inr le ↦
      late_last m m n le ∙ omega arith
]

pub settled_known : (m : ℕ) (cs : List Call) → map (settle_call m m) cs ≡ map (known_at m) cs
settled_known m [] = refl
settled_known m (c ∷ cs) = ap (λ n. with_last c n ∷ map (settle_call m m) cs) (same_last m c.last)
    ∙ ap
    (λ zs. known_at m c ∷ zs) (settled_known m cs)

module _ (kinds : List Kind) (past : List Event) (t : ℕ) where
  record Completion (late : List Event) : Type 0 where
    answer : PendingCall → Option Reply
    left : pending_calls (late ++ past) ≡ unanswered answer (pending_calls past)
    calls : IsPermutation (map (settle_call (clock past) t) (completed_calls (late ++ past)))
        (answered_calls t answer (pending_calls past) ++ completed_calls past)
    later : clock past ≤ clock (late ++ past)
    pending : Each (Early (clock past)) (pending_calls (late ++ past))
    firsts : Each (λ (c : Call). c.first < clock past) (completed_calls (late ++ past))

  completion_more : (x : Event) (action : Action) (late : List Event) (o : Option PendingCall)
      → is_response action ≡ true → pending_of x.worker (pending_calls (late ++ past)) ≡ o
      → IsNext kinds action o → clock (late ++ past) ≤ x.at → IsHistory kinds past
      → (k : Completion late)
      → (answer : PendingCall → Option Reply) × (pending_after x action
      (pending_calls (late ++ past)) ≡ unanswered answer (pending_calls past))
      × IsPermutation (map (settle_call (clock past) t) (ended_call x action o ++ completed_calls
      (late ++ past))) (answered_calls t answer (pending_calls past) ++ completed_calls past)
      × Each (λ (c : Call). c.first < clock past) (ended_call x action o ++ completed_calls
      (late ++ past))
  completion_more x (Invoke j op) late o is e f le h k = cc
  completion_more x (Respond r) late None is e f le h k = absurd f
  completion_more x (Respond r) late (Some o) is e f le h k =
      let m = clock past in
      let w = x.worker in
      let known : pending_of w (unanswered k.answer (pending_calls past)) ≡ Some o =
      subst (λ zs. pending_of w zs ≡ Some o) k.left e in
      let step = answered t w o r k.answer (pending_calls past)
      (histories_have_calls kinds past h).pending_calls.rises known in
      let at : settled_last m t x.at ≡ t = late_last m t x.at (omega (arith, k.later)) in
      let first : o.first < m = each_call_by (Early m) w (pending_calls (late ++ past)) o k.pending
      e in (
        more t w o r k.answer,
        ap (without w) k.left ∙ sym step.0,
        subst (λ n. IsPermutation (completion n r o ∷ map (settle_call m t)
            (completed_calls (late ++ past))) (answered_calls t (more t w o r k.answer)
            (pending_calls past) ++ completed_calls past)) (sym at)
            (IsPermutation-trans _ _ _ (IsPermutation-cons (completion t r o) _ _ k.calls)
            (IsPermutation-append_left (completed_calls past) _ _
            (IsPermutation-sym _ _ step.1))),
        (first, k.firsts),
      )

  pending_more : (x : Event) (action : Action) (os : List PendingCall) (m : ℕ)
      → is_response action ≡ true → Each (Early m) os → Each (Early m) (pending_after x action os)
  pending_more x (Invoke j op) os m is h = cc
  pending_more x (Respond r) os m is h = each_without (Early m) x.worker os h

  with_responses : (late : List Event) → Each (λ (x : Event). is_response x.action ≡ true) late
      → IsHistory kinds past → IsHistory kinds (late ++ past) → Completion late
  with_responses [] responses h g =
      let b = before kinds (completed_calls past) (pending_calls past) (clock past)
      (histories_have_calls kinds past h) in
      let spans = b.spans in
      record {
        answer = λ o. None;
        left = unanswered_all (pending_calls past);
        calls = subst (λ zs. IsPermutation zs (answered_calls t (λ o. None) (pending_calls past)
            ++ completed_calls past)) (sym (settled_done (clock past) t (completed_calls past)
            spans))
            (subst (λ zs. IsPermutation (completed_calls past) (zs ++ completed_calls past))
            (sym (answered_none t (pending_calls past)))
            (IsPermutation-refl (completed_calls past)));
        later = omega arith;
        pending = b.early;
        firsts = done_begun (clock past) (completed_calls past) spans;
      }
  with_responses (x ∷ late) responses h g =
      let k = with_responses late responses.1 h g.2 in
      let le : clock (late ++ past) ≤ x.at = g.0 in
      let s = completion_more x x.action late (pending_of x.worker (pending_calls (late ++ past)))
      responses.0 refl g.1 le h k in
      record {
        answer = s.0;
        left = s.1;
        calls = s.2;
        later = omega (arith, k.later);
        pending = pending_more x x.action (pending_calls (late ++ past)) (clock past) responses.0
            k.pending;
        firsts = s.3;
      }

-- a linearization by later responses, as one by answers that are returned at t
pub order_from_responses : (Run : List Call → Type 0) (kinds : List Kind) (past : List Event)
    (t : ℕ)
    (cs : List Call) → clock past ≤ t → IsHistory kinds past
    → (Run cs → Run (map (settle_call (clock past) t) cs)) → IsLinearizationIn Run kinds past cs
    → IsLinearOrder Run (completed_calls past) (pending_calls past) t
    (map (settle_call (clock past) t) cs)
order_from_responses Run kinds past t cs le h still l =
    let m = clock past in
    let k = with_responses kinds past t l.late l.responses h l.history in
    let once : IsPermutation (map (settle_call m t) (completed_calls (l.late ++ past)))
    (map (settle_call m t) cs) =
    IsPermutation-map (settle_call m t) (completed_calls (l.late ++ past))
    cs l.legal.each_once in
    let firsts : Each (λ (c : Call). c.first < m) cs =
    each_from_all (λ (c : Call). c.first < m) cs (All-permutation (λ (c : Call). c.first < m)
    (completed_calls (l.late ++ past)) cs l.legal.each_once
    (all_from_each (λ (c : Call). c.first < m) (completed_calls (l.late ++ past)) k.firsts)) in
    record {
      answer = k.answer;
      each_once = IsPermutation-trans _ _ _ (IsPermutation-sym _ _ k.calls) once;
      in_order = all_pairs_from_each KeepsOrder (map (settle_call m t) cs)
          (settled_keeps m t cs le firsts (each_pair_from_all KeepsOrder cs l.legal.in_order));
      run = still l.legal.run;
    }

pub responses_become_answers : (kinds : List Kind) (past : List Event) (cs : List Call)
    → IsHistory kinds past → IsLinearization kinds past cs
    → IsAnsweredLinearization kinds past (map (known_at (clock past)) cs)
responses_become_answers kinds past cs h l =
    let t = clock past in
    subst (IsAnsweredLinearization kinds past) (settled_known t cs)
    (order_from_responses (IsRun (start kinds)) kinds past t cs (omega arith) h
    (settled_run t t (start kinds) cs) l)
