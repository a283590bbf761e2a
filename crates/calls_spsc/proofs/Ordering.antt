-- How an order of the calls so far grows: by an event, or by a pending call that takes effect.
use Rattle.std.proofs.Common.{◌≡◌, ℕ, ◌+◌, ◌≤◌, ◌==◌, true, false, cond, max, nat_lt, List, []}
use Rattle.std.proofs.Common.{◌∷◌, ◌++◌, map, Option, Some, None, refl, ap, sym, ◌∙◌, arith, subst}
use Rattle.std.proofs.Common.{append-nil}
use Rattle.std.specs.List.Sorted.{IsPermutation}
use Rattle.std.proofs.lemmas.Bool.{eq-eqb, ne_eqb, lt-ltb, le-ltb}
use Rattle.std.proofs.lemmas.Option.{same_Some, none-some}
use Rattle.std.proofs.lemmas.List.{map-append}
use Rattle.std.proofs.lemmas.List.Sorted.{All-permutation, IsPermutation-cons, IsPermutation-refl}
use Rattle.std.proofs.lemmas.List.Sorted.{IsPermutation-trans, IsPermutation-sym}
use Rattle.std.proofs.lemmas.List.Sorted.{IsPermutation-append_left, IsPermutation-append_right}
use Rattle.std.proofs.lemmas.List.Sorted.{IsPermutation-middle, IsPermutation-map}
use Rattle.std.proofs.lemmas.List.Sorted.{IsPermutation-to_front}
use Rattle.calls_core.specs.declared.history.Kind.TheVariants.{Buffer}
use Rattle.calls_core.specs.declared.history.Op.{Op}
use Rattle.calls_core.specs.declared.history.Reply.{Reply}
use Rattle.calls_core.specs.declared.history.Action.TheVariants.{Invoke, Respond}
use Rattle.calls_core.specs.declared.history.Event.{Event}
use Rattle.calls_core.specs.declared.history.PendingCall.{PendingCall}
use Rattle.calls_core.specs.declared.history.Call.{Call}
use Rattle.calls_core.specs.Lists.{Each, EachPair}
use Rattle.calls_core.specs.Histories.{clock, pending_of, without, invoked_by, pending_after}
use Rattle.calls_core.specs.Histories.{pending_calls, completion, ended_call, completed_calls}
use Rattle.calls_core.specs.Histories.{Takes, IsHistoryOf}
use Rattle.calls_core.specs.Linearizations.{KeepsOrder, answered_one, answered_calls}
use Rattle.calls_core.specs.Completions.{with_last}
use Rattle.calls_core.specs.Calls.{Early, Earlier, IsCallOf}
use Rattle.calls_core.specs.Outcomes.{HasOrderOf}
use Rattle.calls_core.proofs.Lists.{each_weaker, each_append, each_map, each_pair_append}
use Rattle.calls_core.proofs.Lists.{each_pair_across, each_pair_right, each_pair_map}
use Rattle.calls_core.proofs.Lists.{each_pair_weaker, all_from_each, all_pairs_from_each}
use Rattle.calls_core.proofs.Filters.{each_from_all, permutation_same}
use Rattle.calls_core.proofs.Positions.{are_calls_of}
use Rattle.calls_core.proofs.Settling.{Spans, Begun, AreBefore, before_of, done_begun, all_begun}
use Rattle.calls_buffers.specs.Queues.{Allows, items_after, IsQueueRun}
use Rattle.calls_buffers.proofs.Runs.{IsBufferCall, is_run}
use Rattle.calls_buffers.proofs.Tallies.{answered_each}
use Rattle.calls_spsc.specs.kept.Orders.{QueuesTo, IsQueueOrder, calls_with, IsOrderTo}
use Rattle.calls_spsc.specs.kept.Orders.{AnswersAlike}

-- THE PENDING CALLS

-- a pending call, and those before and after it
record IsBetween (os others : List PendingCall) (o : PendingCall) : Type 0 where
  before : List PendingCall
  behind : List PendingCall
  is : os ≡ before ++ o ∷ behind
  rest : others ≡ before ++ behind

between : (w : ℕ) (os : List PendingCall) (o : PendingCall) → pending_of w os ≡ Some o
    → IsBetween os (without w os) o
between w [] o e = absurd (none-some o e)
between w (p ∷ os) o e =
    elim (p.worker == w) as (λ b. cond b (Some p) (pending_of w os) ≡ Some o
    → IsBetween (p ∷ os) (cond b os (p ∷ without w os)) o) [
      | true ↦ λ his. record {
        before = [];
        behind = os;
        is = ap (λ z. z ∷ os) (same_Some p o his);
        rest = refl;
      }
      | false ↦ λ his. let s = between w os o his in record {
        before = p ∷ s.before;
        behind = s.behind;
        is = ap (λ zs. p ∷ zs) s.is;
        rest = ap (λ zs. p ∷ zs) s.rest;
      }
    ] e

abbrev Elsewhere : PendingCall → PendingCall → Type 0
Elsewhere o p = p.first ≡ o.first → ⊥

-- the others were invoked at other positions
apart : (os others : List PendingCall) (o : PendingCall) → IsBetween os others o
    → EachPair Earlier os → Each (Elsewhere o) others
apart os others o s h =
    let pairs : EachPair Earlier (s.before ++ o ∷ s.behind) = subst (EachPair Earlier) s.is h in
    subst (Each (Elsewhere o)) (sym s.rest) (each_append (Elsewhere o) s.before s.behind
    (each_weaker (λ p. Each (Earlier p) (o ∷ s.behind)) (Elsewhere o) (λ p k e. omega (arith, k.0))
    s.before (each_pair_across Earlier s.before (o ∷ s.behind) pairs))
    (each_weaker (Earlier o) (Elsewhere o) (λ p lt e. omega arith) s.behind
    (each_pair_right Earlier s.before (o ∷ s.behind) pairs).0))

-- ANSWERS

abbrev by_op : (Op → Option Reply) → PendingCall → Option Reply
by_op answer o = answer o.op

module _ (t : ℕ) where
  same_answers : (f g : Op → Option Reply) (os : List PendingCall) → AnswersAlike f g os
      → answered_calls t (by_op f) os ≡ answered_calls t (by_op g) os
  same_answers f g [] h = refl
  same_answers f g (o ∷ os) h =
      ap (λ z. answered_one t o z ++ answered_calls t (by_op f) os) h.0
      ∙ ap (λ zs. answered_one t o (g o.op) ++ zs) (same_answers f g os h.1)

  module _ (a : PendingCall → Option Reply) where
    none_between : (before behind : List PendingCall) (o : PendingCall) → a o ≡ None
        → answered_calls t a (before ++ o ∷ behind) ≡ answered_calls t a (before ++ behind)
    none_between [] behind o e = ap (λ z. answered_one t o z ++ answered_calls t a behind) e
    none_between (p ∷ before) behind o e = ap (λ zs. answered_one t p (a p) ++ zs)
        (none_between before behind o e)

    some_between : (before behind : List PendingCall) (o : PendingCall) (r : Reply)
        → a o ≡ Some r → IsPermutation (answered_calls t a (before ++ o ∷ behind))
        (completion t r o ∷ answered_calls t a (before ++ behind))
    some_between [] behind o r e =
        permutation_same _ _ (ap (λ z. answered_one t o z ++ answered_calls t a behind) e)
    some_between (p ∷ before) behind o r e = IsPermutation-trans _ _ _
        (IsPermutation-append_right (answered_one t p (a p)) _ _ (some_between before behind o r e))
        (IsPermutation-middle (answered_one t p (a p)) (completion t r o)
        (answered_calls t a (before ++ behind)))

    none_less : (os others : List PendingCall) (o : PendingCall) → IsBetween os others o
        → a o ≡ None → answered_calls t a os ≡ answered_calls t a others
    none_less os others o s e = ap (answered_calls t a) s.is ∙ none_between s.before s.behind o e
        ∙ ap (answered_calls t a) (sym s.rest)

    some_first : (os others : List PendingCall) (o : PendingCall) (r : Reply)
        → IsBetween os others o → a o ≡ Some r
        → IsPermutation (answered_calls t a os) (completion t r o ∷ answered_calls t a others)
    some_first os others o r s e = subst (λ zs. IsPermutation (answered_calls t a zs)
        (completion t r o ∷ answered_calls t a others)) (sym s.is)
        (subst (λ zs. IsPermutation (answered_calls t a (s.before ++ o ∷ s.behind))
        (completion t r o ∷ answered_calls t a zs)) (sym s.rest)
        (some_between s.before s.behind o r e))

-- ORDERS

reordered : (n : ℕ) (calls new cs : List Call) (left : List ℕ) → IsPermutation new calls
    → IsQueueOrder n calls cs left → IsQueueOrder n new cs left
reordered n calls new cs left moves h = record {
  each_once = IsPermutation-trans new calls cs moves h.each_once;
  in_order = h.in_order;
  run = h.run;
}

queue_more : (n : ℕ) (items : List ℕ) (cs : List Call) (left : List ℕ) (c : Call)
    → Allows n left c.op c.reply → QueuesTo n items cs left
    → QueuesTo n items (cs ++ c ∷ []) (items_after left c.op c.reply)
queue_more n items [] left c allowed h = (
  subst (λ zs. Allows n zs c.op c.reply) (sym h) allowed,
  ap (λ zs. items_after zs c.op c.reply) h,
)
queue_more n items (d ∷ cs) left c allowed h = (
  h.0,
  queue_more n (items_after items d.op d.reply) cs left c allowed h.1,
)

-- a call that responds after each was invoked may be last
put_last : (n : ℕ) (calls cs : List Call) (left : List ℕ) (c : Call)
    → Each (λ (d : Call). d.first ≤ c.last) cs → Allows n left c.op c.reply
    → IsQueueOrder n calls cs left
    → IsQueueOrder n (c ∷ calls) (cs ++ c ∷ []) (items_after left c.op c.reply)
put_last n calls cs left c late allowed h = record {
  each_once = IsPermutation-trans _ _ _ (IsPermutation-cons c calls cs h.each_once)
      (IsPermutation-sym _ _ (IsPermutation-to_front cs c));
  in_order = each_pair_append KeepsOrder cs (c ∷ []) h.in_order (tt, tt)
      (each_weaker (λ (d : Call). d.first ≤ c.last) (λ d. Each (KeepsOrder d) (c ∷ [])) (λ d le.
      ((λ lt. omega arith), tt)) cs late);
  run = queue_more n [] cs left c allowed h.run;
}

queue_run : (n : ℕ) (items : List ℕ) (cs : List Call) (left : List ℕ) → QueuesTo n items cs left
    → IsQueueRun n items cs
queue_run n items [] left h = tt
queue_run n items (c ∷ cs) left h = (
  h.0,
  queue_run n (items_after items c.op c.reply) cs left h.1,
)

-- RESPONSES MOVED TO LATER POSITIONS

module _ (m : ℕ) (f : ℕ → ℕ) where
  abbrev moved_last : Call → ℕ
  moved_last c = cond (nat_lt c.last m) c.last (max c.last (f c.first))

  -- the call; a response at m or later is at the position that f gives for its invocation, if that
  -- is later
  abbrev moved : Call → Call
  moved c = with_last c (moved_last c)

  rises : (c : Call) → c.last ≤ moved_last c
  rises c =
      elim (nat_lt c.last m) as (λ b. c.last ≤ cond b c.last (max c.last (f c.first))) [
        | true ↦ omega arith
        | false ↦ omega arith
      ]

  moved_queue : (n : ℕ) (items : List ℕ) (cs : List Call) (left : List ℕ)
      → QueuesTo n items cs left → QueuesTo n items (map moved cs) left
  moved_queue n items [] left h = h
  moved_queue n items (c ∷ cs) left h = (
    h.0,
    moved_queue n (items_after items c.op c.reply) cs left h.1,
  )

  moved_order : (n : ℕ) (calls cs : List Call) (left : List ℕ) → IsQueueOrder n calls cs left
      → IsQueueOrder n (map moved calls) (map moved cs) left
  moved_order n calls cs left h = record {
    each_once = IsPermutation-map moved calls cs h.each_once;
    in_order = each_pair_map moved KeepsOrder cs (each_pair_weaker KeepsOrder
        (λ c d. KeepsOrder (moved c) (moved d)) (λ c d keeps lt.
        keeps (let up = rises d in omega arith)) cs h.in_order);
    run = moved_queue n [] cs left h.run;
  }

  moved_done : (cs : List Call) → Each (Spans m) cs → map moved cs ≡ cs
  moved_done [] h = refl
  moved_done (c ∷ cs) h =
      ap (λ b. with_last c (cond b c.last (max c.last (f c.first))) ∷ map moved cs)
      (lt-ltb c.last m h.0.1) ∙ ap (λ zs. c ∷ zs) (moved_done cs h.1)

  moved_to : (t : ℕ) (r : Reply) (o : PendingCall) → m ≤ t → f o.first ≡ t
      → moved (completion m r o) ≡ completion t r o
  moved_to t r o le e =
      let at : max m (f o.first) ≡ t = omega arith in
      ap (λ b. completion (cond b m (max m (f o.first))) r o) (le-ltb m m (omega arith))
      ∙ ap (λ k. completion k r o) at

  moved_one : (t : ℕ) (o : PendingCall) (z : Option Reply) → m ≤ t → f o.first ≡ t
      → map moved (answered_one m o z) ≡ answered_one t o z
  moved_one t o None le e = refl
  moved_one t o (Some r) le e = ap (λ c. c ∷ []) (moved_to t r o le e)

  moved_answers : (t : ℕ) (a : PendingCall → Option Reply) (os : List PendingCall) → m ≤ t
      → Each (λ (o : PendingCall). f o.first ≡ t) os
      → map moved (answered_calls m a os) ≡ answered_calls t a os
  moved_answers t a [] le h = refl
  moved_answers t a (o ∷ os) le h =
      map-append moved (answered_one m o (a o)) (answered_calls m a os)
      ∙ ap (λ zs. zs ++ map moved (answered_calls m a os)) (moved_one t o (a o) le h.0)
      ∙ ap (λ zs. answered_one t o (a o) ++ zs) (moved_answers t a os le h.1)

  moved_calls : (t : ℕ) (a : PendingCall → Option Reply) (os : List PendingCall) (done : List Call)
      → m ≤ t → Each (λ (o : PendingCall). f o.first ≡ t) os → Each (Spans m) done
      → map moved (answered_calls m a os ++ done) ≡ answered_calls t a os ++ done
  moved_calls t a os done le h spans =
      map-append moved (answered_calls m a os) done
      ∙ ap (λ zs. zs ++ map moved done) (moved_answers t a os le h)
      ∙ ap (λ zs. answered_calls t a os ++ zs) (moved_done done spans)

-- the call o responds at u, and the others at t
abbrev at_own : ℕ → ℕ → PendingCall → ℕ → ℕ
at_own u t o i = cond (i == o.first) u t

own_moved : (m u t : ℕ) (a : PendingCall → Option Reply) (others : List PendingCall)
    (o : PendingCall) (r : Reply) (done : List Call) → m ≤ u → m ≤ t → Each (Elsewhere o) others
    → Each (Spans m) done
    → map (moved m (at_own u t o)) (completion m r o ∷ (answered_calls m a others ++ done))
    ≡ completion u r o ∷ (answered_calls t a others ++ done)
own_moved m u t a others o r done early late h spans =
    let f : ℕ → ℕ = at_own u t o in
    ap (λ c. c ∷ map (moved m f) (answered_calls m a others ++ done))
    (moved_to m f u r o early (ap (λ b. cond b u t) (eq-eqb o.first o.first refl)))
    ∙ ap (λ zs. completion u r o ∷ zs) (moved_calls m f t a others done late
    (each_weaker (Elsewhere o) (λ (p : PendingCall). f p.first ≡ t) (λ p ne.
    ap (λ b. cond b u t) (ne_eqb p.first o.first ne)) others h) spans)

-- THE CALLS SO FAR

pub nothing_yet : (n : ℕ) → IsOrderTo n [] (λ op. None) [] []
nothing_yet n = record { each_once = IsPermutation-refl []; in_order = tt; run = refl }

module _ (n : ℕ) (past : List Event) (answer : Op → Option Reply) (cs : List Call)
    (left : List ℕ) where
  abbrev done : List Call
  done = completed_calls past

  abbrev pending : List PendingCall
  pending = pending_calls past

  abbrev m : ℕ
  m = clock past

  are_before : IsHistoryOf (Buffer n) past → AreBefore m done pending
  are_before h = before_of (Buffer n) done pending m (are_calls_of (Buffer n) past h)

  begun : IsHistoryOf (Buffer n) past → IsOrderTo n past answer cs left → Each (Begun m) cs
  begun h l = let b = are_before h in
      all_begun m m (by_op answer) done pending cs b.early (done_begun m done b.spans) l.each_once

  fits : IsHistoryOf (Buffer n) past → IsOrderTo n past answer cs left → Each (IsBufferCall n) cs
  fits h l =
      let calls = are_calls_of (Buffer n) past h in
      each_from_all (IsBufferCall n) cs
      (All-permutation (IsBufferCall n) (calls_with answer past) cs l.each_once
      (all_from_each (IsBufferCall n) (calls_with answer past)
      (each_append (IsBufferCall n) (answered_calls m (by_op answer) pending) done
      (answered_each m (by_op answer) (λ (o : PendingCall). Takes (Some (Buffer n)) o.op)
      (IsBufferCall n) (λ o x k. k) pending calls.fits)
      (each_weaker (IsCallOf (Buffer n) m) (IsBufferCall n) (λ c k. k.fits) done
      calls.completed))))

  pub has_order : IsHistoryOf (Buffer n) past → IsOrderTo n past answer cs left
      → HasOrderOf (Buffer n) past
  has_order h l = (
    cs,
    record {
      answer = by_op answer;
      each_once = l.each_once;
      in_order = all_pairs_from_each KeepsOrder cs l.in_order;
      run = is_run n cs (fits h l) (queue_run n [] cs left l.run);
    },
  )

  -- an order by other answers that are the same for each pending call
  pub alike : (answer' : Op → Option Reply) → AnswersAlike answer' answer pending
      → IsOrderTo n past answer cs left → IsOrderTo n past answer' cs left
  alike answer' same l = reordered n (calls_with answer past) (calls_with answer' past) cs left
      (permutation_same _ _ (ap (λ zs. zs ++ done) (same_answers m answer' answer pending same))) l

  -- the pending calls that have an answer respond at t
  later : (t : ℕ) → m ≤ t → IsHistoryOf (Buffer n) past → IsOrderTo n past answer cs left
      → IsQueueOrder n (answered_calls t (by_op answer) pending ++ done)
      (map (moved m (λ i. t)) cs) left
  later t le h l =
      let b = are_before h in
      reordered n _ _ (map (moved m (λ i. t)) cs) left (permutation_same _ _ (sym
      (moved_calls m (λ i. t) t (by_op answer) pending done le
      (each_weaker (Early m) (λ o. t ≡ t) (λ o lt. refl) pending b.early) b.spans)))
      (moved_order m (λ i. t) n (calls_with answer past) cs left l)

  -- an invocation
  pub invoked : (x : Event) (k : ℕ) (op : Op) → x.action ≡ Invoke k op → answer op ≡ None
      → IsHistoryOf (Buffer n) (x ∷ past) → IsOrderTo n past answer cs left
      → (cs' : List Call) × IsOrderTo n (x ∷ past) answer cs' left
  invoked x k op act none h l =
      let t : ℕ = x.at + 1 in
      let le : m ≤ x.at = h.0 in
      let a : PendingCall → Option Reply = by_op answer in
      let now : calls_with answer (x ∷ past) ≡ answered_calls t a pending ++ done =
      ap (λ z. answered_calls t a (pending_after x z pending)
      ++ (ended_call x z (pending_of x.worker pending) ++ done)) act
      ∙ ap (λ zs. zs ++ done) (none_between t a pending [] (invoked_by x k op) none
      ∙ ap (answered_calls t a) (append-nil pending)) in (
        map (moved m (λ i. t)) cs,
        reordered n _ _ (map (moved m (λ i. t)) cs) left (permutation_same _ _ now)
            (later t (omega arith) h.2 l),
      )

  -- a pending call takes effect now
  pub takes_effect : (answer' : Op → Option Reply) (before behind : List PendingCall)
      (o : PendingCall) (r : Reply) → pending ≡ before ++ o ∷ behind → answer o.op ≡ None
      → answer' o.op ≡ Some r → AnswersAlike answer' answer before
      → AnswersAlike answer' answer behind → Allows n left o.op r → IsHistoryOf (Buffer n) past
      → IsOrderTo n past answer cs left
      → IsOrderTo n past answer' (cs ++ completion m r o ∷ []) (items_after left o.op r)
  takes_effect answer' before behind o r is none some front back allowed h l =
      let c : Call = completion m r o in
      let others : List PendingCall = before ++ behind in
      let s : IsBetween pending others o =
      record { before = before; behind = behind; is = is; rest = refl } in
      let same : answered_calls m (by_op answer') others ≡ answered_calls m (by_op answer) pending =
      same_answers m answer' answer others (each_append (λ (p : PendingCall).
      answer' p.op ≡ answer p.op) before behind front back)
      ∙ sym (none_less m (by_op answer) pending others o s none) in
      let more : IsPermutation (answered_calls m (by_op answer') pending)
      (c ∷ answered_calls m (by_op answer) pending) = IsPermutation-trans _ _ _
      (some_first m (by_op answer') pending others o r s some)
      (permutation_same _ _ (ap (λ zs. c ∷ zs) same)) in
      reordered n (c ∷ calls_with answer past) (calls_with answer' past) (cs ++ c ∷ [])
      (items_after left o.op r) (IsPermutation-append_left done _ _ more)
      (put_last n (calls_with answer past) cs left c (each_weaker (Begun m)
      (λ (d : Call). d.first ≤ m) (λ d lt. omega arith) cs (begun h l)) allowed l)

  -- a response completes its call o, if the answers of the others stay the same
  with_response : (answer' : Op → Option Reply) (x : Event) (o : PendingCall) (r : Reply)
      → x.action ≡ Respond r → pending_of x.worker pending ≡ Some o
      → AnswersAlike answer' answer (without x.worker pending)
      → IsPermutation (calls_with answer' (x ∷ past)) (completion x.at r o ∷
      (answered_calls (x.at + 1) (by_op answer) (without x.worker pending) ++ done))
  with_response answer' x o r act his same =
      let others : List PendingCall = without x.worker pending in
      let t : ℕ = x.at + 1 in
      let a : PendingCall → Option Reply = by_op answer' in
      let now : calls_with answer' (x ∷ past)
      ≡ answered_calls t (by_op answer) others ++ completion x.at r o ∷ done =
      ap (λ z. answered_calls t a (pending_after x z pending)
      ++ (ended_call x z (pending_of x.worker pending) ++ done)) act
      ∙ ap (λ p. answered_calls t a others ++ (ended_call x (Respond r) p ++ done)) his
      ∙ ap (λ zs. zs ++ completion x.at r o ∷ done) (same_answers t answer' answer others same) in
      IsPermutation-trans _ _ _ (permutation_same _ _ now)
      (IsPermutation-middle (answered_calls t (by_op answer) others) (completion x.at r o) done)

  -- the response of a pending call that has taken effect
  pub responded : (answer' : Op → Option Reply) (x : Event) (o : PendingCall) (r : Reply)
      → x.action ≡ Respond r → pending_of x.worker pending ≡ Some o → answer o.op ≡ Some r
      → AnswersAlike answer' answer (without x.worker pending) → IsHistoryOf (Buffer n) (x ∷ past)
      → IsOrderTo n past answer cs left
      → (cs' : List Call) × IsOrderTo n (x ∷ past) answer' cs' left
  responded answer' x o r act his some same h l =
      let t : ℕ = x.at + 1 in
      let le : m ≤ x.at = h.0 in
      let a : PendingCall → Option Reply = by_op answer in
      let b : AreBefore m done pending = are_before h.2 in
      let others : List PendingCall = without x.worker pending in
      let s : IsBetween pending others o = between x.worker pending o his in
      let f : ℕ → ℕ = at_own x.at t o in
      let own : IsQueueOrder n (completion m r o ∷ (answered_calls m a others ++ done)) cs left =
      reordered n (calls_with answer past) _ cs left (IsPermutation-sym _ _
      (IsPermutation-append_left done _ _ (some_first m a pending others o r s some))) l in (
        map (moved m f) cs,
        reordered n _ _ (map (moved m f) cs) left (IsPermutation-trans _ _ _
            (with_response answer' x o r act his same) (permutation_same _ _ (sym
            (own_moved m x.at t a others o r done le (omega arith)
            (apart pending others o s b.rises) b.spans))))
            (moved_order m f n _ cs left own),
      )

  -- a pending call takes effect now, and responds
  pub answered_now : (answer' : Op → Option Reply) (x : Event) (o : PendingCall) (r : Reply)
      → x.action ≡ Respond r → pending_of x.worker pending ≡ Some o → answer o.op ≡ None
      → AnswersAlike answer' answer (without x.worker pending) → Allows n left o.op r
      → IsHistoryOf (Buffer n) (x ∷ past) → IsOrderTo n past answer cs left
      → (cs' : List Call) × IsOrderTo n (x ∷ past) answer' cs' (items_after left o.op r)
  answered_now answer' x o r act his none same allowed h l =
      let t : ℕ = x.at + 1 in
      let le : m ≤ x.at = h.0 in
      let a : PendingCall → Option Reply = by_op answer in
      let c : Call = completion x.at r o in
      let less = none_less t a pending (without x.worker pending) o
      (between x.worker pending o his) none in
      let ds : List Call = map (moved m (λ i. t)) cs in
      let early : Each (λ (d : Call). d.first ≤ x.at) ds =
      each_map (moved m (λ i. t)) (λ (d : Call). d.first ≤ x.at) cs
      (each_weaker (Begun m) (λ (d : Call). d.first ≤ x.at) (λ d lt. omega arith) cs
      (begun h.2 l)) in (
        ds ++ c ∷ [],
        reordered n _ _ (ds ++ c ∷ []) (items_after left o.op r) (IsPermutation-trans _ _ _
            (with_response answer' x o r act his same)
            (permutation_same _ _ (ap (λ zs. c ∷ (zs ++ done)) (sym less))))
            (put_last n (answered_calls t a pending ++ done) ds left c early allowed
            (later t (omega arith) h.2 l)),
      )
