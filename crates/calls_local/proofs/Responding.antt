-- A linearization by answers is one by later responses.
use Rattle.std.proofs.Common.{◌≡◌, ℕ, ◌+◌, ◌<◌, ◌≤◌, min, true, false, ◌==◌, cond, List}
use Rattle.std.proofs.Common.{[], ◌∷◌, ◌++◌, map, Option, Some, None, refl, ap, sym, ◌∙◌, arith}
use Rattle.std.proofs.Common.{subst, append_assoc}
use Rattle.std.specs.List.{AllPairs}
use Rattle.std.specs.List.Sorted.{IsPermutation}
use Rattle.std.proofs.lemmas.Bool.{eq-eqb, ne_eqb}
use Rattle.std.proofs.lemmas.Option.{none-some}
use Rattle.std.proofs.lemmas.List.Sorted.{IsPermutation-refl, IsPermutation-cons}
use Rattle.std.proofs.lemmas.List.Sorted.{IsPermutation-trans, IsPermutation-sym}
use Rattle.std.proofs.lemmas.List.Sorted.{IsPermutation-middle, All-permutation}
use Rattle.calls_core.specs.declared.history.Kind.{Kind}
use Rattle.calls_core.specs.declared.history.Op.{Op}
use Rattle.calls_core.specs.declared.history.Op.TheVariants.{Advance, Read, Await, Ticket, P, V}
use Rattle.calls_core.specs.declared.history.Op.TheVariants.{PBoth, Put, Get, Produce, Consume}
use Rattle.calls_core.specs.declared.history.Reply.TheVariants.{Done, Number, Timeout}
use Rattle.calls_core.specs.declared.history.Reply.{Reply}
use Rattle.calls_core.specs.declared.history.Action.{Action}
use Rattle.calls_core.specs.declared.history.Action.TheVariants.{Invoke, Respond}
use Rattle.calls_core.specs.declared.history.Event.{Event}
use Rattle.calls_core.specs.declared.history.PendingCall.{PendingCall}
use Rattle.calls_core.specs.declared.history.Call.{Call}
use Rattle.calls_core.specs.Lists.{Each, EachPair}
use Rattle.calls_core.specs.Histories.{clock, pending_of, without, invoked_by, pending_after}
use Rattle.calls_core.specs.Histories.{pending_calls, completion, ended_call, completed_calls}
use Rattle.calls_core.specs.Histories.{Suits, IsNext, IsHistory}
use Rattle.calls_core.specs.Linearizations.{Gives, IsLegalHistory, IsRun, set_at, after, start}
use Rattle.calls_core.specs.Linearizations.{KeepsOrder, answered_one, answered_calls, IsLinearOrder}
use Rattle.calls_core.specs.Completions.{is_response, IsLinearizationIn, known_at}
use Rattle.calls_local.specs.Laws.{AnswersBecomeResponses}
use Rattle.calls_core.proofs.Lists.{each_weaker, each_append, each_left, each_pair_append}
use Rattle.calls_core.proofs.Lists.{all_from_each, all_pairs_from_each}
use Rattle.calls_core.proofs.Filters.{each_from_all, along_permutation, permutation_turn}
use Rattle.calls_core.proofs.Positions.{each_pair_without, histories_have_calls}
use Rattle.calls_core.proofs.Settling.{before, each_pair_from_all}
use Rattle.calls_local.proofs.Completing.{known_all}

-- EACH WORKER HAS ONE PENDING CALL

abbrev pub Differ : PendingCall → PendingCall → Type 0
Differ o p = o.worker ≡ p.worker → ⊥

none_by : (w : ℕ) (os : List PendingCall) → pending_of w os ≡ None
    → Each (λ (o : PendingCall). o.worker ≡ w → ⊥) os
none_by w [] e = tt
none_by w (y ∷ os) e =
    elim (y.worker == w) as (λ b. (y.worker == w) ≡ b → cond b (Some y) (pending_of w os) ≡ None
    → Each (λ (o : PendingCall). o.worker ≡ w → ⊥) (y ∷ os)) [
      | true ↦ λ own is. absurd (none-some y (sym is))
      | false ↦ λ own is. (
        λ same. (let yes : (y.worker == w) ≡ true = eq-eqb y.worker w same in
            let both : true ≡ false = sym yes ∙ own in cc),
        none_by w os is,
      )
    ] refl e

differ_with : (kinds : List Kind) (x : Event) (action : Action) (os : List PendingCall)
    (o : Option PendingCall) → pending_of x.worker os ≡ o → IsNext kinds action o
    → EachPair Differ os → EachPair Differ (pending_after x action os)
differ_with kinds x (Invoke k op) os None e f h =
    each_pair_append Differ os (invoked_by x k op ∷ []) h (tt, tt)
    (each_weaker (λ (o : PendingCall). o.worker ≡ x.worker → ⊥) (λ o.
    Each (Differ o) (invoked_by x k op ∷ [])) (λ o d. (d, tt)) os (none_by x.worker os e))
differ_with kinds x (Invoke k op) os (Some o) e f h = absurd f
differ_with kinds x (Respond r) os o e f h = each_pair_without Differ x.worker os h

pub workers_differ : (kinds : List Kind) (past : List Event) → IsHistory kinds past
    → EachPair Differ (pending_calls past)
workers_differ kinds [] h = tt
workers_differ kinds (x ∷ past) h = differ_with kinds x x.action (pending_calls past)
    (pending_of x.worker (pending_calls past)) refl h.1 (workers_differ kinds past h.2)

-- the pending call of a worker, after those of other workers
call_behind : (us : List PendingCall) (o : PendingCall) (vs : List PendingCall)
    → Each (λ (p : PendingCall). Differ p o) us → pending_of o.worker (us ++ o ∷ vs) ≡ Some o
call_behind [] o vs h = ap (λ b. cond b (Some o) (pending_of o.worker vs))
    (eq-eqb o.worker o.worker refl)
call_behind (u ∷ us) o vs h = ap (λ b. cond b (Some u) (pending_of o.worker (us ++ o ∷ vs)))
    (ne_eqb u.worker o.worker h.0) ∙ call_behind us o vs h.1

without_behind : (us : List PendingCall) (o : PendingCall) (vs : List PendingCall)
    → Each (λ (p : PendingCall). Differ p o) us → without o.worker (us ++ o ∷ vs) ≡ us ++ vs
without_behind [] o vs h = ap (λ b. cond b vs (o ∷ without o.worker vs))
    (eq-eqb o.worker o.worker refl)
without_behind (u ∷ us) o vs h = ap (λ b. cond b (us ++ o ∷ vs)
    (u ∷ without o.worker (us ++ o ∷ vs))) (ne_eqb u.worker o.worker h.0) ∙ ap (λ zs.
    u ∷ zs) (without_behind us o vs h.1)

differ_before : (us : List PendingCall) (o : PendingCall) (vs : List PendingCall)
    → EachPair Differ (us ++ o ∷ vs) → Each (λ (p : PendingCall). Differ p o) us
differ_before [] o vs h = tt
differ_before (u ∷ us) o vs h = (at us h.0, differ_before us o vs h.1)
  where
    at : (ws : List PendingCall) → Each (Differ u) (ws ++ o ∷ vs) → Differ u o
    at [] k = k.0
    at (w ∷ ws) k = at ws k.1

differ_drop : (us : List PendingCall) (o : PendingCall) (vs : List PendingCall)
    → EachPair Differ (us ++ o ∷ vs) → EachPair Differ (us ++ vs)
differ_drop [] o vs h = h.1
differ_drop (u ∷ us) o vs h = (at us h.0, differ_drop us o vs h.1)
  where
    at : (ws : List PendingCall) → Each (Differ u) (ws ++ o ∷ vs) → Each (Differ u) (ws ++ vs)
    at [] k = k.1
    at (w ∷ ws) k = (k.0, at ws k.1)

-- REPLIES SUIT

gives_suits : (m : ℕ → ℕ) (op : Op) (r : Reply) → Gives m op r → Suits op r
gives_suits m Advance r g = subst (Suits Advance) (sym g) tt
gives_suits m Read r g = subst (Suits Read) (sym g) tt
gives_suits m (Await v) r g = tt
gives_suits m Ticket r g = subst (Suits Ticket) (sym g) tt
gives_suits m (P i) Done g = tt
gives_suits m (P i) (Number n) g = g
gives_suits m (P i) Timeout g = tt
gives_suits m (V i) r g = subst (Suits (V i)) (sym g) tt
gives_suits m (PBoth i j) Done g = tt
gives_suits m (PBoth i j) (Number n) g = g
gives_suits m (PBoth i j) Timeout g = tt
gives_suits m (Put v) r g = subst (Suits (Put v)) (sym g) tt
gives_suits m Get r g = subst (Suits Get) (sym g) tt
gives_suits m (Produce v) Done g = tt
gives_suits m (Produce v) (Number n) g = g
gives_suits m (Produce v) Timeout g = tt
gives_suits m Consume Done g = g
gives_suits m Consume (Number n) g = tt
gives_suits m Consume Timeout g = tt

run_suits : (s : ℕ → ℕ → ℕ) (cs : List Call) → IsRun s cs
    → Each (λ (c : Call). Suits c.op c.reply) cs
run_suits s [] h = tt
run_suits s (c ∷ cs) h = (
  gives_suits (s c.object) c.op c.reply h.0,
  run_suits
      (set_at c.object (after (s c.object) c.op c.reply) s) cs h.1,
)

-- THE LATER RESPONSES

abbrev returned_at : ℕ → PendingCall → Reply → Event
returned_at n o r = record { at = n; worker = o.worker; action = Respond r }

module _ (kinds : List Kind) (t : ℕ) (answer : PendingCall → Option Reply) where
  -- after a history in which the calls of os are pending, those of them that have an answer get a
  -- response
  record Responding (n : ℕ) (past : List Event) (os : List PendingCall) : Type 0 where
    late : List Event
    responses : Each (λ (x : Event). is_response x.action ≡ true) late
    history : IsHistory kinds (late ++ past)
    calls : IsPermutation (map (known_at t) (completed_calls (late ++ past)))
        (answered_calls t answer os ++ map (known_at t) (completed_calls past))

  response_one : (n : ℕ) (past : List Event) (us : List PendingCall) (o : PendingCall)
      (os : List PendingCall) (r : Reply) → t ≤ n → clock past ≤ n → IsHistory kinds past
      → pending_calls past ≡ us ++ o ∷ os → EachPair Differ (us ++ o ∷ os) → Suits o.op r
      → IsHistory kinds (returned_at n o r ∷ past) × (pending_calls (returned_at n o r ∷ past) ≡ us
      ++ os) × (map (known_at t) (completed_calls (returned_at n o r ∷ past)) ≡ completion t r o
      ∷ map (known_at t) (completed_calls past))
  response_one n past us o os r late le h is d suits =
      let others = differ_before us o os d in
      let call : pending_of o.worker (pending_calls past) ≡ Some o =
      ap (pending_of o.worker) is ∙ call_behind us o os others in
      let at : min n t ≡ t = omega arith in (
        (le, subst (IsNext kinds (Respond r)) (sym call) suits, h),
        ap (without o.worker) is ∙ without_behind us o os others,
        ap (λ z. map (known_at t) (ended_call (returned_at n o r) (Respond r) z
            ++ completed_calls past)) call ∙ ap (λ m. completion m r o ∷ map (known_at t)
            (completed_calls past)) at,
      )

  responding_none : (n : ℕ) (past : List Event) (o : PendingCall) (os : List PendingCall)
      → answer o ≡ None → Responding n past os → Responding n past (o ∷ os)
  responding_none n past o os e k = record {
    late = k.late;
    responses = k.responses;
    history = k.history;
    calls = subst (λ z. IsPermutation (map (known_at t) (completed_calls (k.late ++ past)))
        ((answered_one t o z ++ answered_calls t answer os) ++ map (known_at t)
        (completed_calls past))) (sym e) k.calls;
  }

  responding_some : (n : ℕ) (past : List Event) (o : PendingCall) (os : List PendingCall)
      (r : Reply) → answer o ≡ Some r → map (known_at t)
      (completed_calls (returned_at n o r ∷ past)) ≡ completion t r o ∷ map (known_at t)
      (completed_calls past)
      → Responding (n + 1) (returned_at n o r ∷ past) os → Responding n past (o ∷ os)
  responding_some n past o os r e calls k =
      let x = returned_at n o r in
      let same : (k.late ++ x ∷ []) ++ past ≡ k.late ++ x ∷ past =
      append_assoc k.late (x ∷ []) past in
      record {
        late = k.late ++ x ∷ [];
        responses = each_append (λ (y : Event). is_response y.action ≡ true) k.late
            (x ∷ []) k.responses (refl, tt);
        history = subst (IsHistory kinds) (sym same) k.history;
        calls = subst (λ z. IsPermutation (map (known_at t)
            (completed_calls ((k.late ++ x ∷ []) ++ past)))
            ((answered_one t o z ++ answered_calls t answer os) ++ map (known_at t)
            (completed_calls past))) (sym e)
            (subst (λ zs. IsPermutation (map (known_at t) (completed_calls zs))
            (completion t r o ∷ (answered_calls t answer os ++ map (known_at t)
            (completed_calls past)))) (sym same)
            (IsPermutation-trans _ _ _ (subst (λ zs. IsPermutation
            (map (known_at t) (completed_calls (k.late ++ x ∷ past)))
            (answered_calls t answer os ++ zs)) calls k.calls)
            (IsPermutation-middle (answered_calls t answer os) (completion t r o)
            (map (known_at t) (completed_calls past)))));
      }

  responding : (os : List PendingCall) (n : ℕ) (past : List Event) (us : List PendingCall) → t ≤ n
      → clock past ≤ n → IsHistory kinds past → pending_calls past ≡ us ++ os
      → EachPair Differ (us ++ os) → Each (λ (c : Call). Suits c.op c.reply)
      (answered_calls t answer os) → Responding n past os
  responding [] n past us late le h is d suits = record {
    late = [];
    responses = tt;
    history = h;
    calls = IsPermutation-refl _;
  }
  responding (o ∷ os) n past us late le h is d suits =
      by_answer (λ m p ws a b c e f g. responding os m p ws a b c e f g) (answer o) refl suits
    where
      by_answer : ((m : ℕ) (p : List Event) (ws : List PendingCall) → t ≤ m → clock p ≤ m
          → IsHistory kinds p → pending_calls p ≡ ws ++ os → EachPair Differ (ws ++ os)
          → Each (λ (c : Call). Suits c.op c.reply) (answered_calls t answer os)
          → Responding m p os)
          → (z : Option Reply) → answer o ≡ z → Each (λ (c : Call). Suits c.op c.reply)
          (answered_one t o z ++ answered_calls t answer os) → Responding n past (o ∷ os)
      by_answer ih None e s =
          (let assoc : us ++ o ∷ os ≡ (us ++ o ∷ []) ++ os = sym (append_assoc us (o ∷ []) os) in
          responding_none n past o os e (ih n past (us ++ o ∷ []) late le h (is ∙ assoc)
          (subst (EachPair Differ) assoc d) s))
      by_answer ih (Some r) e s =
          (let one = response_one n past us o os r late le h is d s.0 in
          responding_some n past o os r e one.2 (ih (n + 1) (returned_at n o r ∷ past) us
          (omega arith) (omega arith) one.0 one.1 (differ_drop us o os d) s.1))

-- A PERMUTATION OF A MAPPED LIST

pub record Unmapped {X Y : Type 0} (f : X → Y) (xs : List X) (bs : List Y) : Type 0 where
  pub ys : List X
  pub moved : IsPermutation xs ys
  pub is : map f ys ≡ bs

pub unmapped : {X Y : Type 0} (f : X → Y) (ls bs : List Y) → IsPermutation ls bs → (xs : List X)
    → map f xs ≡ ls → Unmapped f xs bs
unmapped {X} {Y} f = along_permutation (λ ls bs. (xs : List X) → map f xs ≡ ls → Unmapped f xs bs)
    (λ ls xs e. record { ys = xs; moved = IsPermutation-refl xs; is = e })
    (λ a ls bs h xs e. skip a ls bs h xs e)
    (λ a b ls xs e. turn a b ls xs e)
    (λ ls bs cs h k xs e. (let r = h xs e in let s = k r.ys r.is in
    record { ys = s.ys; moved = IsPermutation-trans _ _ _ r.moved s.moved; is = s.is }))
  where
    skip : (a : Y) (ls bs : List Y) → ((xs : List X) → map f xs ≡ ls → Unmapped f xs bs)
        → (xs : List X) → map f xs ≡ a ∷ ls → Unmapped f xs (a ∷ bs)
    skip a ls bs h [] e = cc
    skip a ls bs h (x ∷ xs) e =
        (let head : f x ≡ a = cc in
        let tail : map f xs ≡ ls = cc in
        let r = h xs tail in
        record {
          ys = x ∷ r.ys;
          moved = IsPermutation-cons x _ _ r.moved;
          is =
              ap (λ z. z ∷ map f r.ys) head ∙ ap (λ zs. a ∷ zs) r.is;
        })

    turn : (a b : Y) (ls : List Y) (xs : List X) → map f xs ≡ a ∷ b ∷ ls
        → Unmapped f xs (b ∷ a ∷ ls)
    turn a b ls [] e = cc
    turn a b ls (x ∷ []) e = cc
    turn a b ls (x ∷ z ∷ xs) e =
        (let first : f x ≡ a = cc in
        let second : f z ≡ b = cc in
        let rest : map f xs ≡ ls = cc in
        record {
          ys = z ∷ x ∷ xs;
          moved = permutation_turn x z xs;
          is =
              ap (λ k. k ∷ f x ∷ map f xs) second ∙ ap (λ k. b ∷ k ∷ map f xs) first ∙ ap (λ zs.
              b ∷ a ∷ zs) rest;
        })

-- THE WHOLE LINEARIZATION

known_run_back : (t : ℕ) (s : ℕ → ℕ → ℕ) (cs : List Call) → IsRun s (map (known_at t) cs)
    → IsRun s cs
known_run_back t s [] h = tt
known_run_back t s (c ∷ cs) h = (
  h.0,
  known_run_back t (set_at c.object
      (after (s c.object) c.op c.reply) s) cs h.1,
)

pub known_one_run_back : (t : ℕ) (n : ℕ → ℕ) (cs : List Call)
    → IsLegalHistory n (map (known_at t) cs) → IsLegalHistory n cs
known_one_run_back t n [] h = tt
known_one_run_back t n (c ∷ cs) h = (h.0, known_one_run_back t (after n c.op c.reply) cs h.1)

known_keeps_back : (t : ℕ) (cs : List Call) → EachPair KeepsOrder (map (known_at t) cs)
    → EachPair KeepsOrder cs
known_keeps_back t [] h = tt
known_keeps_back t (c ∷ cs) h = (one cs h.0, known_keeps_back t cs h.1)
  where
    one : (ds : List Call) → Each (KeepsOrder (known_at t c)) (map (known_at t) ds)
        → Each (KeepsOrder c) ds
    one [] k = tt
    one (d ∷ ds) k = (
      λ (lt : d.last < c.first).
          (let before : min d.last t < c.first = omega arith in
          k.0 before),
      one ds k.1,
    )

-- a linearization by answers that are returned at t, as one by later responses
pub responses_from_order : (Run : List Call → Type 0) (kinds : List Kind) (past : List Event)
    (t : ℕ)
    (cs : List Call) → clock past ≤ t → IsHistory kinds past
    → ((ds : List Call) → Run (map (known_at t) ds) → Run ds)
    → (Run cs → Each (λ (c : Call). Suits c.op c.reply) cs)
    → IsLinearOrder Run (completed_calls past) (pending_calls past) t cs → (ds : List Call)
    × IsLinearizationIn Run kinds past ds × (map (known_at t) ds ≡ cs)
responses_from_order Run kinds past t cs le h back suiting l =
    let suits : Each (λ (c : Call). Suits c.op c.reply)
    (answered_calls t l.answer (pending_calls past)) =
    each_left (λ (c : Call). Suits c.op c.reply) (answered_calls t l.answer (pending_calls past))
    (completed_calls past)
    (each_from_all (λ (c : Call). Suits c.op c.reply) (answered_calls t l.answer
    (pending_calls past) ++ completed_calls past) (All-permutation
    (λ (c : Call). Suits c.op c.reply) cs (answered_calls t l.answer (pending_calls past)
    ++ completed_calls past)
    (IsPermutation-sym (answered_calls t l.answer (pending_calls past) ++ completed_calls past) cs
    l.each_once) (all_from_each (λ (c : Call). Suits c.op c.reply) cs (suiting l.run)))) in
    let k = responding kinds t l.answer (pending_calls past) t past [] (omega arith) le h refl
    (workers_differ kinds past h) suits in
    let plain : map (known_at t) (completed_calls past) ≡ completed_calls past =
    known_all (clock past) t (completed_calls past) le (before kinds (completed_calls past)
    (pending_calls past) (clock past) (histories_have_calls kinds past h)).spans in
    let whole : IsPermutation (map (known_at t) (completed_calls (k.late ++ past))) cs =
    IsPermutation-trans _ _ _ (subst (λ zs. IsPermutation
    (map (known_at t) (completed_calls (k.late ++ past)))
    (answered_calls t l.answer (pending_calls past) ++ zs)) plain k.calls) l.each_once in
    let r = unmapped (known_at t) (map (known_at t) (completed_calls (k.late ++ past))) cs whole
    (completed_calls (k.late ++ past)) refl in (
      r.ys,
      record {
        late = k.late;
        responses = k.responses;
        history = k.history;
        legal = record {
          each_once = r.moved;
          in_order = all_pairs_from_each KeepsOrder r.ys
              (known_keeps_back t r.ys (each_pair_from_all KeepsOrder (map (known_at t) r.ys)
              (subst (AllPairs KeepsOrder) (sym r.is) l.in_order)));
          run = back r.ys (subst Run (sym r.is) l.run);
        };
      },
      r.is,
    )

pub one_run_suits : (n : ℕ → ℕ) (cs : List Call) → IsLegalHistory n cs
    → Each (λ (c : Call). Suits c.op c.reply) cs
one_run_suits n [] h = tt
one_run_suits n (c ∷ cs) h = (
  gives_suits n c.op c.reply h.0,
  one_run_suits (after n c.op c.reply)
      cs h.1,
)

pub answers_become_responses : AnswersBecomeResponses
answers_become_responses = λ kinds past cs h l.
    responses_from_order (IsRun (start kinds)) kinds past (clock past) cs (omega arith) h (λ ds.
    known_run_back (clock past) (start kinds) ds) (run_suits (start kinds) cs) l
