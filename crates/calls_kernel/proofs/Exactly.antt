-- Within the rights and the limit, what is linearizable can have been recorded of a kernel: pending
-- calls that gave up are left out of the linearization.
use Rattle.std.proofs.Common.{◌≡◌, ℕ, ◌+◌, ◌≤◌, Bool, true, false, ◌&&◌, ◌==◌, cond, List, [], ◌∷◌}
use Rattle.std.proofs.Common.{◌++◌, Option, Some, None, refl, ap, ◌∙◌, arith, subst, count_by, map}
use Rattle.std.specs.List.{All, filter}
use Rattle.std.specs.List.Sorted.{IsPermutation}
use Rattle.std.proofs.lemmas.List.Elements.{filter-append}
use Rattle.std.proofs.lemmas.List.Kept.{AllPairs-filter}
use Rattle.std.proofs.lemmas.List.Sorted.{All-permutation}
use Rattle.ec_count.specs.Tables.{Tables}
use Rattle.ec_core.specs.Counts.{is_advance, is_ticket}
use Rattle.ec_order.specs.Laws.{OrderByPointsIsGood}
use Rattle.calls_core.specs.declared.history.Op.{Op}
use Rattle.calls_core.specs.declared.history.Op.TheVariants.{Advance, Read, Await, Ticket, P, V}
use Rattle.calls_core.specs.declared.history.Op.TheVariants.{PBoth, Put, Get, Produce, Consume}
use Rattle.calls_core.specs.declared.history.Reply.{Reply}
use Rattle.calls_core.specs.declared.history.Reply.TheVariants.{Done, Number, Timeout}
use Rattle.calls_core.specs.declared.history.Event.{Event}
use Rattle.calls_core.specs.declared.history.PendingCall.{PendingCall}
use Rattle.calls_core.specs.declared.history.Call.{Call}
use Rattle.calls_core.specs.Lists.{Each}
use Rattle.calls_core.specs.Histories.{clock, completion, completed_calls, pending_calls}
use Rattle.calls_core.specs.Linearizations.{set_at, after, Gives, KeepsOrder, IsRun, start}
use Rattle.calls_core.specs.Linearizations.{answered_calls, answered_one, IsAnsweredLinearization}
use Rattle.calls_core.specs.Completions.{known_at}
use Rattle.calls_local.specs.Laws.{AnswersBecomeResponses, ResponsesBecomeAnswers}
use Rattle.calls_core.proofs.Lists.{each_append, each_left, each_right, all_from_each}
use Rattle.calls_core.proofs.Filters.{permutation_filter, each_from_all}
use Rattle.calls_core.proofs.Counting.{count_append, count_moved}
use Rattle.calls_kernel.specs.Outside.{kinds_of}
use Rattle.calls_kernel.specs.Made.{act_of_call, IsGranted, KeepsLimit}
use Rattle.calls_kernel.specs.Recorded.{IsWithin, all_calls}
use Rattle.calls_kernel.specs.Laws.{RecordsAreExactlyTheLinearizable}
use Rattle.calls_kernel.proofs.Steps.{set_same}
use Rattle.calls_kernel.proofs.Recording.{records_linearizable}
use Rattle.calls_kernel.proofs.Spread.{linearizable_are_records}

-- CALLS THAT GAVE UP

abbrev stays : Reply → Bool
stays Timeout = false
stays _ = true

abbrev stays_in : Call → Bool
stays_in c = stays c.reply

same_fun : {X : Type 0} (f g : ℕ → X) → ((k : ℕ) → f k ≡ g k) → f ≡ g
same_fun f g h = λ i k. h k i

-- a call that gave up changes nothing
gave_up : (m : ℕ → ℕ) (op : Op) → Gives m op Timeout → after m op Timeout ≡ m
gave_up m (Await v) h = refl
gave_up m (P i) h = refl
gave_up m (PBoth i j) h = refl
gave_up m Advance h = cc
gave_up m Read h = cc
gave_up m Ticket h = cc
gave_up m (V i) h = cc
gave_up m (Put v) h = cc
gave_up m Get h = cc
gave_up m (Produce v) h = refl
gave_up m Consume h = refl

step_without : (n : ℕ → ℕ → ℕ) (c : Call) (cs : List Call) (reply : Reply) → c.reply ≡ reply
    → Gives (n c.object) c.op reply
    → IsRun (set_at c.object (after (n c.object) c.op reply) n) cs
    → IsRun n (cond (stays reply) (c ∷ cs) cs)
step_without n c cs Done is gives run = rw is (gives, run)
step_without n c cs (Number k) is gives run = rw is (gives, run)
step_without n c cs Timeout is gives run =
    let same : set_at c.object (after (n c.object) c.op Timeout) n ≡ n =
    ap (λ f. set_at c.object f n) (gave_up (n c.object) c.op gives)
    ∙ same_fun (set_at c.object (n c.object) n) n (set_same c.object n) in
    subst (λ f. IsRun f cs) same run

run_without : (cs : List Call) (n : ℕ → ℕ → ℕ) → IsRun n cs → IsRun n (filter stays_in cs)
run_without [] n run = tt
run_without (c ∷ cs) n run =
    step_without n c (filter stays_in cs) c.reply refl run.0
    (run_without cs (set_at c.object (after (n c.object) c.op c.reply) n) run.1)

-- ANSWERS WITHOUT THE CALLS THAT GAVE UP

abbrev kept_reply : Option Reply → Option Reply
kept_reply None = None
kept_reply (Some Timeout) = None
kept_reply (Some r) = Some r

one_without : (n : ℕ) (o : PendingCall) (a : Option Reply)
    → filter stays_in (answered_one n o a) ≡ answered_one n o (kept_reply a)
one_without n o None = refl
one_without n o (Some Done) = refl
one_without n o (Some (Number k)) = refl
one_without n o (Some Timeout) = refl

answered_without : (n : ℕ) (answer : PendingCall → Option Reply) (os : List PendingCall)
    → filter stays_in (answered_calls n answer os)
    ≡ answered_calls n (λ o. kept_reply (answer o)) os
answered_without n answer [] = refl
answered_without n answer (o ∷ os) =
    filter-append stays_in (answered_one n o (answer o)) (answered_calls n answer os)
    ∙ ap (λ l. l ++ filter stays_in (answered_calls n answer os)) (one_without n o (answer o))
    ∙ ap (λ l. answered_one n o (kept_reply (answer o)) ++ l) (answered_without n answer os)

module _ (t : Tables) where
  stays_with : (r : Reply) → (r ≡ Timeout → ⊥) → stays r ≡ true
  stays_with Done h = refl
  stays_with (Number n) h = refl
  stays_with Timeout h = absurd (h refl)

  granted_stay : (cs : List Call) → Each (IsGranted t) cs → filter stays_in cs ≡ cs
  granted_stay [] h = refl
  granted_stay (c ∷ cs) h =
      ap (λ b. cond b (c ∷ filter stays_in cs) (filter stays_in cs))
      (stays_with c.reply h.0.stays) ∙ ap (λ l. c ∷ l) (granted_stay cs h.1)

  -- rights don't depend on the reply
  abbrev Whole : ℕ → List PendingCall → List Call
  Whole n os = answered_calls n (λ (o : PendingCall). Some Done) os

  granted_with : (n : ℕ) (o : PendingCall) (r : Reply) → (r ≡ Timeout → ⊥)
      → IsGranted t (completion n Done o) → IsGranted t (completion n r o)
  granted_with n o r stays h = record {
    worker = h.worker;
    right = h.right;
    small = h.small;
    stays = stays;
  }

  one_granted : (n : ℕ) (o : PendingCall) (a : Option Reply) → IsGranted t (completion n Done o)
      → Each (IsGranted t) (answered_one n o (kept_reply a))
  one_granted n o None h = tt
  one_granted n o (Some Done) h = (h, tt)
  one_granted n o (Some (Number k)) h = (granted_with n o (Number k) (λ e. cc) h, tt)
  one_granted n o (Some Timeout) h = tt

  answered_granted : (n : ℕ) (answer : PendingCall → Option Reply) (os : List PendingCall)
      → Each (IsGranted t) (Whole n os)
      → Each (IsGranted t) (answered_calls n (λ o. kept_reply (answer o)) os)
  answered_granted n answer [] h = tt
  answered_granted n answer (o ∷ os) h =
      each_append (IsGranted t) (answered_one n o (kept_reply (answer o)))
      (answered_calls n (λ p. kept_reply (answer p)) os) (one_granted n o (answer o) h.0)
      (answered_granted n answer os h.1)

  -- a test that does not depend on the reply
  module _ (test : Call → Bool) (blind : (n : ℕ) (o : PendingCall) (r : Reply)
      → test (completion n r o) ≡ test (completion n Done o)) where
    one_fewer : (n : ℕ) (o : PendingCall) (a : Option Reply)
        → count_by test (answered_one n o a) ≤ count_by test (completion n Done o ∷ [])
    one_fewer n o None = omega arith
    one_fewer n o (Some r) = (let same : count_by test (completion n r o ∷ [])
        ≡ count_by test (completion n Done o ∷ []) =
        ap (λ b. 0 + cond b 1 0) (blind n o r) in omega arith)

    answered_fewer : (n : ℕ) (answer : PendingCall → Option Reply) (os : List PendingCall)
        → count_by test (answered_calls n answer os) ≤ count_by test (Whole n os)
    answered_fewer n answer [] = omega arith
    answered_fewer n answer (o ∷ os) =
        let one = completion n Done o ∷ [] in
        omega (
          arith,
          count_append test (answered_one n o (answer o)) (answered_calls n answer os),
          count_append test one (Whole n os),
          one_fewer n o (answer o),
          answered_fewer n answer os,
        )

    calls_fewer : (past : List Event) (answer : PendingCall → Option Reply) (cs : List Call)
        → IsPermutation (answered_calls (clock past) answer (pending_calls past)
        ++ completed_calls past) cs → count_by test cs ≤ count_by test (all_calls past)
    calls_fewer past answer cs moves =
        let taken = answered_calls (clock past) answer (pending_calls past) in
        omega (
          arith,
          count_moved test (taken ++ completed_calls past) cs moves,
          count_append test taken (completed_calls past),
          count_append test (Whole (clock past) (pending_calls past)) (completed_calls past),
          answered_fewer (clock past) answer (pending_calls past),
        )

  -- A LINEARIZATION WITHOUT THE CALLS THAT GAVE UP

  module _ (past : List Event) (within : IsWithin t past) (cs : List Call)
      (l : IsAnsweredLinearization (kinds_of t) past cs) where
    abbrev whole : List Call
    whole = Whole (clock past) (pending_calls past)

    abbrev left : List Call
    left = filter stays_in cs

    abbrev answered : List Call
    answered = answered_calls (clock past) (λ o. kept_reply (l.answer o)) (pending_calls past)

    done_granted : Each (IsGranted t) (completed_calls past)
    done_granted = each_right (IsGranted t) whole (completed_calls past) within.granted

    moves_left : IsPermutation (answered ++ completed_calls past) left
    moves_left =
        let taken = answered_calls (clock past) l.answer (pending_calls past) in
        subst (λ zs. IsPermutation zs left)
        (filter-append stays_in taken (completed_calls past)
        ∙ ap (λ zs. zs ++ filter stays_in (completed_calls past))
        (answered_without (clock past) l.answer (pending_calls past))
        ∙ ap (λ zs. answered ++ zs) (granted_stay (completed_calls past) done_granted))
        (permutation_filter stays_in (taken ++ completed_calls past) cs l.each_once)

    pub linearization_left : IsAnsweredLinearization (kinds_of t) past left
    linearization_left = record {
      answer = λ o. kept_reply (l.answer o);
      each_once = moves_left;
      in_order = AllPairs-filter KeepsOrder stays_in cs l.in_order;
      run = run_without cs (start (kinds_of t)) l.run;
    }

    pub left_granted : Each (IsGranted t) left
    left_granted =
        let all : All (IsGranted t) (answered ++ completed_calls past) =
        all_from_each (IsGranted t) (answered ++ completed_calls past)
        (each_append (IsGranted t) answered (completed_calls past)
        (answered_granted (clock past) l.answer (pending_calls past)
        (each_left (IsGranted t) whole (completed_calls past) within.granted)) done_granted) in
        each_from_all (IsGranted t) left
        (All-permutation (IsGranted t) (answered ++ completed_calls past) left moves_left all)

    pub left_limit : KeepsLimit t left
    left_limit = record {
      advances = λ e w. omega (
        arith,
        within.limit.advances e w,
        calls_fewer (λ (c : Call). is_advance e (act_of_call t c) && (c.worker == w))
            (λ n o r. refl) past (λ o. kept_reply (l.answer o)) left moves_left,
      );
      tickets = λ q. omega (
        arith,
        within.limit.tickets q,
        calls_fewer (λ (c : Call). is_ticket q (act_of_call t c)) (λ n o r. refl) past
            (λ o. kept_reply (l.answer o)) left moves_left,
      );
    }

pub records_exactly : OrderByPointsIsGood → AnswersBecomeResponses → ResponsesBecomeAnswers
    → RecordsAreExactlyTheLinearizable
records_exactly orders answered completed t past d h within = (
  λ r. records_linearizable orders answered t past d h r,
  λ k.
      (let cs = map (known_at (clock past)) k.0 in
      let l = completed (kinds_of t) past k.0 h k.1 in
      linearizable_are_records t past (filter stays_in cs) d h
      (linearization_left t past within cs l) (left_granted t past within cs l)
      (left_limit t past within cs l)),
)
