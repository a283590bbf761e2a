-- The calls of an accepted history of steps, seen from outside.
use Rattle.std.proofs.Common.{◌≡◌, ℕ, suc, ◌+◌, ◌-◌, ◌*◌, ◌<◌, ◌≤◌, Bool, true, false, not, ◌&&◌}
use Rattle.std.proofs.Common.{◌==◌, cond, List, [], ◌∷◌, ◌++◌, length, map, reverse, Option, Some}
use Rattle.std.proofs.Common.{None, is_some, refl, ap, sym, ◌∙◌, arith, subst, nat_le, slice_get}
use Rattle.std.specs.List.{filter}
use Rattle.std.specs.Option.{option_map}
use Rattle.std.proofs.lemmas.Bool.{eqb-true, eq-eqb, leb-false}
use Rattle.std.proofs.lemmas.List.{reverse-append, map-append}
use Rattle.std.proofs.lemmas.List.Elements.{filter-append}
use Rattle.ec_count.specs.Tables.{Tables}
use Rattle.ec_core.specs.declared.act.Act.{Act}
use Rattle.ec_core.specs.declared.act.Act.TheVariants as acts
use Rattle.ec_core.specs.declared.act.Reply.{Reply as StepReply}
use Rattle.ec_core.specs.declared.act.Reply.TheVariants as replies
use Rattle.ec_core.specs.declared.act.Entry.{Entry}
use Rattle.ec_core.specs.Calls.{CallSoFar, under_way, call_with_act, is_pending, is_go}
use Rattle.ec_core.specs.Rounds.{position_of, event_or, component_count, sum_read, round_reply, read_reply}
use Rattle.ec_core.specs.Rounds.{next_component, go_reply}
use Rattle.ec_core.specs.Acceptance.{IsAccepted, reply_of}
use Rattle.ec_core.proofs.shared.Answering.{allowed, IsAllowed, IsReading, IsReadingCall}
use Rattle.ec_core.proofs.shared.Answering.{call_reads}
use Rattle.ec_order.specs.declared.call.Call.{Call as FinishedCall}
use Rattle.ec_order.specs.Calls.{finished_calls, ended_by, call_of_entries}
use Rattle.calls_core.specs.declared.history.Event.{Event}
use Rattle.calls_core.specs.declared.history.PendingCall.{PendingCall}
use Rattle.calls_core.specs.declared.history.Call.{Call}
use Rattle.calls_core.specs.Linearizations.{set_at}
use Rattle.calls_core.specs.Histories.{clock, completion, Takes, Suits}
use Rattle.calls_kernel.specs.Outside.{kinds_of, is_call, is_of_call, outside_object, outside_op, outside_reply}
use Rattle.calls_kernel.specs.Outside.{invocation_at, outside_call, outside_calls, outside_pending}
use Rattle.calls_kernel.proofs.Pending.{Keeps, keeps_none, keeps_same, keeps_invoked}
use Rattle.calls_kernel.proofs.Pending.{keeps_responded, invocation, response, begun}
use Rattle.calls_kernel.proofs.Events.{events_past}
use Rattle.calls_kernel.proofs.Objects.{object_takes}

abbrev pub entry : ℕ → Act → StepReply → Entry
entry w act reply = record { worker = w; act = act; reply = reply }

-- TABLES

set_there : {X : Type 0} (w : ℕ) (o : X) (f : ℕ → X) → set_at w o f w ≡ o
set_there w o f = ap (λ b. cond b o (f w)) (eq-eqb w w refl)

set_twice : {X : Type 0} (w : ℕ) (o p : X) (f : ℕ → X) (v : ℕ)
    → set_at w o (set_at w p f) v ≡ set_at w o f v
set_twice w o p f v = elim (w == v) as (λ b. cond b o (cond b p (f v)) ≡ cond b o (f v)) [
  | true ↦ refl
  | false ↦ refl
]

pub set_same : {X : Type 0} (w : ℕ) (f : ℕ → X) (v : ℕ) → set_at w (f w) f v ≡ f v
set_same w f v =
    elim (w == v) as (λ b. (w == v) ≡ b → cond b (f w) (f v) ≡ f v) [
      | true ↦ λ e. ap f (eqb-true w v e)
      | false ↦ λ e. refl
    ] refl

-- PENDING CALLS

-- the pending call of w after its entry
abbrev pub left : ℕ → Act → StepReply → List Entry → Option CallSoFar
left w act reply past = cond (is_pending reply) (call_with_act act past (under_way w past)) None

pub way_next : (v w : ℕ) (act : Act) (reply : StepReply) (past : List Entry)
    → under_way v (entry w act reply ∷ past)
    ≡ cond (w == v) (left w act reply past) (under_way v past)
unfolding under_way
way_next v w act reply past =
    elim (w == v) as (λ b. (w == v) ≡ b → cond b (left v act reply past) (under_way v past)
    ≡ cond b (left w act reply past) (under_way v past)) [
      | true ↦ λ e. ap (λ u. left u act reply past) (sym (eqb-true w v e))
      | false ↦ λ e. refl
    ] refl

abbrev HasMoments : Option CallSoFar → Type 0
HasMoments None = Unit {0}
HasMoments (Some call) = 0 < length call.moments

gone_moments : (act : Act) (past : List Entry) (o : Option CallSoFar) → HasMoments o
    → HasMoments (call_with_act act past o)
gone_moments acts.Go past None h = tt
gone_moments acts.Go past (Some call) h = omega arith
gone_moments act past o h = omega arith

left_moments : (b : Bool) (o : Option CallSoFar) → HasMoments o → HasMoments (cond b o None)
left_moments true o h = h
left_moments false o h = tt

-- a pending call has an entry
way_moments : (w : ℕ) (past : List Entry) → HasMoments (under_way w past)
unfolding under_way
way_moments w [] = tt
way_moments w (x ∷ past) =
    elim (x.worker == w) as (λ b. HasMoments
    (cond b (cond (is_pending x.reply) (call_with_act x.act past (under_way w past)) None)
    (under_way w past))) [
      | true ↦ left_moments (is_pending x.reply) (call_with_act x.act past (under_way w past))
          (gone_moments x.act past (under_way w past) (way_moments w past))
      | false ↦ way_moments w past
    ]

-- one more entry leaves the first position as it is
first_kept : (past : List Entry) (ms : List (List Entry)) → 0 < length ms
    → position_of (past ∷ ms) (length (past ∷ ms) - 1) ≡ position_of ms (length ms - 1)
first_kept past [] h = absurd (omega arith)
first_kept past (m ∷ ms) h =
    let long : length (past ∷ m ∷ ms) - 1 ≡ suc (length ms) = omega arith in
    let short : length (m ∷ ms) - 1 ≡ length ms = omega arith in
    ap (position_of (past ∷ m ∷ ms)) long ∙ ap (position_of (m ∷ ms)) (sym short)

free_is : (o : Option CallSoFar) (act : Act) → is_go act ≡ false
    → (is_some o && not (is_go act)) ≡ false → o ≡ None
free_is None act g h = refl
free_is (Some call) act g h = (let no = ap (λ b. true && not b) g in cc)

-- A HISTORY OF STEPS AND ITS EVENTS

module _ (t : Tables) where
  -- the pending call of each worker
  abbrev pending_in : List Entry → ℕ → Option PendingCall
  pending_in past v = option_map (outside_pending t v) (under_way v past)

  abbrev done_in : List Entry → List Call
  done_in past = reverse (outside_calls t (finished_calls t past))

  pub record IsView (past : List Entry) (es : List Event) : Type 0 where
    pub keeps : Keeps (kinds_of t) es (pending_in past) (done_in past)
    pub clock_is : clock es ≤ 2 * length past

  pending_next : (w : ℕ) (act : Act) (reply : StepReply) (past : List Entry)
      (o : Option PendingCall)
      → o ≡ option_map (outside_pending t w) (left w act reply past)
      → (v : ℕ) → set_at w o (pending_in past) v ≡ pending_in (entry w act reply ∷ past) v
  pending_next w act reply past o is v =
      (elim (w == v) as (λ b. (w == v) ≡ b → cond b o (pending_in past v)
      ≡ option_map (outside_pending t v) (cond b (left w act reply past) (under_way v past))) [
        | true ↦ λ e.
            is ∙ ap (λ u. option_map (outside_pending t u) (left w act reply past)) (eqb-true w v e)
        | false ↦ λ e. refl
      ] refl)
      ∙ ap (option_map (outside_pending t v)) (sym (way_next v w act reply past))

  seen_append : (xs ys : List FinishedCall)
      → outside_calls t (xs ++ ys) ≡ outside_calls t xs ++ outside_calls t ys
  seen_append xs ys =
      ap (map (outside_call t)) (filter-append (λ (c : FinishedCall). is_call c.op) xs ys)
      ∙ map-append (outside_call t) (filter (λ (c : FinishedCall). is_call c.op) xs)
      (filter (λ (c : FinishedCall). is_call c.op) ys)

  done_next : (x : Entry) (past : List Entry) (cs : List FinishedCall)
      → ended_by t x (call_with_act x.act past (under_way x.worker past)) ≡ cs
      → reverse (outside_calls t cs) ++ done_in past ≡ done_in (x ∷ past)
  unfolding finished_calls
  done_next x past cs is =
      sym (ap reverse (seen_append (finished_calls t past)
      (ended_by t x (call_with_act x.act past (under_way x.worker past))))
      ∙ reverse-append (outside_calls t (finished_calls t past))
      (outside_calls t (ended_by t x (call_with_act x.act past (under_way x.worker past))))
      ∙ ap (λ ds. reverse (outside_calls t ds) ++ done_in past) is)

  -- AN ENTRY THAT BEGINS A CALL

  module _ (past : List Entry) (w : ℕ) (act : Act) (reply : StepReply)
      (view : IsView past (events_past t past)) (call : is_call act ≡ true)
      (of_call : is_of_call act ≡ true) (free : under_way w past ≡ None)
      (takes : Takes (slice_get (kinds_of t) (outside_object t act)) (outside_op act))
      (gone : call_with_act act past (under_way w past)
      ≡ Some (record { op = act; moments = past ∷ [] }))
      (suits : is_pending reply ≡ false → Suits (outside_op act) (outside_reply reply)) where
    abbrev here : Entry
    here = entry w act reply

    abbrev inv : Event
    inv = invocation (2 * length past) w (outside_object t act) (outside_op act)

    abbrev res : Event
    res = response (2 * length past + 1) w (outside_reply reply)

    abbrev opened : PendingCall
    opened = begun (2 * length past) w (outside_object t act) (outside_op act)

    free_in : pending_in past w ≡ None
    free_in = ap (option_map (outside_pending t w)) free

    invoked : Keeps (kinds_of t) (inv ∷ events_past t past)
        (set_at w (Some opened) (pending_in past)) (done_in past)
    invoked = keeps_invoked (kinds_of t) (events_past t past) (pending_in past) (done_in past)
        (2 * length past) w (outside_object t act) (outside_op act) view.keeps view.clock_is free_in takes

    events_are : events_past t (here ∷ past)
        ≡ cond (is_pending reply) [] (res ∷ []) ++ (inv ∷ events_past t past)
    events_are =
        ap (λ b. cond (is_pending reply) [] (cond b (res ∷ []) [])
        ++ (invocation_at t (length past) here ++ events_past t past)) of_call
        ∙ ap (λ b. cond (is_pending reply) [] (res ∷ [])
        ++ (cond b (inv ∷ []) [] ++ events_past t past)) call

    ended_are : ended_by t here (call_with_act act past (under_way w past))
        ≡ cond (is_pending reply) [] (call_of_entries t here act (past ∷ []) ∷ [])
    ended_are = ap (ended_by t here) gone

    called : is_pending reply ≡ true → IsView (here ∷ past) (inv ∷ events_past t past)
    called e =
        let way : Some opened ≡ option_map (outside_pending t w) (left w act reply past) =
        sym (ap (λ b. option_map (outside_pending t w)
        (cond b (call_with_act act past (under_way w past)) None)) e
        ∙ ap (option_map (outside_pending t w)) gone) in
        let none : ended_by t here (call_with_act act past (under_way w past)) ≡ [] =
        ended_are ∙ ap (λ b. cond b [] (call_of_entries t here act (past ∷ []) ∷ [])) e in
        record {
          keeps = keeps_same (kinds_of t) (inv ∷ events_past t past)
              (set_at w (Some opened) (pending_in past)) (pending_in (here ∷ past)) (done_in past)
              (done_in (here ∷ past)) (pending_next w act reply past (Some opened) way)
              (done_next here past [] none) invoked;
          clock_is = omega arith;
        }

    returns : is_pending reply ≡ false → IsView (here ∷ past) (res ∷ inv ∷ events_past t past)
    returns e =
        let way : None ≡ option_map (outside_pending t w) (left w act reply past) =
        sym (ap (λ b. option_map (outside_pending t w)
        (cond b (call_with_act act past (under_way w past)) None)) e) in
        let one : ended_by t here (call_with_act act past (under_way w past))
        ≡ call_of_entries t here act (past ∷ []) ∷ [] =
        ended_are ∙ ap (λ b. cond b [] (call_of_entries t here act (past ∷ []) ∷ [])) e in
        let done : reverse (outside_calls t (call_of_entries t here act (past ∷ []) ∷ []))
        ++ done_in past ≡ completion (2 * length past + 1) (outside_reply reply) opened ∷ done_in past =
        ap (λ b. reverse (map (outside_call t)
        (cond b (call_of_entries t here act (past ∷ []) ∷ []) [])) ++ done_in past) call in
        record {
          keeps = keeps_same (kinds_of t) (res ∷ inv ∷ events_past t past)
              (set_at w None (set_at w (Some opened) (pending_in past)))
              (pending_in (here ∷ past))
              (completion (2 * length past + 1) (outside_reply reply) opened ∷ done_in past)
              (done_in (here ∷ past))
              (λ v. set_twice w None (Some opened) (pending_in past) v
              ∙ pending_next w act reply past None way v)
              (sym done ∙ done_next here past (call_of_entries t here act (past ∷ []) ∷ []) one)
              (keeps_responded (kinds_of t) (inv ∷ events_past t past)
              (set_at w (Some opened) (pending_in past)) (done_in past) (2 * length past + 1) w
              (outside_reply reply) opened invoked (omega arith)
              (set_there w (Some opened) (pending_in past)) (suits e));
          clock_is = omega arith;
        }

    pub begins_view : IsView (here ∷ past) (events_past t (here ∷ past))
    begins_view = subst (IsView (here ∷ past)) (sym events_are)
        (elim (is_pending reply) as (λ b. is_pending reply ≡ b
        → IsView (here ∷ past) (cond b [] (res ∷ []) ++ (inv ∷ events_past t past))) [
          | true ↦ called
          | false ↦ returns
        ] refl)

  -- A GO

  module _ (past : List Entry) (w : ℕ) (reply : StepReply)
      (view : IsView past (events_past t past)) (call : CallSoFar)
      (way : under_way w past ≡ Some call) (some : 0 < length call.moments)
      (reads : is_call call.op ≡ true)
      (suits : is_pending reply ≡ false → Suits (outside_op call.op) (outside_reply reply)) where
    abbrev going : Entry
    going = entry w acts.Go reply

    abbrev end : Event
    end = response (2 * length past + 1) w (outside_reply reply)

    abbrev the_call : FinishedCall
    the_call = call_of_entries t going call.op (past ∷ call.moments)

    busy : pending_in past w ≡ Some (outside_pending t w call)
    busy = ap (option_map (outside_pending t w)) way

    go_ended : ended_by t going (call_with_act acts.Go past (under_way w past))
        ≡ cond (is_pending reply) [] (the_call ∷ [])
    go_ended = ap (λ o. ended_by t going (call_with_act acts.Go past o)) way

    first_is : 2 * position_of (past ∷ call.moments) (length (past ∷ call.moments) - 1)
        ≡ 2 * position_of call.moments (length call.moments - 1)
    first_is = ap (λ n. 2 * n) (first_kept past call.moments some)

    goes_on : is_pending reply ≡ true → IsView (going ∷ past) (events_past t past)
    goes_on e =
        let after : pending_in past w
        ≡ option_map (outside_pending t w) (left w acts.Go reply past) =
        busy ∙ sym (ap (λ b. option_map (outside_pending t w)
        (cond b (call_with_act acts.Go past (under_way w past)) None)) e
        ∙ ap (λ o. option_map (outside_pending t w) (call_with_act acts.Go past o)) way
        ∙ ap (λ n. Some (begun n w (outside_object t call.op) (outside_op call.op))) first_is) in
        let none : ended_by t going (call_with_act acts.Go past (under_way w past)) ≡ [] =
        go_ended ∙ ap (λ b. cond b [] (the_call ∷ [])) e in
        record {
          keeps = keeps_same (kinds_of t) (events_past t past) (pending_in past)
              (pending_in (going ∷ past)) (done_in past) (done_in (going ∷ past))
              (λ v. sym (set_same w (pending_in past) v)
              ∙ pending_next w acts.Go reply past (pending_in past w) after v)
              (done_next going past [] none) view.keeps;
          clock_is = (let up : clock (events_past t past) ≤ 2 * length past = view.clock_is in
              omega arith);
        }

    go_returns : is_pending reply ≡ false → IsView (going ∷ past) (end ∷ events_past t past)
    go_returns e =
        let up : clock (events_past t past) ≤ 2 * length past = view.clock_is in
        let after : None ≡ option_map (outside_pending t w) (left w acts.Go reply past) =
        sym (ap (λ b. option_map (outside_pending t w)
        (cond b (call_with_act acts.Go past (under_way w past)) None)) e) in
        let one : ended_by t going (call_with_act acts.Go past (under_way w past)) ≡ the_call ∷ [] =
        go_ended ∙ ap (λ b. cond b [] (the_call ∷ [])) e in
        let ended =
        completion (2 * length past + 1) (outside_reply reply) (outside_pending t w call) in
        let same : outside_call t the_call ≡ ended =
        ap (λ n. completion (2 * length past + 1) (outside_reply reply)
        (begun n w (outside_object t call.op) (outside_op call.op))) first_is in
        let done : reverse (outside_calls t (the_call ∷ []))
        ++ done_in past ≡ ended ∷ done_in past =
        ap (λ b. reverse (map (outside_call t) (cond b (the_call ∷ []) [])) ++ done_in past) reads
        ∙ ap (λ c. c ∷ done_in past) same in
        record {
          keeps = keeps_same (kinds_of t) (end ∷ events_past t past)
              (set_at w None (pending_in past)) (pending_in (going ∷ past))
              (ended ∷ done_in past) (done_in (going ∷ past))
              (pending_next w acts.Go reply past None after)
              (sym done ∙ done_next going past (the_call ∷ []) one)
              (keeps_responded (kinds_of t) (events_past t past) (pending_in past) (done_in past)
              (2 * length past + 1) w (outside_reply reply) (outside_pending t w call) view.keeps
              (omega arith) busy (suits e));
          clock_is = omega arith;
        }

    pub go_view : IsView (going ∷ past) (events_past t (going ∷ past))
    go_view =
        elim (is_pending reply) as (λ b. is_pending reply ≡ b
        → IsView (going ∷ past) (cond b [] (end ∷ []) ++ events_past t past)) [
          | true ↦ goes_on
          | false ↦ go_returns
        ] refl

  -- A HAND

  pub hand_view : (past : List Entry) (w e b : ℕ) → IsView past (events_past t past)
      → under_way w past ≡ None
      → IsView (entry w (acts.Hand e b) replies.Done ∷ past)
      (events_past t (entry w (acts.Hand e b) replies.Done ∷ past))
  hand_view past w e b view free =
      let x = entry w (acts.Hand e b) replies.Done in
      let none : pending_in past w ≡ None = ap (option_map (outside_pending t w)) free in
      record {
        keeps = keeps_same (kinds_of t) (events_past t past) (pending_in past)
            (pending_in (x ∷ past)) (done_in past) (done_in (x ∷ past))
            (λ v. sym (set_same w (pending_in past) v)
            ∙ pending_next w (acts.Hand e b) replies.Done past (pending_in past w) none v)
            (done_next x past (call_of_entries t x (acts.Hand e b) (past ∷ []) ∷ []) refl)
            view.keeps;
        clock_is = (let up : clock (events_past t past) ≤ 2 * length past = view.clock_is in
            omega arith);
      }

  -- EACH ENTRY

  abbrev IsReadReply : StepReply → Type 0
  IsReadReply replies.Done = ⊥
  IsReadReply _ = Unit {0}

  round_read : (op : Act) (s : ℕ) → IsReadReply (round_reply op s)
  round_read (acts.Await e v) s =
      elim (nat_le v s) as (λ b. IsReadReply (cond b (replies.Number s) replies.Pending)) [
        | true ↦ tt
        | false ↦ tt
      ]
  round_read op s = tt

  reply_read : (op : Act) (past : List Entry) (ms : List (List Entry))
      → IsReadReply (read_reply t op past ms)
  unfolding read_reply
  reply_read op past ms =
      elim (nat_le (component_count t (event_or op)) (next_component t (event_or op) ms + 1)) as
      (λ b. IsReadReply (cond b (round_reply op (sum_read t (event_or op)
      (suc (next_component t (event_or op) ms)) (past ∷ ms))) replies.Pending)) [
        | true ↦ round_read op (sum_read t (event_or op)
            (suc (next_component t (event_or op) ms)) (past ∷ ms))
        | false ↦ tt
      ]

  suits_read : (op : Act) (reply : StepReply) → IsReading t op → IsReadReply reply
      → is_pending reply ≡ false → Suits (outside_op op) (outside_reply reply)
  suits_read (acts.Read e) (replies.Number n) r h p = tt
  suits_read (acts.Await e v) (replies.Number n) r h p = tt
  suits_read op replies.Done r h p = absurd h
  suits_read op replies.Pending r h p = cc
  suits_read op (replies.Number n) r h p = absurd r

  reads_call : (op : Act) → IsReading t op → is_call op ≡ true
  reads_call (acts.Read e) h = refl
  reads_call (acts.Await e v) h = refl
  reads_call op h = absurd h

  go_any : (past : List Entry) (w : ℕ) (reply : StepReply) (o : Option CallSoFar)
      → IsView past (events_past t past) → under_way w past ≡ o → HasMoments o → IsReadingCall t o
      → (not (is_some o) && true) ≡ false → go_reply t past o ≡ reply
      → IsView (entry w acts.Go reply ∷ past) (events_past t (entry w acts.Go reply ∷ past))
  go_any past w reply None view way some reads going given = cc
  go_any past w reply (Some call) view way some reads going given =
      go_view past w reply view call way some (reads_call call.op reads)
      (suits_read call.op reply reads
      (subst IsReadReply given (reply_read call.op past call.moments)))

  entry_view : (past : List Entry) (w : ℕ) (act : Act) (reply : StepReply)
      → IsView past (events_past t past) → IsAccepted t past → IsAllowed t past w act
      → reply_of t past w act ≡ reply
      → IsView (entry w act reply ∷ past) (events_past t (entry w act reply ∷ past))
  entry_view past w (acts.Advance e) reply view acc a given =
      begins_view past w (acts.Advance e) reply view refl refl
      (free_is (under_way w past) (acts.Advance e) refl a.free)
      (object_takes t (acts.Advance e) refl a.known) refl
      (λ p. subst (λ r. Suits (outside_op (acts.Advance e)) (outside_reply r)) given tt)
  entry_view past w (acts.Read e) reply view acc a given =
      begins_view past w (acts.Read e) reply view refl refl
      (free_is (under_way w past) (acts.Read e) refl a.free)
      (object_takes t (acts.Read e) refl a.known) refl
      (suits_read (acts.Read e) reply (leb-false (length t.events) e a.known)
      (subst IsReadReply given (reply_read (acts.Read e) past [])))
  entry_view past w (acts.Await e v) reply view acc a given =
      begins_view past w (acts.Await e v) reply view refl refl
      (free_is (under_way w past) (acts.Await e v) refl a.free)
      (object_takes t (acts.Await e v) refl a.known) refl
      (suits_read (acts.Await e v) reply (leb-false (length t.events) e a.known)
      (subst IsReadReply given (reply_read (acts.Await e v) past [])))
  entry_view past w acts.Go reply view acc a given =
      go_any past w reply (under_way w past) view refl (way_moments w past)
      (call_reads t past w acc) a.going given
  entry_view past w (acts.Ticket q) reply view acc a given =
      begins_view past w (acts.Ticket q) reply view refl refl
      (free_is (under_way w past) (acts.Ticket q) refl a.free)
      (object_takes t (acts.Ticket q) refl a.known) refl
      (λ p. subst (λ r. Suits (outside_op (acts.Ticket q)) (outside_reply r)) given tt)
  entry_view past w (acts.Put x v) reply view acc a given =
      begins_view past w (acts.Put x v) reply view refl refl
      (free_is (under_way w past) (acts.Put x v) refl a.free)
      (object_takes t (acts.Put x v) refl a.known) refl
      (λ p. subst (λ r. Suits (outside_op (acts.Put x v)) (outside_reply r)) given tt)
  entry_view past w (acts.Get x) reply view acc a given =
      begins_view past w (acts.Get x) reply view refl refl
      (free_is (under_way w past) (acts.Get x) refl a.free)
      (object_takes t (acts.Get x) refl a.known) refl
      (λ p. subst (λ r. Suits (outside_op (acts.Get x)) (outside_reply r)) given tt)
  entry_view past w (acts.Hand e b) reply view acc a given =
      subst (λ r. IsView (entry w (acts.Hand e b) r ∷ past)
      (events_past t (entry w (acts.Hand e b) r ∷ past))) given
      (hand_view past w e b view (free_is (under_way w past) (acts.Hand e b) refl a.free))

  pub view_of : (past : List Entry) → IsAccepted t past → IsView past (events_past t past)
  unfolding finished_calls under_way
  view_of [] acc = record { keeps = keeps_none (kinds_of t); clock_is = omega arith }
  view_of (x ∷ past) acc =
      let k = allowed t past x.worker x.act x.reply acc.0 in
      entry_view past x.worker x.act x.reply (view_of past acc.1) acc.1 k.0 k.1
