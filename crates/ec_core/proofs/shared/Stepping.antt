-- A world that represents a history represents, after a step, that history with the step's entry.
use Rattle.std.proofs.Common.{◌≡◌, ℕ, suc, ◌+◌, ◌%◌, ◌<◌, Bool, true, false, ◌&&◌, List, [], ◌∷◌, ◌++◌, reverse, length, Option, Some, None, is_some, nat_le, unwrap_or, not, Result, MatchResult, Ok, Err, refl, ap, sym, ◌∙◌, arith, subst, cond, slice_get, slice_set, ◌==◌}
use Rattle.std.proofs.lemmas.List.{reverse-append}
use Rattle.std.specs.Option.{option_map, option_map_or, option_and_then}
use Rattle.std.proofs.lemmas.Option.{slice_get_within, get_or_from_slice_get}
use Rattle.std.proofs.lemmas.Bool.{and_parts, eqb-true, leb-false}
use Rattle.std.proofs.lemmas.Nat.{mod_below}
use Rattle.std.proofs.Math.Nat.{zero-mod, zero-add}
use Rattle.ec_count.specs.Tables.{Tables, IsDeclared, signallers}
use Rattle.ec_count.specs.Members.{index_of, is_member, replace_at, replace_unless_member}
use Rattle.ec_count.specs.CountModel.{CountModel, count_up}
use Rattle.ec_core.specs.declared.act.Act.{Act}
use Rattle.ec_core.specs.declared.act.Act.TheVariants.{Advance, Read, Await, Go, Ticket, Put, Get, Hand}
use Rattle.ec_core.specs.declared.act.Reply.{Reply}
use Rattle.ec_core.specs.declared.act.Reply.TheVariants.{Done, Number, Pending}
use Rattle.ec_core.specs.declared.act.Entry.{Entry}
use Rattle.ec_core.specs.declared.act.Refusal.{Refusal}
use Rattle.ec_core.specs.declared.effect.Effect.{Effect}
use Rattle.ec_core.specs.declared.effect.Effect.TheVariants as effects
use Rattle.ec_core.specs.Progress.{Progress, RoundSoFar}
use Rattle.ec_core.specs.Following.{opening_act}
use Rattle.ec_core.specs.Counts.{signallers_at, signallers_after, component_at, component_total, issued, cell_value, is_advance, is_ticket, put_in, is_place}
use Rattle.ec_core.specs.Calls.{CallSoFar, under_way, is_pending, call_with_act}
use Rattle.ec_core.specs.Rounds.{event_or, component_count, sum_read, next_component, round_reply, read_reply, go_reply}
use Rattle.ec_core.specs.Acceptance.{reply_of, answer_of, refusal_of, refusal_in, refused_or, has_right, is_at_limit}
use Rattle.ec_core.specs.Standing.{State, Represents, count_at, call_progress, progress_of, StandsFor}
use Rattle.ec_core.specs.kept.Fields.{component_in, right_in, already_in, is_full_for, count_value, read_with, new_progress, read_effect, with_round, as_first, effect_in, reply_of_effect, apply_effect, op_in, IsNamed, effect_or_refusal, IsRightStep}
use Rattle.ec_core.proofs.shared.Answering.{width_few, width_some, kept_is, is_some_map, component_is, right_is, already_is, full_is, round_of, read_is, IsReadingCall, IsAllowed, allowed, call_reads, reading_event}
use Rattle.ec_core.proofs.ReplyKinds.{kind_is}
use Rattle.ec_core.proofs.shared.Bounds.{told_small}
use Rattle.ec_core.proofs.shared.Handing.{new_signaller}
use Rattle.ec_core.proofs.shared.Places.{get_set, get_changed, count_changed}

next_small : (t : Tables) (e : ℕ) (moments : List (List Entry)) → IsDeclared t → 0 < component_count t e → next_component t e moments < 16
next_small t e moments d some = omega (arith, mod_below (length moments) (component_count t e) some, width_few t e d)

first_small : (n : ℕ) → 0 % n < 16
first_small n = rw zero-mod (omega arith)

begun_is : (t : Tables) (op : Act)
    → call_progress t (record { op = op; moments = [] }) ≡ new_progress op
unfolding sum_read
begun_is t op = ap (λ i. (let w : Progress = record { op = op; index = i; sum = sum_read t (event_or op) i [] } in w)) (zero-mod (component_count t (event_or op)))

-- the refusal that the history gives, or the effect of the act
planned_is : (s : State) (past : List Entry) (w : ℕ) (act : Act) → Represents s past → w < 16 → IsNamed act
    → effect_or_refusal s past w act
    ≡ refused_or (refusal_of s.setup past w act) (effect_in s w act)
planned_is s past w act st lt named =
    ap (λ b. refused_or (refusal_in s.setup w act b (right_in s past w act) (is_full_for s w act) (already_in s act)) (effect_in s w act)) (ap is_some (kept_is s past w st lt) ∙ is_some_map s.setup (under_way w past))
    ∙ ap (λ b. refused_or (refusal_in s.setup w act (is_some (under_way w past)) b (is_full_for s w act) (already_in s act)) (effect_in s w act)) (right_is s past w act st named)
    ∙ ap (λ b. refused_or (refusal_in s.setup w act (is_some (under_way w past)) (has_right s.setup past w act) b (already_in s act)) (effect_in s w act)) (full_is s past w act st named)
    ∙ ap (λ b. refused_or (refusal_in s.setup w act (is_some (under_way w past)) (has_right s.setup past w act) (is_at_limit s.setup past w act) b) (effect_in s w act)) (already_is s past act st named)

-- COUNTS

pub comp_quiet : (t : Tables) (e c : ℕ) (x : Entry) (past : List Entry) → is_advance e x.act ≡ false → component_total t e c (x ∷ past) ≡ component_total t e c past
unfolding component_total
comp_quiet t e c x past h = rw h (zero-add (component_total t e c past))

pub issued_quiet : (q : ℕ) (x : Entry) (past : List Entry) → is_ticket q x.act ≡ false → issued q (x ∷ past) ≡ issued q past
unfolding issued
issued_quiet q x past h = rw h (zero-add (issued q past))

one_more : (n limit : ℕ) → (n == limit) ≡ false → count_up (record { value = n; limit = limit }) ≡ record { value = 1 + n; limit = limit }
one_more n limit h = rw h (let same : n + 1 ≡ 1 + n = omega arith in ap (λ v. (let x : CountModel = record { value = v; limit = limit } in x)) same)

-- a count rises by one if the test passes, since then it is not at the limit
counted : (b : Bool) (n limit : ℕ) → (b ≡ true → (n == limit) ≡ false)
    → cond b (option_map count_up (Some (record { value = n; limit = limit }))) (Some (record { value = n; limit = limit }))
    ≡ Some (record { value = cond b 1 0 + n; limit = limit })
counted true n limit h = ap Some (one_more n limit (h refl))
counted false n limit h = (let same : n ≡ 0 + n = omega arith in ap (λ v. (let x : CountModel = record { value = v; limit = limit } in Some x)) same)

-- CALLS

-- a step that leaves no call pending, by a worker that had none
calls_kept : (s : State) (past : List Entry) (x : Entry) → Represents s past → is_pending x.reply ≡ false → under_way x.worker past ≡ None
    → (v : ℕ) → v < 16 → slice_get s.calls v ≡ Some (progress_of s.setup v (x ∷ past))
unfolding under_way
calls_kept s past x st quiet free v lt =
    st.calls v lt ∙ ap (λ o. Some (option_map (call_progress s.setup) o))
    (elim (x.worker == v) as (λ b. (x.worker == v) ≡ b → under_way v past ≡ cond b (cond (is_pending x.reply) (call_with_act x.act past (under_way v past)) None) (under_way v past)) [
      | true ↦ λ h.
          (let same : x.worker ≡ v = eqb-true x.worker v h in
          let none : under_way v past ≡ None = ap (λ u. under_way u past) (sym same) ∙ free in
          none ∙ sym (ap (λ b. cond b (call_with_act x.act past (under_way v past)) None) quiet))
      | false ↦ λ h. refl
    ] refl)

-- a step that writes the worker's call
calls_set : (s : State) (past : List Entry) (x : Entry) (way : Option Progress) → Represents s past → x.worker < 16
    → way ≡ option_map (call_progress s.setup) (cond (is_pending x.reply) (call_with_act x.act past (under_way x.worker past)) None)
    → (v : ℕ) → v < 16 → slice_get (slice_set s.calls x.worker way) v ≡ Some (progress_of s.setup v (x ∷ past))
unfolding under_way
calls_set s past x way st small is v lt =
    get_set s.calls x.worker v way (slice_get_within s.calls x.worker (progress_of s.setup x.worker past) (st.calls x.worker small))
    ∙ (elim (x.worker == v) as (λ b. (x.worker == v) ≡ b → cond b (Some way) (slice_get s.calls v) ≡ Some (option_map (call_progress s.setup) (cond b (cond (is_pending x.reply) (call_with_act x.act past (under_way v past)) None) (under_way v past)))) [
      | true ↦ λ h.
          (let same : x.worker ≡ v = eqb-true x.worker v h in
          ap Some is ∙ ap (λ u. Some (option_map (call_progress s.setup) (cond (is_pending x.reply) (call_with_act x.act past (under_way u past)) None))) same)
      | false ↦ λ h. st.calls v lt
    ] refl)

shown_if : (t : Tables) (b : Bool) (call : CallSoFar) → cond b (Some (call_progress t call)) None ≡ option_map (call_progress t) (cond b (Some call) None)
shown_if t true call = refl
shown_if t false call = refl

-- READS

-- an effect that changes only the worker's call
abbrev IsOfCall : Effect → Type 0
IsOfCall (effects.Begin u) = Unit {0}
IsOfCall (effects.GoOn r) = Unit {0}
IsOfCall (effects.End n) = Unit {0}
IsOfCall _ = ⊥

-- the call after it, given the one before it
abbrev left_by : Option Progress → Effect → Option Progress
left_by o (effects.Begin u) = Some u
left_by o (effects.GoOn r) = option_map (with_round r) o
left_by o (effects.End n) = None
left_by o _ = o

-- the effect of a read: its reply, and the call after it, given the one before it
record IsReadAs (reply : Reply) (before after : Option Progress) (e : Effect) : Type 0 where
  of_call : IsOfCall e
  told_is : reply_of_effect e ≡ reply
  left : left_by before e ≡ after

-- which replies a read may get
abbrev IsToRead : Reply → Type 0
IsToRead Done = ⊥
IsToRead (Number n) = Unit {0}
IsToRead Pending = Unit {0}

round_reads : (op : Act) (s : ℕ) → IsToRead (round_reply op s)
round_reads (Await e v) s = elim (nat_le v s) as (λ b. IsToRead (cond b (Number s) Pending)) [ true ↦ tt | false ↦ tt ]
round_reads (Advance e) s = tt
round_reads (Read e) s = tt
round_reads Go s = tt
round_reads (Ticket q) s = tt
round_reads (Put x v) s = tt
round_reads (Get x) s = tt
round_reads (Hand e b) s = tt

either_reads : (b : Bool) (op : Act) (s : ℕ) → IsToRead (cond b (round_reply op s) Pending)
either_reads true op s = round_reads op s
either_reads false op s = tt

reply_reads : (t : Tables) (op : Act) (past : List Entry) (moments : List (List Entry)) → IsToRead (read_reply t op past moments)
unfolding read_reply
reply_reads t op past moments =
    let c = next_component t (event_or op) moments in
    either_reads (nat_le (component_count t (event_or op)) (c + 1)) op (sum_read t (event_or op) (suc c) (past ∷ moments))

first_as : (op : Act) (reply : Reply) (r : RoundSoFar) (o : Option Progress) → IsToRead reply
    → IsReadAs reply o (cond (is_pending reply) (Some (with_round r (new_progress op))) None) (as_first (new_progress op) (read_with reply r))
first_as op Done r o h = absurd h
first_as op (Number n) r o h = record { of_call = tt; told_is = refl; left = refl }
first_as op Pending r o h = record { of_call = tt; told_is = refl; left = refl }

later_as : (u : Progress) (reply : Reply) (r : RoundSoFar) → IsToRead reply → IsReadAs reply (Some u) (cond (is_pending reply) (Some (with_round r u)) None) (read_with reply r)
later_as u Done r h = absurd h
later_as u (Number n) r h = record { of_call = tt; told_is = refl; left = refl }
later_as u Pending r h = record { of_call = tt; told_is = refl; left = refl }

-- a first read
begin_is : (s : State) (past : List Entry) (op : Act) (o : Option Progress) → Represents s past → event_or op < 32 → 0 < component_count s.setup (event_or op)
    → IsReadAs (read_reply s.setup op past []) o (option_map (call_progress s.setup) (cond (is_pending (read_reply s.setup op past [])) (Some (record { op = op; moments = past ∷ [] })) None))
    (as_first (new_progress op) (read_effect s (new_progress op)))
begin_is s past op o st lt some =
    let t = s.setup in
    let reply : Reply = read_reply t op past [] in
    let call : CallSoFar = record { op = op; moments = past ∷ [] } in
    let r : RoundSoFar = round_of (call_progress t call) in
    let is : read_effect s (new_progress op) ≡ read_with reply r =
    ap (read_effect s) (sym (begun_is t op)) ∙ read_is s past op [] st lt some (first_small (component_count t (event_or op))) in
    subst (λ e. IsReadAs reply o (option_map (call_progress t) (cond (is_pending reply) (Some call) None)) (as_first (new_progress op) e)) (sym is)
    (subst (λ after. IsReadAs reply o after (as_first (new_progress op) (read_with reply r))) (shown_if t (is_pending reply) call) (first_as op reply r o (reply_reads t op past [])))

-- a Go
go_is : (s : State) (past : List Entry) → Represents s past → (o : Option CallSoFar) → IsReadingCall s.setup o
    → IsReadAs (go_reply s.setup past o) (option_map (call_progress s.setup) o) (option_map (call_progress s.setup) (cond (is_pending (go_reply s.setup past o)) (call_with_act Go past o) None))
    (option_map_or (read_effect s) (option_map (call_progress s.setup) o) (effects.GoOn (record { index = 0; sum = 0 })))
go_is s past st None h = record { of_call = tt; told_is = refl; left = refl }
go_is s past st (Some call) h =
    let t = s.setup in
    let known : event_or call.op < length t.events = reading_event t call.op h in
    let some : 0 < component_count t (event_or call.op) =
    width_some t (event_or call.op) st.declared known in
    let reply : Reply = read_reply t call.op past call.moments in
    let later : CallSoFar = record { op = call.op; moments = past ∷ call.moments } in
    let r : RoundSoFar = round_of (call_progress t later) in
    let is : read_effect s (call_progress t call) ≡ read_with reply r =
    read_is s past call.op call.moments st (omega (arith, st.declared.few)) some (next_small t (event_or call.op) call.moments st.declared some) in
    subst (IsReadAs reply (Some (call_progress t call)) (option_map (call_progress t) (cond (is_pending reply) (Some later) None))) (sym is)
    (subst (λ after. IsReadAs reply (Some (call_progress t call)) after (read_with reply r)) (shown_if t (is_pending reply) later) (later_as (call_progress t call) reply r (reply_reads t call.op past call.moments)))

-- a step that continues the worker's call
calls_gone : (s : State) (past : List Entry) (x : Entry) (r : RoundSoFar) → Represents s past
    → option_map (with_round r) (progress_of s.setup x.worker past) ≡ option_map (call_progress s.setup) (cond (is_pending x.reply) (call_with_act x.act past (under_way x.worker past)) None)
    → (v : ℕ) → v < 16 → slice_get (apply_effect s x.worker (effects.GoOn r)).calls v ≡ Some (progress_of s.setup v (x ∷ past))
unfolding under_way
calls_gone s past x r st is v lt =
    get_changed (option_map (with_round r)) s.calls x.worker v
    ∙ ap (λ o. cond (x.worker == v) (option_map (option_map (with_round r)) o) o) (st.calls v lt)
    ∙ (elim (x.worker == v) as (λ b. (x.worker == v) ≡ b → cond b (Some (option_map (with_round r) (progress_of s.setup v past))) (Some (progress_of s.setup v past))
    ≡ Some (option_map (call_progress s.setup) (cond b (cond (is_pending x.reply) (call_with_act x.act past (under_way v past)) None) (under_way v past)))) [
      | true ↦ λ h.
          (let same : x.worker ≡ v = eqb-true x.worker v h in
          subst (λ u. Some (option_map (with_round r) (progress_of s.setup u past)) ≡ Some (option_map (call_progress s.setup) (cond (is_pending x.reply) (call_with_act x.act past (under_way u past)) None))) same (ap Some is))
      | false ↦ λ h. refl
    ] refl)

-- ONE STEP

none_of : (o : Option CallSoFar) → (is_some o && true) ≡ false → o ≡ None
none_of None h = refl
none_of (Some call) h = cc

same_place : (t : Tables) (past : List Entry) (e p q w : ℕ) (o : Option ℕ) → component_at t e past w ≡ o → ((e == p) && is_place q (component_at t p past w)) ≡ ((e == p) && is_place q o)
same_place t past e p q w o h =
    elim (e == p) as (λ b. (e == p) ≡ b → (b && is_place q (component_at t p past w)) ≡ (b && is_place q o)) [
      | true ↦ λ k. (let same : e ≡ p = eqb-true e p k in ap (is_place q) (ap (λ v. component_at t v past w) (sym same) ∙ h))
      | false ↦ λ k. refl
    ] refl

abbrev pub entry : ℕ → Act → Reply → Entry
entry w act reply = record { worker = w; act = act; reply = reply }

advance_stands : (s : State) (past : List Entry) (w e c : ℕ) → Represents s past → answer_of s.setup past w (Advance e) ≡ Ok Done
    → under_way w past ≡ None → component_at s.setup e past w ≡ Some c → (component_total s.setup e c past == s.setup.limit) ≡ false
    → Represents (apply_effect s w (effects.Raise e c)) (entry w (Advance e) Done ∷ past)
unfolding signallers_at component_total issued cell_value
advance_stands s past w e c st h free is room = record {
  declared = st.declared;
  accepted = (h, st.accepted);
  signal = st.signal;
  counts = λ p q lp lq.
      (count_changed count_up s.counts e c p q
      ∙ ap (λ o. cond ((e == p) && (c == q)) (option_map count_up o) o) (st.counts p q lp lq)
      ∙ counted ((e == p) && (c == q)) (component_total s.setup p q past) s.setup.limit
      (λ k. (let two : ((e == p) ≡ true) × ((c == q) ≡ true) = and_parts (e == p) (c == q) k in
      let se : e ≡ p = eqb-true e p two.0 in
      let sc : c ≡ q = eqb-true c q two.1 in
      ap (λ v. component_total s.setup v q past == s.setup.limit) (sym se) ∙ ap (λ v. component_total s.setup e v past == s.setup.limit) (sym sc) ∙ room))
      ∙ ap (λ b. (let x : CountModel = record { value = cond b 1 0 + component_total s.setup p q past; limit = s.setup.limit } in Some x)) (sym (same_place s.setup past e p q w (Some c) is)));
  issued = λ q lq. st.issued q lq ∙ ap (λ v. (let x : CountModel = record { value = v; limit = s.setup.limit } in Some x)) (sym (issued_quiet q (entry w (Advance e) Done) past refl));
  cells = st.cells;
  calls = calls_kept s past (entry w (Advance e) Done) st refl free;
}

-- a step that is no advance leaves the counts
counts_kept : (s : State) (past : List Entry) (x : Entry) → Represents s past → ((e : ℕ) → is_advance e x.act ≡ false)
    → (e c : ℕ) → e < 32 → c < 16 → count_at s.counts e c ≡ Some (record { value = component_total s.setup e c (x ∷ past); limit = s.setup.limit })
counts_kept s past x st none_such e c le lc = st.counts e c le lc ∙ ap (λ v. (let y : CountModel = record { value = v; limit = s.setup.limit } in Some y)) (sym (comp_quiet s.setup e c x past (none_such e)))

issued_kept : (s : State) (past : List Entry) (x : Entry) → Represents s past → ((q : ℕ) → is_ticket q x.act ≡ false)
    → (q : ℕ) → q < 32 → slice_get s.issued q ≡ Some (record { value = issued q (x ∷ past); limit = s.setup.limit })
issued_kept s past x st none_such q lq = st.issued q lq ∙ ap (λ v. (let y : CountModel = record { value = v; limit = s.setup.limit } in Some y)) (sym (issued_quiet q x past (none_such q)))

ticket_stands : (s : State) (past : List Entry) (w q n : ℕ) → Represents s past → answer_of s.setup past w (Ticket q) ≡ Ok (Number n)
    → under_way w past ≡ None → (issued q past == s.setup.limit) ≡ false → Represents (apply_effect s w (effects.Draw q n)) (entry w (Ticket q) (Number n) ∷ past)
unfolding signallers_at issued cell_value
ticket_stands s past w q n st h free room = record {
  declared = st.declared;
  accepted = (h, st.accepted);
  signal = st.signal;
  counts = counts_kept s past (entry w (Ticket q) (Number n)) st (λ e. refl);
  issued = λ p lp.
      (get_changed count_up s.issued q p
      ∙ ap (λ o. cond (q == p) (option_map count_up o) o) (st.issued p lp)
      ∙ counted (q == p) (issued p past) s.setup.limit (λ k. (let same : q ≡ p = eqb-true q p k in ap (λ v. issued v past == s.setup.limit) (sym same) ∙ room)));
  cells = st.cells;
  calls = calls_kept s past (entry w (Ticket q) (Number n)) st refl free;
}

put_value : (b : Bool) (v d : ℕ) → cond b (Some v) (Some d) ≡ Some (unwrap_or (cond b (Some v) None) d)
put_value true v d = refl
put_value false v d = refl

put_stands : (s : State) (past : List Entry) (w x v : ℕ) → Represents s past → x < 256 → answer_of s.setup past w (Put x v) ≡ Ok Done
    → under_way w past ≡ None → Represents (apply_effect s w (effects.Put x v)) (entry w (Put x v) Done ∷ past)
unfolding signallers_at issued cell_value
put_stands s past w x v st lx h free = record {
  declared = st.declared;
  accepted = (h, st.accepted);
  signal = st.signal;
  counts = counts_kept s past (entry w (Put x v) Done) st (λ e. refl);
  issued = issued_kept s past (entry w (Put x v) Done) st (λ q. refl);
  cells = λ y ly.
      (get_set s.cells x y v (slice_get_within s.cells x (cell_value x past) (st.cells x lx))
      ∙ ap (cond (x == y) (Some v)) (st.cells y ly) ∙ put_value (x == y) v (cell_value y past));
  calls = calls_kept s past (entry w (Put x v) Done) st refl free;
}

get_stands : (s : State) (past : List Entry) (w x n : ℕ) → Represents s past → answer_of s.setup past w (Get x) ≡ Ok (Number n)
    → under_way w past ≡ None → Represents s (entry w (Get x) (Number n) ∷ past)
unfolding signallers_at issued cell_value
get_stands s past w x n st h free = record {
  declared = st.declared;
  accepted = (h, st.accepted);
  signal = st.signal;
  counts = counts_kept s past (entry w (Get x) (Number n)) st (λ e. refl);
  issued = issued_kept s past (entry w (Get x) (Number n)) st (λ q. refl);
  cells = st.cells;
  calls = calls_kept s past (entry w (Get x) (Number n)) st refl free;
}

read_by : (s : State) (past : List Entry) (x : Entry) (calls : List (Option Progress)) → Represents s past → answer_of s.setup past x.worker x.act ≡ Ok x.reply
    → ((e : ℕ) → is_advance e x.act ≡ false) → ((q : ℕ) → is_ticket q x.act ≡ false) → ((y : ℕ) → put_in y x.act ≡ None)
    → ((e : ℕ) (ws : List ℕ) → signallers_after e x.worker x.act ws ≡ ws)
    → ((v : ℕ) → v < 16 → slice_get calls v ≡ Some (progress_of s.setup v (x ∷ past)))
    → Represents (record s { calls = calls }) (x ∷ past)
unfolding signallers_at issued cell_value
read_by s past x calls st h no_advance no_ticket no_put no_hand is = record {
  declared = st.declared;
  accepted = (h, st.accepted);
  signal = λ e le. st.signal e le ∙ ap Some (sym (no_hand e (signallers_at s.setup e past)));
  counts = counts_kept s past x st no_advance;
  issued = issued_kept s past x st no_ticket;
  cells = λ y ly. st.cells y ly ∙ ap (λ o. Some (unwrap_or o (cell_value y past))) (sym (no_put y));
  calls = is;
}

read_stands : (s : State) (past : List Entry) (x : Entry) (e : Effect) → Represents s past → x.worker < 16 → answer_of s.setup past x.worker x.act ≡ Ok x.reply
    → ((e : ℕ) → is_advance e x.act ≡ false) → ((q : ℕ) → is_ticket q x.act ≡ false) → ((y : ℕ) → put_in y x.act ≡ None)
    → ((e : ℕ) (ws : List ℕ) → signallers_after e x.worker x.act ws ≡ ws) → IsOfCall e
    → left_by (progress_of s.setup x.worker past) e ≡ option_map (call_progress s.setup) (cond (is_pending x.reply) (call_with_act x.act past (under_way x.worker past)) None)
    → Represents (apply_effect s x.worker e) (x ∷ past)
read_stands s past x (effects.Begin u) st small h a t p n of is = read_by s past x (slice_set s.calls x.worker (Some u)) st h a t p n (calls_set s past x (Some u) st small is)
read_stands s past x (effects.GoOn r) st small h a t p n of is = read_by s past x (apply_effect s x.worker (effects.GoOn r)).calls st h a t p n (calls_gone s past x r st is)
read_stands s past x (effects.End m) st small h a t p n of is = read_by s past x (slice_set s.calls x.worker None) st h a t p n (calls_set s past x None st small is)
read_stands s past x (effects.Raise e c) st small h a t p n of is = absurd of
read_stands s past x (effects.Draw q m) st small h a t p n of is = absurd of
read_stands s past x (effects.Put y v) st small h a t p n of is = absurd of
read_stands s past x (effects.Get m) st small h a t p n of is = absurd of
read_stands s past x (effects.Hand e b) st small h a t p n of is = absurd of

replaced_once : (b : ℕ) (o : Option ℕ) (ws : List ℕ) → is_member b ws ≡ false → cond (is_member b ws) ws (replace_at o b ws) ≡ replace_at o b ws
replaced_once b o ws new = ap (λ is. cond is ws (replace_at o b ws)) new

-- a hand changes only the signallers of its eventcount
hand_stands : (s : State) (past : List Entry) (w e b : ℕ) → Represents s past → answer_of s.setup past w (Hand e b) ≡ Ok Done
    → under_way w past ≡ None → is_some (component_at s.setup e past b) ≡ false → Represents (apply_effect s w (effects.Hand e b)) (entry w (Hand e b) Done ∷ past)
unfolding signallers_at issued cell_value
hand_stands s past w e b st h free fresh = record {
  declared = st.declared;
  accepted = (h, st.accepted);
  signal = λ p lp.
      (let ws = signallers_at s.setup p past in
      get_changed (λ us. replace_unless_member (index_of w us) b us) s.signal e p
      ∙ ap (λ o. cond (e == p) (option_map (λ us. replace_unless_member (index_of w us) b us) o) o) (st.signal p lp)
      ∙ (elim (e == p) as (λ is. (e == p) ≡ is → cond is (Some (replace_unless_member (index_of w ws) b ws)) (Some ws) ≡ Some (cond is (replace_at (index_of w ws) b ws) ws)) [
        | true ↦ λ k.
            (let same : e ≡ p = eqb-true e p k in
            ap Some (replaced_once b (index_of w ws) ws (new_signaller s.setup past p b (ap (λ v. is_some (component_at s.setup v past b)) (sym same) ∙ fresh))))
        | false ↦ λ k. refl
      ] refl));
  counts = counts_kept s past (entry w (Hand e b) Done) st (λ e. refl);
  issued = issued_kept s past (entry w (Hand e b) Done) st (λ q. refl);
  cells = st.cells;
  calls = calls_kept s past (entry w (Hand e b) Done) st refl free;
}

known_below : (n e : ℕ) → nat_le n e ≡ false → e < n
known_below n e h = leb-false n e h

some_of : (o : Option ℕ) → not (is_some o) ≡ false → o ≡ Some (unwrap_or o 0)
some_of None h = cc
some_of (Some c) h = refl

-- the effect of an accepted act has the right reply, and the state of the history with its entry
abbrev IsRight : State → List Entry → ℕ → Act → Reply → Effect → Type 0
IsRight s past w act reply e = (reply_of_effect e ≡ reply)
    × Represents (apply_effect s w e) (entry w act reply ∷ past)

read_step : (s : State) (past : List Entry) (w : ℕ) (act : Act) (reply : Reply) → Represents s past → w < 16 → answer_of s.setup past w act ≡ Ok reply
    → ((e : ℕ) → is_advance e act ≡ false) → ((q : ℕ) → is_ticket q act ≡ false) → ((y : ℕ) → put_in y act ≡ None) → ((e : ℕ) (ws : List ℕ) → signallers_after e w act ws ≡ ws)
    → IsReadAs reply (progress_of s.setup w past) (option_map (call_progress s.setup) (cond (is_pending reply) (call_with_act act past (under_way w past)) None)) (effect_in s w act)
    → IsRight s past w act reply (effect_in s w act)
read_step s past w act reply st lt h no_advance no_ticket no_put no_hand is =
    (is.told_is, read_stands s past (entry w act reply) (effect_in s w act) st lt h no_advance no_ticket no_put no_hand is.of_call is.left)

step_is : (s : State) (past : List Entry) (w : ℕ) (act : Act) → Represents s past → w < 16 → IsNamed act → IsAllowed s.setup past w act
    → answer_of s.setup past w act ≡ Ok (reply_of s.setup past w act) → IsRight s past w act (reply_of s.setup past w act) (effect_in s w act)
step_is s past w (Advance e) st lt named a h =
    let is : component_in s e w ≡ component_at s.setup e past w = component_is s past e w st named in
    let at : component_at s.setup e past w ≡ Some (unwrap_or (component_at s.setup e past w) 0) = some_of (component_at s.setup e past w) a.right in
    let room : (component_total s.setup e (unwrap_or (component_at s.setup e past w) 0) past == s.setup.limit) ≡ false =
    ap (λ o. option_map_or (λ c. component_total s.setup e c past == s.setup.limit) o false) (sym at) ∙ a.room in
    subst (λ o. IsRight s past w (Advance e) Done (effects.Raise e (unwrap_or o 0))) (sym is)
    (refl, advance_stands s past w e (unwrap_or (component_at s.setup e past w) 0) st h (none_of (under_way w past) a.free) at room)
step_is s past w (Read e) st lt named a h =
    read_step s past w (Read e) _ st lt h (λ e. refl) (λ q. refl) (λ y. refl) (λ e ws. refl)
    (begin_is s past (Read e) (progress_of s.setup w past) st named (width_some s.setup e st.declared (known_below (length s.setup.events) e a.known)))
step_is s past w (Await e v) st lt named a h =
    read_step s past w (Await e v) _ st lt h (λ e. refl) (λ q. refl) (λ y. refl) (λ e ws. refl)
    (begin_is s past (Await e v) (progress_of s.setup w past) st named (width_some s.setup e st.declared (known_below (length s.setup.events) e a.known)))
step_is s past w Go st lt named a h =
    read_step s past w Go _ st lt h (λ e. refl) (λ q. refl) (λ y. refl) (λ e ws. refl)
    (subst
    (λ o. IsReadAs (go_reply s.setup past (under_way w past)) (progress_of s.setup w past)
    (option_map (call_progress s.setup) (cond (is_pending (go_reply s.setup past (under_way w past))) (call_with_act Go past (under_way w past)) None))
    (option_map_or (read_effect s) o (effects.GoOn (record { index = 0; sum = 0 }))))
    (sym (kept_is s past w st lt)) (go_is s past st (under_way w past) (call_reads s.setup past w st.accepted)))
step_is s past w (Ticket q) st lt named a h =
    subst (λ o. IsRight s past w (Ticket q) (Number (issued q past)) (effects.Draw q (count_value o))) (sym (st.issued q named))
    (refl, ticket_stands s past w q (issued q past) st h (none_of (under_way w past) a.free) a.room)
step_is s past w (Put x v) st lt named a h = (refl, put_stands s past w x v st named h (none_of (under_way w past) a.free))
step_is s past w (Get x) st lt named a h =
    (ap Number (get_or_from_slice_get s.cells x (cell_value x past) 0 (st.cells x named)), get_stands s past w x (cell_value x past) st h (none_of (under_way w past) a.free))
step_is s past w (Hand e b) st lt named a h = (refl, hand_stands s past w e b st h (none_of (under_way w past) a.free) a.fresh)

-- WHAT BEGAN THE CALL

opened_is : (t : Tables) (o : Option CallSoFar) → option_map_or (λ (u : Progress). u.op) (option_map (call_progress t) o) Go ≡ opening_act Go o
opened_is t None = refl
opened_is t (Some call) = refl

-- a world has the act that began the call that an act is part of, as its history says
op_is : (s : State) (past : List Entry) (w : ℕ) (act : Act) → Represents s past → w < 16 → op_in s w act ≡ opening_act act (under_way w past)
op_is s past w Go st lt = ap (λ (o : Option Progress). option_map_or (λ (u : Progress). u.op) o Go) (kept_is s past w st lt) ∙ opened_is s.setup (under_way w past)
op_is s past w (Advance e) st lt = refl
op_is s past w (Read e) st lt = refl
op_is s past w (Await e v) st lt = refl
op_is s past w (Ticket q) st lt = refl
op_is s past w (Put x v) st lt = refl
op_is s past w (Get x) st lt = refl
op_is s past w (Hand e b) st lt = refl

-- THE FIRST STATE

pub open_stands : (t : Tables) (signal : List (List ℕ)) (zeros : List (List CountModel)) (row issued : List CountModel) (cells : List ℕ) (calls : List (Option Progress)) (nought : CountModel)
    → ((e : ℕ) → e < 32 → slice_get signal e ≡ Some (signallers t e)) → IsDeclared t → nought ≡ record { value = 0; limit = t.limit }
    → ((i : ℕ) → i < 32 → slice_get zeros i ≡ Some row) → ((i : ℕ) → i < 16 → slice_get row i ≡ Some nought)
    → ((i : ℕ) → i < 32 → slice_get issued i ≡ Some nought) → ((i : ℕ) → i < 256 → slice_get cells i ≡ Some 0) → ((i : ℕ) → i < 16 → slice_get calls i ≡ Some None)
    → (let s : State = record { setup = t; signal = signal; counts = zeros; issued = issued; cells = cells; calls = calls } in Represents s [])
unfolding signallers_at component_total issued cell_value under_way
open_stands t signal zeros row tickets cells calls nought signal_is d is rows row_is issued_is cells_is calls_is = record {
  declared = d;
  accepted = tt;
  signal = signal_is;
  counts = λ e c le lc. ap (option_and_then (λ (r : List CountModel). slice_get r c)) (rows e le) ∙ row_is c lc ∙ ap Some is;
  issued = λ q lq. issued_is q lq ∙ ap Some is;
  cells = cells_is;
  calls = calls_is;
}

-- one more entry of a history is the newest of the reversed history
pub past_after : (h : List Entry) (x : Entry) → reverse (h ++ x ∷ []) ≡ x ∷ reverse h
past_after h x = reverse-append h (x ∷ [])

plan_by : (s : State) (h : List Entry) (w : ℕ) (act : Act) → StandsFor s h → w < 16 → IsNamed act → (o : Option Refusal) → refusal_of s.setup (reverse h) w act ≡ o
    → MatchResult (refused_or o (effect_in s w act)) (IsRightStep s h w act) (λ r. answer_of s.setup (reverse h) w act ≡ Err r)
unfolding answer_of
plan_by s h w act st lt named (Some r) is = ap (λ o. refused_or o (reply_of s.setup (reverse h) w act)) is
plan_by s h w act st lt named None is =
    let right : answer_of s.setup (reverse h) w act ≡ Ok (reply_of s.setup (reverse h) w act) = ap (λ o. refused_or o (reply_of s.setup (reverse h) w act)) is in
    let k = step_is s (reverse h) w act st lt named (allowed s.setup (reverse h) w act (reply_of s.setup (reverse h) w act) right).0 right in
    let e : Effect = effect_in s w act in
    let answer : answer_of s.setup (reverse h) w act ≡ Ok (reply_of_effect e) = right
    ∙ ap Ok (sym k.0) in
    record {
      answer = answer;
      small = told_small s.setup (reverse h) w act (reply_of_effect e) st.declared st.accepted answer;
      kind = kind_is s.setup (reverse h) w act (reply_of_effect e) st.declared st.accepted answer;
      after = rw (past_after h (entry w act (reply_of_effect e))) (subst (λ r. Represents (apply_effect s w e) (entry w act r ∷ reverse h)) (sym k.0) k.1);
      op = op_is s (reverse h) w act st lt;
    }

-- the effect that the fields of a world give is right after its history
pub plan_is : (s : State) (h : List Entry) (w : ℕ) (act : Act) (r : Result Effect Refusal) → StandsFor s h → w < 16 → IsNamed act → r ≡ effect_or_refusal s (reverse h) w act
    → MatchResult r (IsRightStep s h w act) (λ r. answer_of s.setup (reverse h) w act ≡ Err r)
plan_is s h w act r st lt named is =
    subst (λ p. MatchResult p (IsRightStep s h w act) (λ r. answer_of s.setup (reverse h) w act ≡ Err r)) (sym (is ∙ planned_is s (reverse h) w act st lt named))
    (plan_by s h w act st lt named (refusal_of s.setup (reverse h) w act) refl)
