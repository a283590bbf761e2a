-- The waiters of a board after a park, a leave and a step.
use Rattle.std.proofs.Common.{◌≡◌, ◌≢◌, ℕ, zero, suc, ◌+◌, ◌<◌, Bool, true, false, ◌==◌, ◌&&◌, ◌||◌, not, nat_le, nat_lt, ◌⊎◌, inl, inr, List, [], ◌∷◌, ◌++◌, length, reverse, Option, Some, None, slice_get, slice_set, unwrap_or, cond, refl, ap, sym, ◌∙◌, subst, arith}
use Rattle.std.specs.Option.{option_and_then, option_map}
use Rattle.std.specs.List.{list_any}
use Rattle.std.proofs.lemmas.Bool.{eqb-true, eq-eqb, leb-false, and_parts}
use Rattle.std.proofs.lemmas.Bool.Decides.{nat_tests}
use Rattle.std.proofs.lemmas.Option.{slice_get-map, slice_get_within}
use Rattle.ec_count.specs.Tables.{Tables}
use Rattle.ec_core.specs.declared.act.Act.{Act}
use Rattle.ec_core.specs.declared.act.Act.TheVariants.{Advance, Read, Await, Go, Ticket, Put, Get, Hand}
use Rattle.ec_core.specs.declared.act.Entry.{Entry}
use Rattle.ec_core.specs.Counts.{total, is_advance}
use Rattle.ec_core.specs.Calls.{CallSoFar, under_way}
use Rattle.ec_core.specs.Rounds.{event_or, next_component}
use Rattle.ec_core.specs.Acceptance.{IsAccepted}
use Rattle.ec_core.proofs.shared.Places.{get_set}
use Rattle.ec_core.proofs.shared.Answering.{IsReading, IsReadingCall, call_reads}
use Rattle.ec_core.proofs.shared.Stepping.{past_after}
use Rattle.ec_core.proofs.shared.Scans.{call_other}
use Rattle.ec_runner.specs.declared.worker_state.WorkerState.{WorkerState}
use Rattle.ec_runner.specs.declared.worker_state.WorkerState.TheVariants.{Gone, Running, Waiting}
use Rattle.ec_runner.specs.declared.wait.Wait.{Wait}
use Rattle.ec_runner.specs.WorkerStates.{is_active, is_running, worker_state, every_active_waits, is_deadlocked, state_at_total, states_after_act}
use Rattle.ec_runner.specs.BoardModel.{BoardModel, past_of, short_at, fallen_short, await_fallen_short, unmet, wait_of, AreWaiters, with_worker_state, after_entry}
use Rattle.ec_runner.proofs.Lining.{moved_to}

pub lt_of : (m n : ℕ) → nat_lt m n ≡ true → m < n
lt_of m n h = grind (arith, nat_tests)

-- WHO IS ACTIVE

-- a worker that is active after the state of w is set
set_active : (states : List WorkerState) (w u : ℕ) (s : WorkerState) → w < length states → is_active (worker_state (slice_set states w s) u) ≡ true
    → ((u ≡ w) × (is_active s ≡ true)) ⊎ (is_active (worker_state states u) ≡ true)
set_active states w u s within h =
    elim (w == u) as (λ b. (w == u) ≡ b → is_active (unwrap_or (cond b (Some s) (slice_get states u)) Gone) ≡ true → ((u ≡ w) × (is_active s ≡ true)) ⊎ (is_active (worker_state states u) ≡ true)) [
      | true ↦ λ e k. inl (sym (eqb-true w u e), k)
      | false ↦ λ e k. inr k
    ] refl (ap (λ (o : Option WorkerState). is_active (unwrap_or o Gone)) (sym (get_set states w u s within)) ∙ h)

kept_active : (f sum : ℕ) (s : WorkerState) → is_active (state_at_total f sum s) ≡ is_active s
kept_active f sum Gone = refl
kept_active f sum Running = refl
kept_active f sum (Waiting g u) = elim (g == f && nat_le u sum) as (λ b. is_active (cond b Running (Waiting g u)) ≡ true) [ true ↦ refl | false ↦ refl ]

map_live : (f sum : ℕ) (o : Option WorkerState) → is_active (unwrap_or (option_map (state_at_total f sum) o) Gone) ≡ is_active (unwrap_or o Gone)
map_live f sum None = refl
map_live f sum (Some s) = kept_active f sum s

-- no act changes who is active
woken_active : (act : Act) (past : List Entry) (states : List WorkerState) (u : ℕ) → is_active (worker_state (states_after_act act past states) u) ≡ is_active (worker_state states u)
woken_active (Advance f) past states u =
    ap (λ (o : Option WorkerState). is_active (unwrap_or o Gone)) (slice_get-map (state_at_total f (total f past)) states u) ∙ map_live f (total f past) (slice_get states u)
woken_active (Read f) past states u = refl
woken_active (Await f n) past states u = refl
woken_active Go past states u = refl
woken_active (Ticket q) past states u = refl
woken_active (Put x n) past states u = refl
woken_active (Get x) past states u = refl
woken_active (Hand f b) past states u = refl

-- WHAT IS WAITED FOR

short_is : (b : Bool) (e v : ℕ) (a : Wait) → cond b (Some (record { event = e; threshold = v })) None ≡ Some a → e ≡ a.event
short_is true e v a h = cc
short_is false e v a h = cc

short_reads : (t : Tables) (op : Act) (c : ℕ) (a : Wait) → IsReading t op → short_at op c ≡ Some a → a.event < length t.events
short_reads t (Await e v) c a r h = (let P : ℕ → Type 0 = λ d. d < length t.events in subst P (short_is (c == 0) e v a h) r)
short_reads t (Advance e) c a r h = cc
short_reads t (Read e) c a r h = cc
short_reads t Go c a r h = cc
short_reads t (Ticket q) c a r h = cc
short_reads t (Put x v) c a r h = cc
short_reads t (Get x) c a r h = cc
short_reads t (Hand e b) c a r h = cc

call_short : (t : Tables) (o : Option CallSoFar) (a : Wait) → IsReadingCall t o → option_and_then (fallen_short t) o ≡ Some a → a.event < length t.events
call_short t None a r h = cc
call_short t (Some call) a r h = short_reads t call.op (next_component t (event_or call.op) call.moments) a r h

pub awaited_declared : (t : Tables) (w : ℕ) (past : List Entry) (a : Wait) → IsAccepted t past → await_fallen_short t w past ≡ Some a → a.event < length t.events
awaited_declared t w past a acc h = call_short t (under_way w past) a (call_reads t past w acc) h

awaited_other : (t : Tables) (w : ℕ) (x : Entry) (past : List Entry) → (x.worker == w) ≡ false → await_fallen_short t w (x ∷ past) ≡ await_fallen_short t w past
awaited_other t w x past h = ap (option_and_then (fallen_short t)) (call_other w x past h)

-- a wait that a worker has: it is active, its round fell short, and the total is below the
-- threshold
pub record IsWait (b : BoardModel) (w : ℕ) (a : Wait) : Type 0 where
  pub active : is_active (worker_state b.states w) ≡ true
  pub short : await_fallen_short b.run.setup w (past_of b.run) ≡ Some a
  pub above : total a.event (past_of b.run) < a.threshold

unmet_is : (past : List Entry) (o : Option Wait) (a : Wait) → unmet past o ≡ Some a → (o ≡ Some a) × (total a.event past < a.threshold)
unmet_is past None a h = cc
unmet_is past (Some d) a h =
    elim (nat_lt (total d.event past) d.threshold) as (λ b. nat_lt (total d.event past) d.threshold ≡ b → cond b (Some d) None ≡ Some a → (Some d ≡ Some a) × (total a.event past < a.threshold)) [
      | true ↦ λ t k. (k, (let same : d ≡ a = cc in subst (λ (z : Wait). total z.event past < z.threshold) same (lt_of (total d.event past) d.threshold t)))
      | false ↦ λ t k. cc
    ] refl h

wait_if : (b : Bool) (o : Option Wait) (a : Wait) → cond b o None ≡ Some a → (b ≡ true) × (o ≡ Some a)
wait_if true o a h = (refl, h)
wait_if false o a h = cc

pub is_wait : (b : BoardModel) (w : ℕ) (a : Wait) → wait_of b w ≡ Some a → IsWait b w a
is_wait b w a h =
    let i = wait_if (is_active (worker_state b.states w)) _ a h in
    let k = unmet_is (past_of b.run) (await_fallen_short b.run.setup w (past_of b.run)) a i.1 in
    record { active = i.0; short = k.0; above = k.1 }

wait_made : (a : Wait) (e v : ℕ) → a.event ≡ e → a.threshold ≡ v → a ≡ record { event = e; threshold = v }
wait_made a e v p q =
    ap (λ (d : ℕ). (let w : Wait = record { event = d; threshold = a.threshold } in w)) p ∙ ap (λ (n : ℕ). (let w : Wait = record { event = e; threshold = n } in w)) q

-- PARK

deadlocked_waits : (a b : Bool) → (a && b) ≡ true → b ≡ true
deadlocked_waits a b h = (and_parts a b h).1

pub parked : (b : BoardModel) (w : ℕ) (a : Wait) → AreWaiters b → w < length b.states → IsWait b w a
    → AreWaiters (record { run = b.run; states = slice_set b.states w (Waiting a.event a.threshold); deadlocked = is_deadlocked (slice_set b.states w (Waiting a.event a.threshold)) })
parked b w a h within k = record {
  declared = λ u l. elim (set_active b.states w u (Waiting a.event a.threshold) within l) as (λ _. u < b.run.setup.workers) [
    | inl p ↦ subst (λ (z : ℕ). z < b.run.setup.workers) (sym p.0) (h.declared w k.active)
    | inr p ↦ h.declared u p
  ];
  short = λ u e v g. elim (moved_to b.states w u (Waiting a.event a.threshold) (Waiting e v) within g) as (λ _. await_fallen_short b.run.setup u (past_of b.run) ≡ Some (record { event = e; threshold = v })) [
    | inl p ↦ (let same : Waiting a.event a.threshold ≡ Waiting e v = p.1 in
        let event : a.event ≡ e = cc in let threshold : a.threshold ≡ v = cc in
        let is : a ≡ record { event = e; threshold = v } = wait_made a e v event threshold in
        subst (λ (z : ℕ). await_fallen_short b.run.setup z (past_of b.run) ≡ Some (record { event = e; threshold = v })) (sym p.0) (k.short ∙ ap Some is))
    | inr p ↦ h.short u e v p.1
  ];
  above = λ u e v g. elim (moved_to b.states w u (Waiting a.event a.threshold) (Waiting e v) within g) as (λ _. total e (past_of b.run) < v) [
    | inl p ↦ (let same : Waiting a.event a.threshold ≡ Waiting e v = p.1 in
        let event : a.event ≡ e = cc in let threshold : a.threshold ≡ v = cc in
        subst (λ (d : ℕ). total d (past_of b.run) < v) event (subst (λ (n : ℕ). total a.event (past_of b.run) < n) threshold k.above))
    | inr p ↦ h.above u e v p.1
  ];
  all = λ s. deadlocked_waits (list_any is_active (slice_set b.states w (Waiting a.event a.threshold))) _ s;
}

-- LEAVE

none_runs : (r : Bool) (b : Bool) → (r || b) ≡ false → (r ≡ false) × (b ≡ false)
none_runs false b h = (refl, h)
none_runs true b h = cc

gone_runs_not : (states : List WorkerState) (w : ℕ) → list_any is_running states ≡ false → list_any is_running (slice_set states w Gone) ≡ false
gone_runs_not [] w h = refl
gone_runs_not (s ∷ states) zero h = (none_runs (is_running s) _ h).1
gone_runs_not (s ∷ states) (suc w) h =
    (let k = none_runs (is_running s) (list_any is_running states) h in
    ap (λ b. b || list_any is_running (slice_set states w Gone)) k.0 ∙ gone_runs_not states w k.1)

not_is : (b : Bool) → not b ≡ true → b ≡ false
not_is true h = cc
not_is false h = refl

all_wait_still : (deadlocked : Bool) (states : List WorkerState) (w : ℕ) → (deadlocked ≡ true → every_active_waits states ≡ true) → (deadlocked || is_deadlocked (slice_set states w Gone)) ≡ true
    → every_active_waits (slice_set states w Gone) ≡ true
all_wait_still true states w h k = ap not (gone_runs_not states w (not_is (list_any is_running states) (h refl)))
all_wait_still false states w h k =
    deadlocked_waits (list_any is_active (slice_set states w Gone)) _ k

pub left : (b : BoardModel) (w : ℕ) → AreWaiters b → w < length b.states → AreWaiters (with_worker_state b w Gone)
left b w h within = record {
  declared = λ u l. elim (set_active b.states w u Gone within l) as (λ _. u < b.run.setup.workers) [
    | inl p ↦ (let gone : is_active Gone ≡ true = p.1 in cc)
    | inr p ↦ h.declared u p
  ];
  short = λ u e v g. elim (moved_to b.states w u Gone (Waiting e v) within g) as (λ _. await_fallen_short b.run.setup u (past_of b.run) ≡ Some (record { event = e; threshold = v })) [
    | inl p ↦ (let same : Gone ≡ Waiting e v = p.1 in cc)
    | inr p ↦ h.short u e v p.1
  ];
  above = λ u e v g. elim (moved_to b.states w u Gone (Waiting e v) within g) as (λ _. total e (past_of b.run) < v) [
    | inl p ↦ (let same : Gone ≡ Waiting e v = p.1 in cc)
    | inr p ↦ h.above u e v p.1
  ];
  all = λ s. all_wait_still b.deadlocked b.states w h.all s;
}

-- STEP

-- a waiter that an advance does not release
still_kept : (f sum : ℕ) (s : WorkerState) (e v : ℕ) → state_at_total f sum s ≡ Waiting e v → (s ≡ Waiting e v) × ((f == e) ≡ true → sum < v)
still_kept f sum Gone e v h = cc
still_kept f sum Running e v h = cc
still_kept f sum (Waiting g u) e v h =
    elim (g == f && nat_le u sum) as (λ b. (g == f && nat_le u sum) ≡ b → cond b Running (Waiting g u) ≡ Waiting e v → (Waiting g u ≡ Waiting e v) × ((f == e) ≡ true → sum < v)) [
      | true ↦ λ t k. cc
      | false ↦ λ t k. (
        k,
        λ same.
            (let event : g ≡ e = cc in
            let threshold : u ≡ v = cc in
            let here : (g == f) ≡ true = eq-eqb g f (event ∙ sym (eqb-true f e same)) in
            let above : nat_le u sum ≡ false = ap (λ b. b && nat_le u sum) (sym here) ∙ t in
            let is : sum < u = leb-false u sum above in
            subst (λ (n : ℕ). sum < n) threshold is),
      )
    ] refl h

map_kept : (f sum : ℕ) (o : Option WorkerState) (e v : ℕ) → option_map (state_at_total f sum) o ≡ Some (Waiting e v) → (o ≡ Some (Waiting e v)) × ((f == e) ≡ true → sum < v)
map_kept f sum None e v h = cc
map_kept f sum (Some s) e v h =
    (let is : state_at_total f sum s ≡ Waiting e v = cc in
    let k = still_kept f sum s e v is in (ap Some k.0, k.1))

woken_waits : (act : Act) (past : List Entry) (states : List WorkerState) (u e v : ℕ) → slice_get (states_after_act act past states) u ≡ Some (Waiting e v)
    → (slice_get states u ≡ Some (Waiting e v)) × (is_advance e act ≡ true → total e past < v)
woken_waits (Advance f) past states u e v h =
    (let k = map_kept f (total f past) (slice_get states u) e v (sym (slice_get-map (state_at_total f (total f past)) states u) ∙ h) in
    (k.0, λ t. subst (λ (d : ℕ). total d past < v) (eqb-true f e t) (k.1 t)))
woken_waits (Read f) past states u e v h = (h, λ t. cc)
woken_waits (Await f n) past states u e v h = (h, λ t. cc)
woken_waits Go past states u e v h = (h, λ t. cc)
woken_waits (Ticket q) past states u e v h = (h, λ t. cc)
woken_waits (Put x n) past states u e v h = (h, λ t. cc)
woken_waits (Get x) past states u e v h = (h, λ t. cc)
woken_waits (Hand f b) past states u e v h = (h, λ t. cc)

total_still : (e : ℕ) (x : Entry) (past : List Entry) → is_advance e x.act ≡ false → total e (x ∷ past) ≡ total e past
unfolding total
total_still e x past h = ap (λ b. cond b 1 0 + total e past) h ∙ (let z : 0 + total e past ≡ total e past = omega arith in z)

still_above : (e v : ℕ) (x : Entry) (past : List Entry) → total e past < v → (is_advance e x.act ≡ true → total e (x ∷ past) < v) → total e (x ∷ past) < v
still_above e v x past before now =
    elim (is_advance e x.act) as (λ b. is_advance e x.act ≡ b → total e (x ∷ past) < v) [
      | true ↦ λ t. now t
      | false ↦ λ t. subst (λ (n : ℕ). n < v) (sym (total_still e x past t)) before
    ] refl

other_worker : (x : Entry) (u : ℕ) → u ≢ x.worker → (x.worker == u) ≡ false
other_worker x u n =
    elim (x.worker == u) as (λ b. (x.worker == u) ≡ b → b ≡ false) [
      | true ↦ λ t. absurd (n (sym (eqb-true x.worker u t)))
      | false ↦ λ t. refl
    ] refl

stepped_on : (t : Tables) (states : List WorkerState) (x : Entry) (past : List Entry) → x.worker < length states
    → ((w e v : ℕ) → slice_get states w ≡ Some (Waiting e v) → await_fallen_short t w past ≡ Some (record { event = e; threshold = v }))
    → ((w e v : ℕ) → slice_get states w ≡ Some (Waiting e v) → total e past < v)
    → (u e v : ℕ) → slice_get (states_after_act x.act (x ∷ past) (slice_set states x.worker Running)) u ≡ Some (Waiting e v)
    → (await_fallen_short t u (x ∷ past) ≡ Some (record { event = e; threshold = v })) × (total e (x ∷ past) < v)
stepped_on t states x past within short above u e v g =
    (let k = woken_waits x.act (x ∷ past) (slice_set states x.worker Running) u e v g in
    elim (moved_to states x.worker u Running (Waiting e v) within k.0) as (λ _. (await_fallen_short t u (x ∷ past) ≡ Some (record { event = e; threshold = v })) × (total e (x ∷ past) < v)) [
      | inl p ↦ (let same : Running ≡ Waiting e v = p.1 in cc)
      | inr p ↦ (awaited_other t u x past (other_worker x u p.0) ∙ short u e v p.1, still_above e v x past (above u e v p.1) k.1)
    ])

stepped_live : (states : List WorkerState) (n : ℕ) (x : Entry) (past : List Entry) → x.worker < length states → x.worker < n
    → ((w : ℕ) → is_active (worker_state states w) ≡ true → w < n) → (w : ℕ) → is_active (worker_state (states_after_act x.act past (slice_set states x.worker Running)) w) ≡ true → w < n
stepped_live states n x past within known declared w l =
    elim (set_active states x.worker w Running within (sym (woken_active x.act past (slice_set states x.worker Running) w) ∙ l)) as (λ _. w < n) [
      | inl p ↦ subst (λ (z : ℕ). z < n) (sym p.0) known
      | inr p ↦ declared w p
    ]

pub stepped : (b : BoardModel) (x : Entry) → AreWaiters b → b.deadlocked ≡ false → x.worker < length b.states → x.worker < b.run.setup.workers → AreWaiters (after_entry b x)
stepped b x h free within known =
    let past = past_of b.run in
    let after : reverse (b.run.entries ++ x ∷ []) ≡ x ∷ past = past_after b.run.entries x in
    let P : List Entry → Type 0 = λ p. (u e v : ℕ) → slice_get (states_after_act x.act p (slice_set b.states x.worker Running)) u ≡ Some (Waiting e v)
    → (await_fallen_short b.run.setup u p ≡ Some (record { event = e; threshold = v }))
    × (total e p < v) in
    let each : P (reverse (b.run.entries ++ x ∷ [])) = subst P (sym after) (stepped_on b.run.setup b.states x past within h.short h.above) in
    record {
      declared = stepped_live b.states b.run.setup.workers x (reverse (b.run.entries ++ x ∷ [])) within known h.declared;
      short = λ u e v g. (each u e v g).0;
      above = λ u e v g. (each u e v g).1;
      all = λ s. cc;
    }

-- A NEW BOARD

live_if : (b : Bool) (s : WorkerState) → s ≡ cond b Running Gone → is_active s ≡ true → b ≡ true
live_if true s is active = refl
live_if false s is active = sym (ap is_active is) ∙ active

none_waits : (b : Bool) (s : WorkerState) (e v : ℕ) → s ≡ cond b Running Gone → s ≡ Waiting e v → ⊥
none_waits true s e v is waits = (let no : Running ≡ Waiting e v = sym is ∙ waits in cc)
none_waits false s e v is waits = (let no : Gone ≡ Waiting e v = sym is ∙ waits in cc)

-- the state of a worker, if the first n are active
state_there : (states : List WorkerState) (n w : ℕ) (s : WorkerState) → length states ≡ 16 → ((v : ℕ) → v < 16 → slice_get states v ≡ Some (cond (nat_lt v n) Running Gone))
    → slice_get states w ≡ Some s → s ≡ cond (nat_lt w n) Running Gone
state_there states n w s long is at =
    let within : w < length states = slice_get_within states w s at in
    let both : Some s ≡ Some (cond (nat_lt w n) Running Gone) = sym at ∙ is w (omega arith) in
    cc

-- the invariant of a board of which exactly the declared workers are active, and none waits
pub opened : (b : BoardModel) (n : ℕ) → n ≡ b.run.setup.workers → length b.states ≡ 16 → ((w : ℕ) → w < 16 → slice_get b.states w ≡ Some (cond (nat_lt w n) Running Gone))
    → b.deadlocked ≡ false → AreWaiters b
opened b n all long is down = record {
  declared = λ w active.
      (elim (slice_get b.states w) as (λ o. slice_get b.states w ≡ o → is_active (unwrap_or o Gone) ≡ true → w < b.run.setup.workers) [
        | None ↦ λ at h. (cc)
        | Some s ↦ λ at h. (let below : w < n = lt_of w n (live_if (nat_lt w n) s (state_there b.states n w s long is at) h) in omega arith)
      ] refl active);
  short = λ w e v at. absurd (none_waits (nat_lt w n) (Waiting e v) e v (state_there b.states n w (Waiting e v) long is at) refl);
  above = λ w e v at. absurd (none_waits (nat_lt w n) (Waiting e v) e v (state_there b.states n w (Waiting e v) long is at) refl);
  all = λ up. (cc);
}
