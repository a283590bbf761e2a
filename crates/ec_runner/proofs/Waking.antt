-- Which workers a critical section wakes.
use Rattle.std.proofs.Common.{◌≡◌, ◌≢◌, ℕ, zero, suc, ◌+◌, ◌<◌, Bool, true, false, ◌==◌, ◌&&◌, ◌||◌, not, nat_le, List, [], ◌∷◌, ◌++◌, length, map, reverse, Option, Some, None, unwrap_or, slice_get, slice_set, cond, refl, ap, sym, ◌∙◌, arith}
use Rattle.std.proofs.lemmas.Bool.{eqb-true, eqb-false}
use Rattle.std.proofs.lemmas.Bool.Decides.{nat_tests}
use Rattle.std.specs.List.{list_any}
use Rattle.ec_core.specs.declared.act.Act.{Act}
use Rattle.ec_core.specs.declared.act.Act.TheVariants as acts
use Rattle.ec_core.specs.declared.act.Entry.{Entry}
use Rattle.ec_core.specs.declared.act.Reply.{Reply}
use Rattle.ec_core.specs.Calls.{is_pending}
use Rattle.ec_core.specs.Counts.{total}
use Rattle.ec_core.proofs.shared.Places.{get_set}
use Rattle.ec_runner.specs.declared.holding.Next.{Next}
use Rattle.ec_runner.specs.declared.holding.Next.TheVariants as next
use Rattle.ec_runner.specs.declared.worker_state.WorkerState.{WorkerState}
use Rattle.ec_runner.specs.declared.worker_state.WorkerState.TheVariants.{Gone, Running, Waiting}
use Rattle.ec_runner.specs.declared.wait.Wait.{Wait}
use Rattle.ec_runner.specs.WorkerStates.{is_waiting, state_at_total, worker_state, states_after_act}
use Rattle.ec_runner.specs.kept.WaitQueues.{waits_on}
use Rattle.ec_runner.specs.BoardModel.{BoardModel, after_entry, wait_of}
use Rattle.ec_runner.specs.kept.Holds.{is_asleep, is_awaited, is_woken, waiting_for, park, after_hold, is_sleep, IsMade, IsNext}

below : (n k : ℕ) → (n == k) ≡ false → k < n + 1 → k < n
below n k e h = grind (arith, nat_tests)

-- a table that is filled from its first element on
pub set_below : {X : Type 0} (xs : List X) (f : ℕ → X) (n : ℕ) (y : X) → n < length xs → ((k : ℕ) → k < n → slice_get xs k ≡ Some (f k)) → y ≡ f n
    → (k : ℕ) → k < n + 1 → slice_get (slice_set xs n y) k ≡ Some (f k)
set_below xs f n y within h is k lt =
    get_set xs n k y within
    ∙ (elim (n == k) as (λ b. (n == k) ≡ b → cond b (Some y) (slice_get xs k) ≡ Some (f k)) [
      | true ↦ λ e. ap (λ v. Some v) (is ∙ ap f (eqb-true n k e))
      | false ↦ λ e. h k (below n k e lt)
    ] refl)

get_other : (xs : List WorkerState) (i j : ℕ) (y : WorkerState) → i ≢ j → slice_get (slice_set xs i y) j ≡ slice_get xs j
get_other [] i j y h = refl
get_other (x ∷ xs) zero zero y h = absurd (h refl)
get_other (x ∷ xs) zero (suc j) y h = refl
get_other (x ∷ xs) (suc i) zero y h = refl
get_other (x ∷ xs) (suc i) (suc j) y h = get_other xs i j y (λ e. h (ap suc e))

or_parts : (b c : Bool) → (b || c) ≡ false → (b ≡ false) × (c ≡ false)
or_parts true c h = cc
or_parts false c h = (refl, h)

kept_one : (e sum : ℕ) (s : WorkerState) → waits_on e s ≡ false → state_at_total e sum s ≡ s
kept_one e sum Gone h = refl
kept_one e sum Running h = refl
kept_one e sum (Waiting f v) h = ap (λ (b : Bool). cond (b && nat_le v sum) Running (Waiting f v)) h

kept_all : (e sum : ℕ) (states : List WorkerState) → list_any (waits_on e) states ≡ false → map (state_at_total e sum) states ≡ states
kept_all e sum [] h = refl
kept_all e sum (s ∷ states) h =
    (let p = or_parts (waits_on e s) (list_any (waits_on e) states) h in
    ap (λ (t : WorkerState). t ∷ map (state_at_total e sum) states) (kept_one e sum s p.0) ∙ ap (λ (ts : List WorkerState). s ∷ ts) (kept_all e sum states p.1))

none_waits_still : (e : ℕ) (states : List WorkerState) (w : ℕ) → list_any (waits_on e) states ≡ false → list_any (waits_on e) (slice_set states w Running) ≡ false
none_waits_still e [] w h = refl
none_waits_still e (s ∷ states) zero h =
    (or_parts (waits_on e s) (list_any (waits_on e) states) h).1
none_waits_still e (s ∷ states) (suc w) h =
    (let p = or_parts (waits_on e s) (list_any (waits_on e) states) h in
    ap (λ (b : Bool). b || list_any (waits_on e) (slice_set states w Running)) p.0 ∙ none_waits_still e states w p.1)

none_let_go : (act : Act) (past : List Entry) (states : List WorkerState) (w : ℕ) → is_awaited act states ≡ false → states_after_act act past (slice_set states w Running) ≡ slice_set states w Running
none_let_go (acts.Advance e) past states w h = kept_all e (total e past) (slice_set states w Running) (none_waits_still e states w h)
none_let_go (acts.Read e) past states w h = refl
none_let_go (acts.Await e v) past states w h = refl
none_let_go acts.Go past states w h = refl
none_let_go (acts.Ticket q) past states w h = refl
none_let_go (acts.Put x v) past states w h = refl
none_let_go (acts.Get x) past states w h = refl
none_let_go (acts.Hand e b) past states w h = refl

wait_stays : (d : BoardModel) (w v : ℕ) (o : Option Wait) → w ≢ v → slice_get (waiting_for d w o).states v ≡ slice_get d.states v
wait_stays d w v None not = refl
wait_stays d w v (Some a) not = get_other d.states w v (Waiting a.event a.threshold) not

hold_stays : (b : BoardModel) (w v : ℕ) (act : Act) (may_park : Bool) (reply : Reply) → is_awaited act b.states ≡ false → w ≢ v
    → slice_get (after_hold b w act may_park reply).states v ≡ slice_get b.states v
hold_stays b w v act may_park reply quiet not =
    let x : Entry = record { worker = w; act = act; reply = reply } in
    let d : BoardModel = after_entry b x in
    let step : slice_get d.states v ≡ slice_get b.states v =
    ap (λ (xs : List WorkerState). slice_get xs v) (none_let_go act (reverse (b.run.entries ++ x ∷ [])) b.states w quiet) ∙ get_other b.states w v Running not in
    elim (may_park && is_pending reply) as (λ (t : Bool). slice_get (cond t (park d w) d).states v ≡ slice_get b.states v) [
      | true ↦ wait_stays d w v (wait_of d w) not ∙ step
      | false ↦ step
    ]

made_stays : (b d : BoardModel) (w v : ℕ) (act : Act) (may_park : Bool) (reply : Reply) → is_awaited act b.states ≡ false → w ≢ v → IsMade reply b w act may_park d
    → slice_get d.states v ≡ slice_get b.states v
made_stays b d w v act may_park reply quiet not made =
    ap (λ (c : BoardModel). slice_get c.states v) made.board ∙ hold_stays b w v act may_park reply quiet not

-- a critical section without an advance of what somebody waits for changes no other worker's state
pub others_stay : (n : Next) (b d : BoardModel) (w : ℕ) (act : Act) (may_park : Bool) → is_awaited act b.states ≡ false → IsNext n b w act may_park d
    → (v : ℕ) → w ≢ v → slice_get d.states v ≡ slice_get b.states v
others_stay (next.GoOn reply) b d w act may_park quiet h v not = made_stays b d w v act may_park reply quiet not h.0
others_stay (next.Sleep reply) b d w act may_park quiet h v not = made_stays b d w v act may_park reply quiet not h.0
others_stay (next.Leave outcome moment) b d w act may_park quiet h v not = ap (λ (c : BoardModel). slice_get c.states v) h.0

-- which workers are woken if no other worker's state is changed, by the flags before and after
woken_by : (b d : BoardModel) (w : ℕ) (s t : Bool) → b.deadlocked ≡ s → d.deadlocked ≡ t → ((v : ℕ) → w ≢ v → slice_get d.states v ≡ slice_get b.states v) → (v : ℕ)
    → is_woken b w d v ≡ (not (v == w) && ((is_waiting (worker_state d.states v) && not s) && not (is_waiting (worker_state d.states v) && not t)))
woken_by b d w s t was is same v =
    let sits : Bool = is_waiting (worker_state d.states v) in
    elim (v == w) as (λ (e : Bool). (v == w) ≡ e → (not e && (is_asleep b v && not (is_asleep d v))) ≡ (not e && ((sits && not s) && not (sits && not t)))) [
      | true ↦ λ e. refl
      | false ↦ λ e.
          (let state : is_waiting (worker_state b.states v) ≡ sits =
          ap (λ (o : Option WorkerState). is_waiting (unwrap_or o Gone)) (sym (same v (λ k. eqb-false v w e (sym k)))) in
          ap (λ (x : Bool). (x && not b.deadlocked) && not (sits && not d.deadlocked)) state
          ∙ ap (λ (x : Bool). (sits && not x) && not (sits && not d.deadlocked)) was
          ∙ ap (λ (x : Bool). (sits && not s) && not (sits && not x)) is)
    ] refl

was_deadlocked : (x y z : Bool) → (x && ((y && not true) && z)) ≡ false
was_deadlocked false y z = refl
was_deadlocked true false z = refl
was_deadlocked true true z = refl

-- nobody is woken on a board that was deadlocked
pub none_slept : (b d : BoardModel) (w : ℕ) → b.deadlocked ≡ true → (v : ℕ)
    → is_woken b w d v ≡ false
none_slept b d w was v =
    ap (λ (s : Bool). not (v == w) && ((is_waiting (worker_state b.states v) && not s) && not (is_asleep d v))) was
    ∙ was_deadlocked (not (v == w)) (is_waiting (worker_state b.states v)) (not (is_asleep d v))

sleeps_on : (x y : Bool) → (x && ((y && not false) && not (y && not false))) ≡ false
sleeps_on false y = refl
sleeps_on true false = refl
sleeps_on true true = refl

-- nor on a board that is not deadlocked yet
pub none_released : (b d : BoardModel) (w : ℕ) → b.deadlocked ≡ false → d.deadlocked ≡ false → ((v : ℕ) → w ≢ v → slice_get d.states v ≡ slice_get b.states v)
    → (v : ℕ) → is_woken b w d v ≡ false
none_released b d w was is same v =
    woken_by b d w false false was is same v ∙ sleeps_on (not (v == w)) (is_waiting (worker_state d.states v))

sleeps_no_more : (x y : Bool) → (x && ((y && not false) && not (y && not true))) ≡ (x && y)
sleeps_no_more false y = refl
sleeps_no_more true false = refl
sleeps_no_more true true = refl

-- if it has become deadlocked, all others that wait are
pub all_released : (b d : BoardModel) (w : ℕ) → b.deadlocked ≡ false → d.deadlocked ≡ true → ((v : ℕ) → w ≢ v → slice_get d.states v ≡ slice_get b.states v)
    → (v : ℕ) → is_woken b w d v ≡ (not (v == w) && is_waiting (worker_state d.states v))
all_released b d w was is same v =
    woken_by b d w false true was is same v ∙ sleeps_no_more (not (v == w)) (is_waiting (worker_state d.states v))

runs_on : (e sum : ℕ) (states : List WorkerState) (w : ℕ) → is_waiting (worker_state (map (state_at_total e sum) (slice_set states w Running)) w) ≡ false
runs_on e sum [] w = refl
runs_on e sum (s ∷ states) zero = refl
runs_on e sum (s ∷ states) (suc w) = runs_on e sum states w

not_asleep : (x y : Bool) → x ≡ false → (x && y) ≡ false
not_asleep true y h = cc
not_asleep false y h = refl

stays_up : (states : List WorkerState) (w : ℕ)
    → is_waiting (worker_state (slice_set states w Running) w) ≡ false
stays_up [] w = refl
stays_up (s ∷ states) zero = refl
stays_up (s ∷ states) (suc w) = stays_up states w

-- a worker that made a step doesn't wait
runs_after : (act : Act) (past : List Entry) (states : List WorkerState) (w : ℕ) → is_waiting (worker_state (states_after_act act past (slice_set states w Running)) w) ≡ false
runs_after (acts.Advance e) past states w = runs_on e (total e past) states w
runs_after (acts.Read e) past states w = stays_up states w
runs_after (acts.Await e v) past states w = stays_up states w
runs_after acts.Go past states w = stays_up states w
runs_after (acts.Ticket q) past states w = stays_up states w
runs_after (acts.Put x v) past states w = stays_up states w
runs_after (acts.Get x) past states w = stays_up states w
runs_after (acts.Hand e c) past states w = stays_up states w

unparked : (b d : BoardModel) (w : ℕ) (act : Act) (reply : Reply) → d ≡ after_entry b (record { worker = w; act = act; reply = reply }) → is_asleep d w ≡ false
unparked b d w act reply after =
    let x : Entry = record { worker = w; act = act; reply = reply } in
    not_asleep (is_waiting (worker_state d.states w)) (not d.deadlocked)
    (ap (λ (c : BoardModel). is_waiting (worker_state c.states w)) after ∙ runs_after act (reverse (b.run.entries ++ x ∷ [])) b.states w)

awake : (b d : BoardModel) (w e : ℕ) (may_park : Bool) (reply : Reply) → IsMade reply b w (acts.Advance e) may_park d → is_asleep d w ≡ false
awake b d w e may_park reply made =
    let x : Entry = record { worker = w; act = acts.Advance e; reply = reply } in
    let after : d ≡ after_entry b x =
    made.board ∙ (elim may_park as (λ (t : Bool). cond (t && is_pending reply) (park (after_entry b x) w) (after_entry b x) ≡ after_entry b x) [
      | true ↦ ap (λ (r : Reply). cond (is_pending r) (park (after_entry b x) w) (after_entry b x)) made.kind
      | false ↦ refl
    ]) in
    unparked b d w (acts.Advance e) reply after

-- a worker that made an advance doesn't go to sleep
pub advancer_awake : (n : Next) (b d : BoardModel) (w : ℕ) (act : Act) (may_park : Bool) → is_awaited act b.states ≡ true → IsNext n b w act may_park d → is_sleep n ≡ false
advancer_awake (next.GoOn reply) b d w act may_park a h = refl
advancer_awake (next.Leave outcome moment) b d w act may_park a h = refl
advancer_awake (next.Sleep reply) b d w (acts.Advance e) may_park a h = (let no = awake b d w e may_park reply h.0 in let yes = h.1 in cc)
advancer_awake (next.Sleep reply) b d w (acts.Read e) may_park a h = cc
advancer_awake (next.Sleep reply) b d w (acts.Await e v) may_park a h = cc
advancer_awake (next.Sleep reply) b d w acts.Go may_park a h = cc
advancer_awake (next.Sleep reply) b d w (acts.Ticket q) may_park a h = cc
advancer_awake (next.Sleep reply) b d w (acts.Put x v) may_park a h = cc
advancer_awake (next.Sleep reply) b d w (acts.Get x) may_park a h = cc
advancer_awake (next.Sleep reply) b d w (acts.Hand e c) may_park a h = cc

free_below : (x s : Bool) → (x && not s) ≡ true → s ≡ false
free_below false s h = cc
free_below true false h = refl
free_below true true h = cc

-- if a worker goes to sleep the board isn't deadlocked
pub asleep_free : (n : Next) (b d : BoardModel) (w : ℕ) (act : Act) (may_park : Bool) → IsNext n b w act may_park d → is_sleep n ≡ true → d.deadlocked ≡ false
asleep_free (next.GoOn reply) b d w act may_park h s = cc
asleep_free (next.Leave outcome moment) b d w act may_park h s = cc
asleep_free (next.Sleep reply) b d w act may_park h s = free_below (is_waiting (worker_state d.states w)) d.deadlocked h.1

-- a worker that may not wait doesn't go to sleep
pub may_sleep : (n : Next) (b d : BoardModel) (w : ℕ) (act : Act) (may_park : Bool) → IsNext n b w act may_park d → is_sleep n ≡ true → may_park ≡ true
may_sleep (next.GoOn reply) b d w act may_park h s = cc
may_sleep (next.Leave outcome moment) b d w act may_park h s = cc
may_sleep (next.Sleep reply) b d w act true h s = refl
may_sleep (next.Sleep reply) b d w act false h s = (let no = unparked b d w act reply h.0.board in let yes = h.1 in cc)
