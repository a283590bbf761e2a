-- A buffer with one producer and one consumer by what is declared has at most one pending produce
-- and one pending consume.
use Rattle.std.proofs.Common.{◌≡◌, ℕ, ◌+◌, ◌-◌, ◌≤◌, ◌==◌, ◌&&◌, ◌||◌, nat_le, Bool, true}
use Rattle.std.proofs.Common.{false, cond, List, [], ◌∷◌, ◌++◌, Option, Some, None, reverse}
use Rattle.std.proofs.Common.{slice_get, refl, ap, sym, ◌∙◌, subst, arith, count_by}
use Rattle.std.specs.Option.{option_map_or}
use Rattle.std.proofs.lemmas.Bool.{eqb-true, eq-eqb, and_parts}
use Rattle.std.proofs.lemmas.Option.{none-some}
use Rattle.ec_count.specs.Members.{is_member}
use Rattle.ec_count.specs.Tables.{Tables, may_take}
use Rattle.ec_buffer.specs.Shapes.{Buffer}
use Rattle.ec_heading.specs.declared.group.Group.{Group}
use Rattle.ec_heading.specs.declared.group.Group.TheVariants as groups
use Rattle.ec_heading.specs.HeadingModel.{HeadingModel}
use Rattle.calls_core.specs.declared.history.Kind.{Kind}
use Rattle.calls_core.specs.declared.history.Op.{Op}
use Rattle.calls_core.specs.declared.history.Op.TheVariants as ops
use Rattle.calls_core.specs.declared.history.Action.{Action}
use Rattle.calls_core.specs.declared.history.Action.TheVariants.{Invoke, Respond}
use Rattle.calls_core.specs.declared.history.Event.{Event}
use Rattle.calls_core.specs.declared.history.PendingCall.{PendingCall}
use Rattle.calls_core.specs.Lists.{Each}
use Rattle.calls_core.specs.Histories.{pending_of, without, invoked_by, pending_after}
use Rattle.calls_core.specs.Histories.{pending_calls, IsNext, IsHistory, is_on, part}
use Rattle.calls_core.proofs.Lists.{each_append, each_weaker, all_from_each}
use Rattle.calls_core.proofs.Counting.{one_yes, one_no, count_cons, count_append, count_less}
use Rattle.calls_core.proofs.Positions.{each_without}
use Rattle.calls_local.proofs.Parts.{part_history}
use Rattle.calls_buffers.specs.Counts.{any_item, produces, is_consume}
use Rattle.calls_spsc.specs.Flows.{IsSpsc}
use Rattle.calls_monitor.specs.Watched.{has_fit_room}
use Rattle.calls_text.specs.Recordings.{RecordingModel, first_group}
use Rattle.calls_text.specs.Reading.{Running}
use Rattle.calls_text.specs.Following.{IsReached}
use Rattle.calls_watch.specs.Spsc.{is_one, has_one_taker, is_spsc_group, is_spsc}
use Rattle.calls_watch.proofs.Rights.{MayDraw, Allows, IsAllowed, AreAllowed, reached_allowed}

-- THE PENDING CALLS OF A WORKER

idle_of : (kinds : List Kind) (k : ℕ) (op : Op) (o : Option PendingCall)
    → IsNext kinds (Invoke k op) o → o ≡ None
idle_of kinds k op None next = refl
idle_of kinds k op (Some o) next = absurd next

module _ (w : ℕ) where
  -- whether the call is one of worker w
  abbrev own : PendingCall → Bool
  own o = o.worker == w

  none_own : (os : List PendingCall) → pending_of w os ≡ None → count_by own os ≡ 0
  none_own [] e = refl
  none_own (o ∷ os) e =
      elim (own o) as (λ b. own o ≡ b → cond b (Some o) (pending_of w os) ≡ None
      → count_by own (o ∷ os) ≡ 0) [
        | true ↦ λ his is. absurd (none-some o (sym is))
        | false ↦ λ his is.
            omega (arith, count_cons own o os, one_no (own o) his, none_own os is)
      ] refl e

  own_without : (v : ℕ) (os : List PendingCall) → count_by own (without v os) ≤ count_by own os
  own_without v [] = omega arith
  own_without v (o ∷ os) =
      elim (o.worker == v) as (λ b. count_by own (cond b os (o ∷ without v os))
      ≤ count_by own (o ∷ os)) [
        | true ↦ omega (arith, count_cons own o os)
        | false ↦ omega (
          arith,
          count_cons own o os,
          count_cons own o (without v os),
          own_without v os,
        )
      ]

  own_added : (o : PendingCall) (os : List PendingCall) → pending_of o.worker os ≡ None
      → count_by own os ≤ 1 → count_by own (os ++ o ∷ []) ≤ 1
  own_added o os idle few =
      elim (own o) as (λ b. own o ≡ b → count_by own (os ++ o ∷ []) ≤ 1) [
        | true ↦ λ his. omega (
          arith,
          count_append own os (o ∷ []),
          one_yes (own o) his,
          none_own os (ap (λ v. pending_of v os) (sym (eqb-true o.worker w his)) ∙ idle),
        )
        | false ↦ λ his. omega (arith, count_append own os (o ∷ []), one_no (own o) his)
      ] refl

  own_after : (kinds : List Kind) (x : Event) (action : Action) (os : List PendingCall)
      → IsNext kinds action (pending_of x.worker os) → count_by own os ≤ 1
      → count_by own (pending_after x action os) ≤ 1
  own_after kinds x (Invoke k op) os next few =
      own_added (invoked_by x k op) os (idle_of kinds k op (pending_of x.worker os) next) few
  own_after kinds x (Respond r) os next few = omega (arith, own_without x.worker os)

  -- a worker has at most one pending call
  one_own : (kinds : List Kind) (past : List Event) → IsHistory kinds past
      → count_by own (pending_calls past) ≤ 1
  one_own kinds [] h = omega arith
  one_own kinds (x ∷ past) h =
      own_after kinds x x.action (pending_calls past) h.1 (one_own kinds past h.2)

-- THE CALLS OF SOME OPERATIONS, IF ALL ARE BY ONE WORKER

module _ (is : Op → Bool) (w : ℕ) where
  -- an invocation of such a call is one by this worker
  abbrev IsBy : ℕ → Action → Type 0
  IsBy v (Invoke k op) = is op ≡ true → v ≡ w
  IsBy v (Respond r) = Unit {0}

  abbrev AreBy : List Event → Type 0
  AreBy past = Each (λ (x : Event). IsBy x.worker x.action) past

  abbrev IsCallBy : PendingCall → Type 0
  IsCallBy o = is o.op ≡ true → o.worker ≡ w

  calls_after : (x : Event) (action : Action) (os : List PendingCall) → IsBy x.worker action
      → Each IsCallBy os → Each IsCallBy (pending_after x action os)
  calls_after x (Invoke k op) os his all =
      each_append IsCallBy os (invoked_by x k op ∷ []) all (his, tt)
  calls_after x (Respond r) os his all = each_without IsCallBy x.worker os all

  calls_by : (past : List Event) → AreBy past → Each IsCallBy (pending_calls past)
  calls_by [] all = tt
  calls_by (x ∷ past) all =
      calls_after x x.action (pending_calls past) all.0 (calls_by past all.1)

  -- at most one of them is pending
  one_pending : (kinds : List Kind) (past : List Event) → IsHistory kinds past → AreBy past
      → count_by (λ (o : PendingCall). is o.op) (pending_calls past) ≤ 1
  one_pending kinds past h all =
      let each : Each (λ (o : PendingCall). is o.op ≡ true → own w o ≡ true) (pending_calls past) =
      each_weaker IsCallBy (λ (o : PendingCall). is o.op ≡ true → own w o ≡ true)
      (λ o his e. eq-eqb o.worker w (his e)) (pending_calls past) (calls_by past all) in
      omega (
        arith,
        one_own w kinds past h,
        count_less (λ (o : PendingCall). is o.op) (own w) (pending_calls past)
            (all_from_each (λ (o : PendingCall). is o.op ≡ true → own w o ≡ true)
            (pending_calls past) each),
      )

-- so it is of a buffer whose produces are by one worker, and whose consumes are by one worker
spsc_by_workers : (p c : ℕ) (kinds : List Kind) (past : List Event) → IsHistory kinds past
    → AreBy (produces any_item) p past → AreBy is_consume c past → IsSpsc past
spsc_by_workers p c kinds [] h puts takes = tt
spsc_by_workers p c kinds (x ∷ past) h puts takes = (
  one_pending (produces any_item) p kinds (x ∷ past) h puts,
  one_pending is_consume c kinds (x ∷ past) h takes,
  spsc_by_workers p c kinds past h.2 puts.1 takes.1,
)

-- THE PRODUCER AND THE CONSUMER OF A BUFFER

-- only one worker may draw from the sequencer
record HasOneTaker (t : Tables) (q : ℕ) : Type 0 where
  worker : ℕ
  only : (w : ℕ) → may_take t q w ≡ true → w ≡ worker

member_of_one : (v w : ℕ) → is_member w (v ∷ []) ≡ true → w ≡ v
member_of_one v w is =
    elim (v == w) as (λ b. (v == w) ≡ b → (b || false) ≡ true → w ≡ v) [
      | true ↦ λ same e. sym (eqb-true v w same)
      | false ↦ λ other e. cc
    ] refl is

one_in : (o : Option (List ℕ)) → option_map_or is_one o false ≡ true
    → (v : ℕ) × ((w : ℕ) → option_map_or (is_member w) o false ≡ true → w ≡ v)
one_in None is = cc
one_in (Some []) is = cc
one_in (Some (v ∷ [])) is = (v, λ w e. member_of_one v w e)
one_in (Some (v ∷ u ∷ ws)) is = cc

one_taker : (t : Tables) (q : ℕ) → has_one_taker t q ≡ true → HasOneTaker t q
one_taker t q is =
    let p = one_in (slice_get t.takers q) is in record { worker = p.0; only = p.1 }

-- object k is a buffer with one producer and one consumer
record HasPair (h : HeadingModel) (k : ℕ) : Type 0 where
  shape : Buffer
  there : slice_get h.groups (k - first_group h) ≡ Some (groups.Buffer shape)
  producer : HasOneTaker h.setup shape.put_seq
  consumer : HasOneTaker h.setup shape.take_seq

pair_in : (h : HeadingModel) (k : ℕ) (g : Option Group)
    → slice_get h.groups (k - first_group h) ≡ g
    → option_map_or (is_spsc_group h.setup) g false ≡ true → HasPair h k
pair_in h k (Some (groups.Buffer b)) at is =
    let all = and_parts (has_one_taker h.setup b.put_seq && has_one_taker h.setup b.take_seq)
    (has_fit_room b.cells) is in
    let both = and_parts (has_one_taker h.setup b.put_seq) (has_one_taker h.setup b.take_seq)
    all.0 in
    record {
      shape = b;
      there = at;
      producer = one_taker h.setup b.put_seq both.0;
      consumer = one_taker h.setup b.take_seq both.1;
    }
pair_in h k _ at is = cc

pair_of : (h : HeadingModel) (k : ℕ) → is_spsc h k ≡ true → HasPair h k
pair_of h k is =
    pair_in h k (slice_get h.groups (k - first_group h)) refl
    (and_parts (nat_le (first_group h) k) _ is).1

-- who may draw from a sequencer of object k may draw from that of this buffer
draws_of : (h : HeadingModel) (k w : ℕ) (sequencer : Buffer → ℕ) (b : Buffer)
    → slice_get h.groups (k - first_group h) ≡ Some (groups.Buffer b) → MayDraw h w k sequencer
    → may_take h.setup (sequencer b) w ≡ true
draws_of h k w sequencer b there m =
    let is : k ≡ first_group h + m.place = m.is in
    let place : k - first_group h ≡ m.place = omega arith in
    let group : ◌≡◌ {A = Option Group} (Some (groups.Buffer m.shape)) (Some (groups.Buffer b)) =
    sym m.there ∙ ap (slice_get h.groups) (sym place) ∙ there in
    let same : m.shape ≡ b = cc in
    subst (λ (s : Buffer). may_take h.setup (sequencer s) w ≡ true) same m.may

module _ (h : HeadingModel) (k : ℕ) (pair : HasPair h k) where
  produces_by : (w : ℕ) (op : Op) → Allows h w k op → produces any_item op ≡ true
      → w ≡ pair.producer.worker
  produces_by w (ops.Produce v) may is =
      pair.producer.only w (draws_of h k w (λ b. b.put_seq) pair.shape pair.there may)
  produces_by w _ may is = cc

  consumes_by : (w : ℕ) (op : Op) → Allows h w k op → is_consume op ≡ true
      → w ≡ pair.consumer.worker
  consumes_by w ops.Consume may is =
      pair.consumer.only w (draws_of h k w (λ b. b.take_seq) pair.shape pair.there may)
  consumes_by w _ may is = cc

-- THE PART OF ONE BUFFER

module _ (h : HeadingModel) (k : ℕ) (is : Op → Bool) (w : ℕ)
    (his : (v : ℕ) (op : Op) → Allows h v k op → is op ≡ true → v ≡ w) where
  event_by : (v : ℕ) (action : Action) (o : Option PendingCall) → is_on k action o ≡ true
      → IsAllowed h v action → IsBy is w v action
  event_by v (Invoke j op) o on allowed =
      his v op (subst (λ (i : ℕ). Allows h v i op) (eqb-true j k on) allowed)
  event_by v (Respond r) o on allowed = tt

  part_by : (past : List Event) → AreAllowed h past → AreBy is w (part k past)
  part_by [] all = tt
  part_by (x ∷ past) all =
      elim (is_on k x.action (pending_of x.worker (pending_calls past))) as (λ b.
      is_on k x.action (pending_of x.worker (pending_calls past)) ≡ b
      → AreBy is w (cond b (x ∷ part k past) (part k past))) [
        | true ↦ λ on. (
          event_by x.worker x.action (pending_of x.worker (pending_calls past)) on all.0,
          part_by past all.1,
        )
        | false ↦ λ on. part_by past all.1
      ] refl

-- a buffer that the header declares with one producer and one consumer has at most one pending
-- produce and one pending consume
pub spsc_by_allowed : (h : HeadingModel) (ks : List Kind) (past : List Event) → AreAllowed h past
    → IsHistory ks past → (k : ℕ) → is_spsc h k ≡ true → IsSpsc (part k past)
spsc_by_allowed h ks past all history k is =
    let pair : HasPair h k = pair_of h k is in
    spsc_by_workers pair.producer.worker pair.consumer.worker ks (part k past)
    (part_history ks k past history)
    (part_by h k (produces any_item) pair.producer.worker (produces_by h k pair) past all)
    (part_by h k is_consume pair.consumer.worker (consumes_by h k pair) past all)

pub spsc_by_rights : (n : ℕ) (ps : List (List ℕ)) (r : RecordingModel) (m : ℕ)
    (qs : List (List ℕ)) → IsReached n ps (Running r) m qs
    → (ks : List Kind) → IsHistory ks (reverse r.events)
    → (k : ℕ) → is_spsc r.heading k ≡ true → IsSpsc (part k (reverse r.events))
spsc_by_rights n ps r m qs at ks history k is =
    spsc_by_allowed r.heading ks (reverse r.events) (reached_allowed n ps r m qs at) history k is
