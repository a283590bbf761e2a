-- A call without a fault may be the next event.
use Rattle.std.proofs.Common.{◌≡◌, ◌<◌, ◌&&◌, ◌==◌, ℕ, zero, suc, ◌+◌, ◌^◌, Bool, true, false, not}
use Rattle.std.proofs.Common.{List, [], ◌∷◌, ◌++◌, length, Some, None, slice_get, refl, ap, sym}
use Rattle.std.proofs.Common.{◌∙◌, subst, arith, cond, Ok}
use Rattle.std.specs.Prelude.{is_some}
use Rattle.std.specs.Option.{option_map_or}
use Rattle.std.proofs.lemmas.Bool.{eq-eqb, leb-false, eqb-true}
use Rattle.std.proofs.lemmas.List.{length-map}
use Rattle.std.proofs.lemmas.Option.{slice_get_within}
use Rattle.ec_count.specs.Tables.{IsDeclared, first_that}
use Rattle.ec_count.specs.Members as members
use Rattle.ec_count.specs.declared.setup.Rights.{Rights}
use Rattle.ec_semaphore.specs.Shapes.{Semaphore}
use Rattle.ec_heading.specs.declared.group.Group.TheVariants as groups
use Rattle.ec_heading.specs.HeadingModel.{HeadingModel}
use Rattle.calls_core.specs.declared.history.Kind as sorts
use Rattle.calls_core.specs.declared.history.Kind.TheVariants.{Eventcount, Sequencer, Cell}
use Rattle.calls_core.specs.declared.history.Kind.TheVariants.{Database, Semaphores, Buffer}
use Rattle.calls_core.specs.declared.history.Op.{Op}
use Rattle.calls_core.specs.declared.history.Op.TheVariants as ops
use Rattle.calls_core.specs.declared.history.Action.{Action}
use Rattle.calls_core.specs.declared.history.Action.TheVariants.{Invoke}
use Rattle.calls_core.specs.declared.history.Event.{Event}
use Rattle.calls_core.specs.Histories.{Takes, IsNext, pending_after, invoked_by}
use Rattle.calls_counts.specs.Faults.{is_advance}
use Rattle.calls_text.specs.declared.fault.FaultKind.{FaultKind}
use Rattle.calls_text.specs.declared.fault.FaultKind.TheVariants as faults
use Rattle.calls_text.specs.declared.verb.OpWord.{OpWord}
use Rattle.calls_text.specs.declared.verb.OpWord.TheVariants as verbs
use Rattle.calls_text.specs.declared.object.Object.{Object}
use Rattle.calls_text.specs.declared.object.Object.TheVariants as objects
use Rattle.calls_text.specs.Objects.{has_right, is_owned}
use Rattle.calls_text.specs.Verbs.{is_update, tail_of}
use Rattle.calls_text.specs.Recordings.{RecordingModel, AreKinds, start_count}
use Rattle.calls_text.specs.Recordings.{first_sequencer, first_cell, semaphores, first_group}
use Rattle.calls_text.specs.Reading.{is_bad_tail, call_fault_by, has_two_roles, index_of, op_of_word}
use Rattle.calls_text.specs.Reading.{number_in, lists_of}
use Rattle.calls_text.specs.declared.running.Running.{Running}
use Rattle.calls_text.specs.declared.tally.Tally.{Tally}
use Rattle.calls_text.specs.Tallies.{tally_at, IsCountedFurther}
use Rattle.calls_text.specs.kept.Judging.{pending_by, spent_at, spent_by, fault_by, invocation}
use Rattle.calls_text.specs.kept.Judging.{NextEvent, TallyAfter, IsTallied, Answers}
use Rattle.calls_text.specs.kept.Runs.{Fits}
use Rattle.ec_heading.proofs.shared.Declarable.{is_none_from as none_of}

-- FAULTS

passes : (b : Bool) (k : FaultKind) (xs : List (Bool × FaultKind)) → first_that ((b, k) ∷ xs) ≡ None
    → (b ≡ false) × (first_that xs ≡ None)
passes true k xs is = cc
passes false k xs is = (refl, is)

held : (b : Bool) → not b ≡ false → b ≡ true
held true is = refl
held false is = cc

record NoFault (h : HeadingModel) (w : ℕ) (v : OpWord) (o : Object) (busy spent : Bool) : Type 0 where
  roles : has_two_roles o ≡ false
  right : has_right h.setup w (is_update v) o ≡ true
  idle : busy ≡ false
  more : spent ≡ false

no_fault : (h : HeadingModel) (w : ℕ) (v : OpWord) (o : Object) (ws : List (List ℕ)) (busy spent : Bool)
    → call_fault_by h w v o ws busy spent ≡ None → NoFault h w v o busy spent
no_fault h w v o ws busy spent is =
    let t : List (Bool × FaultKind) = (spent, faults.AtLimit) ∷ [] in
    let s : List (Bool × FaultKind) = (busy, faults.Busy) ∷ t in
    let right : Bool = not (has_right h.setup w (is_update v) o) in
    let p : List (Bool × FaultKind) = (right, faults.NoRight) ∷ s in
    let q : List (Bool × FaultKind) = (has_two_roles o, faults.TwoRoles) ∷ p in
    let owned : Bool = is_owned h.groups o in
    let a = passes (is_bad_tail (tail_of v) ws o) faults.BadNumber ((owned, faults.Hidden) ∷ q) is
    in
    let b = passes owned faults.Hidden q a.1 in
    let c = passes (has_two_roles o) faults.TwoRoles p b.1 in
    let d = passes right faults.NoRight s c.1 in
    let e = passes busy faults.Busy t d.1 in
    let f = passes spent faults.AtLimit [] e.1 in
    record { roles = c.0; right = held _ d.0; idle = e.0; more = f.0 }

-- WHAT IS DECLARED

declared : {A : Type 0} (f : A → Bool) (xs : List A) (i : ℕ)
    → option_map_or f (slice_get xs i) false ≡ true → i < length xs
declared f [] i is = cc
declared f (x ∷ xs) zero is = omega arith
declared f (x ∷ xs) (suc i) is = let r : i < length xs = declared f xs i is in omega arith

pub signs : (w : ℕ) (events : List Rights) (e : ℕ)
    → is_some (members.index_of w (option_map_or (λ (r : Rights). r.signal) (slice_get events e)
    [])) ≡ true
    → e < length events
signs w [] e is = cc
signs w (x ∷ xs) zero is = omega arith
signs w (x ∷ xs) (suc e) is = let r : e < length xs = signs w xs e is in omega arith

both_true : (a b : Bool) → (a && b) ≡ true → (a ≡ true) × (b ≡ true)
both_true true b is = (refl, is)
both_true false b is = cc

-- KINDS

event_at : (h : HeadingModel) (from : List (ℕ × ℕ)) (kinds : List sorts.Kind) (e : ℕ)
    → AreKinds h from kinds → e < length h.setup.events
    → slice_get kinds e ≡ Some (Eventcount (start_count from e))
event_at h from kinds e are lt =
    let z : e ≡ 0 + e = omega arith in ap (slice_get kinds) z ∙ are.events e lt

by_kind : (kinds : List sorts.Kind) (k : ℕ) (kind : sorts.Kind) (op : Op)
    → slice_get kinds k ≡ Some kind → Takes (Some kind) op → Takes (slice_get kinds k) op
by_kind kinds k kind op is takes = subst (λ o. Takes o op) (sym is) takes

unit_at : (h : HeadingModel) (from : List (ℕ
    × ℕ)) (kinds : List sorts.Kind) (are : AreKinds h from kinds)
    (i : ℕ) (s : Semaphore) → slice_get h.groups i ≡ Some (groups.Semaphore s)
    → i < length are.units.0.items
unit_at h from kinds are i s at =
    let inside : i < length h.groups = slice_get_within h.groups i (groups.Semaphore s) at in
    let all : length are.units.0.items ≡ length h.groups =
    ap length are.units.2 ∙ simp length-map in
    omega arith

apart : (i j : ℕ) → (i == j) ≡ false → i ≡ j → ⊥
apart i j is e = cc (eq-eqb i j e)

takes : (h : HeadingModel) (from : List (ℕ
    × ℕ)) (kinds : List sorts.Kind) (w : ℕ) (v : OpWord) (o : Object)
    (n : ℕ) → AreKinds h from kinds → Fits h v o → has_right h.setup w (is_update v) o ≡ true
    → has_two_roles o ≡ false → Takes (slice_get kinds (index_of h o)) (op_of_word v o n)
takes h from kinds w verbs.Advance (objects.Event e) n are fits right roles =
    by_kind kinds e _ ops.Advance (event_at h from kinds e are (signs w h.setup.events e right)) tt
takes h from kinds w verbs.Read (objects.Event e) n are fits right roles =
    by_kind kinds e _ ops.Read (event_at h from kinds e are (declared _ h.setup.events e right)) tt
takes h from kinds w verbs.Await (objects.Event e) n are fits right roles =
    by_kind kinds e _ (ops.Await n) (event_at h from kinds e are
    (declared _ h.setup.events e right)) tt
takes h from kinds w verbs.Ticket (objects.Sequencer q) n are fits right roles =
    by_kind kinds (first_sequencer h + q) Sequencer ops.Ticket
    (are.sequencers q (declared _ h.setup.takers q right)) tt
takes h from kinds w verbs.Put (objects.Cell x) n are fits right roles =
    by_kind kinds (first_cell h + x) Cell (ops.Put n)
    (are.cells x (declared _ h.setup.cells x right)) tt
takes h from kinds w verbs.Get (objects.Cell x) n are fits right roles =
    by_kind kinds (first_cell h + x) Cell ops.Get (are.cells x (declared _ h.setup.cells x right))
    tt
takes h from kinds w verbs.P (objects.Semaphore i s) n are fits right roles =
    by_kind kinds (semaphores h) (Semaphores are.units.0) (ops.P i) are.units.1
    (unit_at h from kinds are i s fits)
takes h from kinds w verbs.V (objects.Semaphore i s) n are fits right roles =
    by_kind kinds (semaphores h) (Semaphores are.units.0) (ops.V i) are.units.1
    (unit_at h from kinds are i s fits)
takes h from kinds w verbs.PBoth (objects.Pair i one j other common) n are fits right roles =
    by_kind kinds (semaphores h) (Semaphores are.units.0) (ops.PBoth i j) are.units.1 (
      unit_at h from kinds are i one fits.0,
      unit_at h from kinds are j other fits.1,
      apart i j roles,
    )
takes h from kinds w verbs.Write (objects.Database i d) n are fits right roles =
    by_kind kinds (first_group h + i) (Database d.cells) (ops.Put n)
    (are.by_group i (groups.Database d) fits) tt
takes h from kinds w verbs.Snapshot (objects.Database i d) n are fits right roles =
    by_kind kinds (first_group h + i) (Database d.cells) ops.Get
    (are.by_group i (groups.Database d) fits) tt
takes h from kinds w verbs.Produce (objects.Buffer i b) n are fits right roles =
    by_kind kinds (first_group h + i) (Buffer b.cells) (ops.Produce n)
    (are.by_group i (groups.Buffer b) fits) tt
takes h from kinds w verbs.Consume (objects.Buffer i b) n are fits right roles =
    by_kind kinds (first_group h + i) (Buffer b.cells) ops.Consume
    (are.by_group i (groups.Buffer b) fits) tt
takes h from kinds w v o n are fits right roles = absurd fits

pub may_call : (run : Running) (w : ℕ) (v : OpWord) (o : Object) (ws : List (List ℕ))
    → Fits run.recording.heading v o → fault_by run w v o ws ≡ None
    → (ks : List sorts.Kind) → AreKinds run.recording.heading run.recording.from ks
    → IsNext ks (invocation run w v o ws).action (pending_by run w)
may_call run w v o ws fits none ks are =
    let h = run.recording.heading in
    let n = number_in run.recording.lists v ws in
    let f = no_fault h w v o ws (is_some (pending_by run w)) (spent_by run w v o) none in
    subst (IsNext ks (Invoke (index_of h o) (op_of_word v o n))) (sym (none_of _ f.idle))
    (takes h run.recording.from ks w v o n are fits f.right f.roles)

-- one more advance fits
pub may_add : (run : Running) (w e : ℕ) (v : OpWord) (o : Object) → v ≡ verbs.Advance
    → o ≡ objects.Event e → spent_by run w v o ≡ false → IsDeclared run.recording.heading.setup
    → tally_at run.tally.value w e + 1 < 2 ^ 64
may_add run w e v o is of none declared =
    let more : spent_by run w verbs.Advance (objects.Event e) ≡ false =
    sym (ap (λ (x : OpWord). spent_by run w x o) is ∙ ap (spent_by run w verbs.Advance) of)
    ∙ none in
    let below : tally_at run.tally.value w e < run.recording.heading.setup.limit = leb-false _ _ more in
    omega (arith, declared.limit.1)

-- a call without a fault is below the limit
not_spent : (run : Running) (w : ℕ) (v : OpWord) (o : Object) (ws : List (List ℕ))
    → fault_by run w v o ws ≡ None → spent_by run w v o ≡ false
not_spent run w v o ws none =
    (no_fault run.recording.heading w v o ws (is_some (pending_by run w)) (spent_by run w v o)
    none).more

-- this does not depend on the lists
pub still_not_spent : (old new : Running) (mid : RecordingModel) (w : ℕ) (v : OpWord) (o : Object)
    (ws lists : List (List ℕ)) → mid ≡ record old.recording { lists = lists }
    → new.recording ≡ mid → new.tally.value ≡ old.tally.value → fault_by old w v o ws ≡ None
    → spent_by new w v o ≡ false
still_not_spent old new mid w v o ws lists mid_is is same none =
    ap (λ (r : RecordingModel). spent_at r.heading.setup.limit new.tally.value w v o) (is ∙ mid_is)
    ∙ ap (λ (t : Tally). spent_at old.recording.heading.setup.limit t w v o) same
    ∙ not_spent old w v o ws none

-- TALLIES

no_more : (b : Bool) (m n : ℕ) → n ≡ cond (b && false) m n
no_more true m n = refl
no_more false m n = refl

other_call : (old new : Tally) (w k : ℕ) (op : Op) → is_advance op ≡ false → new ≡ old
    → (u f : ℕ) → tally_at new u f
    ≡ cond ((w == u) && (is_advance op && (k == f))) (tally_at old u f + 1) (tally_at old u f)
other_call old new w k op none same u f =
    ap (λ (t : Tally). tally_at t u f) same
    ∙ no_more (w == u) (tally_at old u f + 1) (tally_at old u f)
    ∙ ap (λ (b : Bool). cond ((w == u) && (b && (k == f))) (tally_at old u f + 1)
    (tally_at old u f)) (sym none)

swapped : (a b : ℕ) → (a == b) ≡ (b == a)
swapped a b = elim (a == b) as (λ x. (a == b) ≡ x → x ≡ (b == a)) [
  | true ↦ λ e. sym (eq-eqb b a (sym (eqb-true a b e)))
  | false ↦ λ e. elim (b == a) as (λ y. (b == a) ≡ y → false ≡ y) [
    | true ↦ λ f. cc (e, eq-eqb a b (sym (eqb-true b a f)))
    | false ↦ λ f. refl
  ] refl
] refl

advanced : (old new : Tally) (w e : ℕ) → IsCountedFurther old new w e → (u f : ℕ) → u < 16 → f < 32
    → tally_at new u f
    ≡ cond ((w == u) && (e == f)) (tally_at old u f + 1) (tally_at old u f)
advanced old new w e after u f few some =
    after u f few some
    ∙ ap (λ (b : Bool). cond (b && (f == e)) (tally_at old u f + 1) (tally_at old u f))
    (swapped u w)
    ∙ ap (λ (b : Bool). cond ((w == u) && b) (tally_at old u f + 1) (tally_at old u f))
    (swapped f e)

tallied : (h : HeadingModel) (old new : Tally) (w : ℕ) (v : OpWord) (o : Object) (n at : ℕ)
    → Fits h v o
    → TallyAfter old new w v o → IsTallied old new (record {
      at = at;
      worker = w;
      action = Invoke (index_of h o) (op_of_word v o n);
    })
tallied h old new w verbs.Advance (objects.Event e) n at fits after =
    λ u f few some. advanced old new w e after u f few some
tallied h old new w verbs.Advance o n at fits after = absurd fits
tallied h old new w verbs.Read o n at fits after =
    λ u f few some. other_call old new w (index_of h o) ops.Read refl after u f
tallied h old new w verbs.Await o n at fits after =
    λ u f few some. other_call old new w (index_of h o) (ops.Await n) refl after u f
tallied h old new w verbs.Ticket o n at fits after =
    λ u f few some. other_call old new w (index_of h o) ops.Ticket refl after u f
tallied h old new w verbs.Put o n at fits after =
    λ u f few some. other_call old new w (index_of h o) (ops.Put n) refl after u f
tallied h old new w verbs.Get o n at fits after =
    λ u f few some. other_call old new w (index_of h o) ops.Get refl after u f
tallied h old new w verbs.P o n at fits after =
    λ u f few some. other_call old new w (index_of h o) (op_of_word verbs.P o n) refl after u f
tallied h old new w verbs.V o n at fits after =
    λ u f few some. other_call old new w (index_of h o) (op_of_word verbs.V o n) refl after u f
tallied h old new w verbs.PBoth o n at fits after =
    λ u f few some. other_call old new w (index_of h o) (op_of_word verbs.PBoth o n) refl after u f
tallied h old new w verbs.Write o n at fits after =
    λ u f few some. other_call old new w (index_of h o) (ops.Put n) refl after u f
tallied h old new w verbs.Snapshot o n at fits after =
    λ u f few some. other_call old new w (index_of h o) ops.Get refl after u f
tallied h old new w verbs.Produce o n at fits after =
    λ u f few some. other_call old new w (index_of h o) (ops.Produce n) refl after u f
tallied h old new w verbs.Consume o n at fits after =
    λ u f few some. other_call old new w (index_of h o) ops.Consume refl after u f

-- THE STATE AFTER A CALL

abbrev pub happening : ℕ → Action → List (List ℕ) → NextEvent
happening w a lists = record { worker = w; action = a; lists = lists }

-- what is known of a call that was made
pub record IsMade (old : Running) (w : ℕ) (v : OpWord) (o : Object) (ws : List (List ℕ))
    (mid : RecordingModel) (new : Running) (n k : ℕ) (op : Op) (x : Event) : Type 0 where
  pub mid_is : mid ≡ record old.recording { lists = lists_of old.recording.lists v ws }
  pub number : n ≡ number_in old.recording.lists v ws
  pub index : k ≡ index_of mid.heading o
  pub op_is : op ≡ op_of_word v o n
  pub event : x ≡ record { at = old.count; worker = w; action = Invoke k op }
  pub recording : new.recording ≡ mid
  pub count : new.count ≡ old.count + 1
  pub pending : new.pending.items ≡ old.pending.items ++ invoked_by x k op ∷ []
  pub tally : TallyAfter old.tally.value new.tally.value w v o

pub call_made : (old : Running) (w : ℕ) (v : OpWord) (o : Object) (ws : List (List ℕ))
    (mid : RecordingModel) (new : Running) (n k : ℕ) (op : Op) (x : Event)
    → IsMade old w v o ws mid new n k op x → Fits old.recording.heading v o
    → fault_by old w v o ws ≡ None
    → Answers old new (Ok x) (Ok (invocation old w v o ws))
call_made old w v o ws mid new n k op x is fits none =
    let h = old.recording.heading in
    let lists = lists_of old.recording.lists v ws in
    let last : new.recording ≡ record old.recording { lists = lists } = is.recording ∙ is.mid_is in
    let action : Invoke k op ≡ (invocation old w v o ws).action =
    ap (λ i. Invoke i op) (is.index ∙ ap (λ (r : RecordingModel). index_of r.heading o) is.mid_is)
    ∙ ap (λ (p : Op). Invoke (index_of h o) p) (is.op_is ∙ ap (op_of_word v o) is.number) in
    let event : x ≡ record {
      at = old.count;
      worker = w;
      action = (invocation old w v o ws).action;
    } = is.event
    ∙ ap (λ (a : Action). (let y : Event = record { at = old.count; worker = w; action = a } in y))
    action in
    let all : happening x.worker x.action new.recording.lists ≡ invocation old w v o ws =
    ap (λ (y : Event). happening y.worker y.action new.recording.lists) event
    ∙ ap (λ (r : RecordingModel). happening w (invocation old w v o ws).action r.lists) last in (
      ap Ok (sym all),
      record {
        at = ap (λ (y : Event). y.at) event;
        count = is.count;
        pending = subst (λ (a : Action). new.pending.items ≡ pending_after x a old.pending.items)
            (sym (ap (λ (y : Event). y.action) is.event)) is.pending;
        tally = subst (IsTallied old.tally.value new.tally.value) (sym event)
            (tallied h old.tally.value new.tally.value w v o _ old.count fits is.tally);
        recording =
            last ∙ ap (λ (ls : List (List ℕ)). (let r : RecordingModel = record old.recording
            { lists = ls } in r)) (sym (ap (λ (r : RecordingModel). r.lists) last));
        next = λ ks are. subst (λ (y : Event). IsNext ks y.action (pending_by old y.worker))
            (sym event) (may_call old w v o ws fits none ks are);
      },
    )
