-- The calls of a history are operations of declared objects.
use Rattle.std.proofs.Common.{◌≡◌, ℕ, zero, suc, ◌+◌, ◌-◌, ◌<◌, ◌≤◌, inl, inr, true, false, ◌==◌}
use Rattle.std.proofs.Common.{cond, List, [], ◌∷◌, ◌++◌, length, map, Option, Some, None, slice_get}
use Rattle.std.proofs.Common.{refl, ap, sym, ◌∙◌, arith, subst}
use Rattle.std.specs.List.{All}
use Rattle.std.proofs.lemmas.Bool.{cases_lt, lt-leb}
use Rattle.std.proofs.lemmas.List.Sorted.{All-permutation}
use Rattle.ec_count.specs.Tables.{Tables}
use Rattle.ec_count.specs.declared.setup.Rights.{Rights}
use Rattle.ec_count.specs.declared.setup.Access.{Access}
use Rattle.ec_core.specs.Acceptance.{names_unknown_object}
use Rattle.calls_core.specs.declared.history.Kind.{Kind}
use Rattle.calls_core.specs.declared.history.Kind.TheVariants.{Eventcount, Sequencer, Cell}
use Rattle.calls_core.specs.declared.history.Op.{Op}
use Rattle.calls_core.specs.declared.history.Op.TheVariants.{Advance, Read, Await, Ticket, Put, Get}
use Rattle.calls_core.specs.declared.history.Reply.{Reply}
use Rattle.calls_core.specs.declared.history.Action.{Action}
use Rattle.calls_core.specs.declared.history.Action.TheVariants.{Invoke, Respond}
use Rattle.calls_core.specs.declared.history.Event.{Event}
use Rattle.calls_core.specs.declared.history.PendingCall.{PendingCall}
use Rattle.calls_core.specs.declared.history.Call.{Call}
use Rattle.calls_core.specs.Lists.{Each}
use Rattle.calls_core.specs.Histories.{clock, pending_of, without, pending_calls, pending_after}
use Rattle.calls_core.specs.Histories.{completed_calls, ended_call, Takes, IsNext, IsHistory}
use Rattle.calls_core.specs.Linearizations.{answered_calls, answered_one, IsAnsweredLinearization}
use Rattle.calls_core.specs.Calls.{Fitting}
use Rattle.calls_core.proofs.Lists.{each_append, all_from_each}
use Rattle.calls_kernel.specs.Outside.{kinds_of, is_call, outside_object}
use Rattle.calls_kernel.specs.Made.{act_on}
use Rattle.calls_kernel.proofs.Objects.{event_kind, sequencer_kind, cell_kind, length_all}

-- OBJECTS

get_beyond : {X : Type 0} (xs : List X) (i : ℕ) → length xs ≤ i → slice_get xs i ≡ None
get_beyond [] i h = refl
get_beyond (x ∷ xs) zero h = absurd (omega arith)
get_beyond (x ∷ xs) (suc i) h = get_beyond xs i (omega arith)

length_joined : {X : Type 0} (xs ys : List X) → length (xs ++ ys) ≡ length xs + length ys
length_joined [] ys = omega arith
length_joined (x ∷ xs) ys = omega (arith, length_joined xs ys)

module _ (t : Tables) where
  -- the act that begins a call of op on object k is a call on a declared object, which is k
  pub record IsFitting (k : ℕ) (op : Op) : Type 0 where
    pub object : outside_object t (act_on t k op) ≡ k
    pub known : names_unknown_object t (act_on t k op) ≡ false
    pub call : is_call (act_on t k op) ≡ true

  on_event : (k : ℕ) (op : Op) → k < length t.events → Takes (Some (Eventcount 0)) op
      → IsFitting k op
  on_event k Advance lt h = record {
    object = refl;
    known = lt-leb (length t.events) k lt;
    call = refl;
  }
  on_event k Read lt h = record {
    object = refl;
    known = lt-leb (length t.events) k lt;
    call = refl;
  }
  on_event k (Await v) lt h = record {
    object = refl;
    known = lt-leb (length t.events) k lt;
    call = refl;
  }
  on_event k op lt h = absurd h

  on_sequencer : (k : ℕ) (op : Op) → length t.events ≤ k → k - length t.events < length t.takers
      → Takes (Some Sequencer) op → IsFitting k op
  on_sequencer k Ticket low lt h = record {
    object = omega arith;
    known = lt-leb (length t.takers) (k - length t.events) lt;
    call = refl;
  }
  on_sequencer k op low lt h = absurd h

  on_cell : (k : ℕ) (op : Op) → length t.events + length t.takers ≤ k
      → k - length t.events - length t.takers < length t.cells → Takes (Some Cell) op
      → IsFitting k op
  on_cell k (Put v) low lt h = record {
    object = omega arith;
    known = lt-leb (length t.cells) (k - length t.events - length t.takers) lt;
    call = refl;
  }
  on_cell k Get low lt h = record {
    object = omega arith;
    known = lt-leb (length t.cells) (k - length t.events - length t.takers) lt;
    call = refl;
  }
  on_cell k op low lt h = absurd h

  nothing_takes : (op : Op) → Takes None op → ⊥
  nothing_takes op h = absurd h

  kinds_long : length (kinds_of t) ≡ length t.events + length t.takers + length t.cells
  kinds_long =
      let es = map (λ (r : Rights). Eventcount 0) t.events in
      let qs = map (λ (ws : List ℕ). Sequencer) t.takers in
      let xs = map (λ (a : Access). Cell) t.cells in
      omega (
        arith,
        length_joined es (qs ++ xs),
        length_joined qs xs,
        length_all t.events (Eventcount 0),
        length_all t.takers Sequencer,
        length_all t.cells Cell,
      )

  pub fitting : (k : ℕ) (op : Op) → Takes (slice_get (kinds_of t) k) op → IsFitting k op
  fitting k op h =
      let E = length t.events in
      let Q = length t.takers in
      let C = length t.cells in
      elim (cases_lt k E) [
        | inl lt ↦ on_event k op lt (subst (λ o. Takes o op) (event_kind t k lt) h)
        | inr low ↦ elim (cases_lt (k - E) Q) [
          | inl lt ↦
              (let is : E + (k - E) ≡ k = omega arith in
              let kind : slice_get (kinds_of t) k ≡ Some Sequencer =
              ap (slice_get (kinds_of t)) (sym is) ∙ sequencer_kind t (k - E) lt in
              on_sequencer k op low lt (subst (λ o. Takes o op) kind h))
          | inr high ↦ elim (cases_lt (k - E - Q) C) [
            | inl lt ↦
                (let is : E + Q + (k - E - Q) ≡ k = omega arith in
                let kind : slice_get (kinds_of t) k ≡ Some Cell =
                ap (slice_get (kinds_of t)) (sym is) ∙ cell_kind t (k - E - Q) lt in
                on_cell k op (omega arith) lt (subst (λ o. Takes o op) kind h))
            | inr beyond ↦
                absurd (nothing_takes op (subst (λ o. Takes o op)
                (get_beyond (kinds_of t) k (omega (arith, kinds_long))) h))
          ]
        ]
      ]

-- THE CALLS OF A HISTORY

module _ (kinds : List Kind) where
  abbrev pub FitsCall : Call → Type 0
  FitsCall c = Takes (slice_get kinds c.object) c.op

  abbrev FitsIf : Option PendingCall → Type 0
  FitsIf None = Unit {0}
  FitsIf (Some o) = Fitting kinds o

  fits_of : (w : ℕ) (os : List PendingCall) → Each (Fitting kinds) os → FitsIf (pending_of w os)
  fits_of w [] h = tt
  fits_of w (o ∷ os) h =
      elim (o.worker == w) as (λ b. FitsIf (cond b (Some o) (pending_of w os))) [
        | true ↦ h.0
        | false ↦ fits_of w os h.1
      ]

  fits_without : (w : ℕ) (os : List PendingCall) → Each (Fitting kinds) os
      → Each (Fitting kinds) (without w os)
  fits_without w [] h = tt
  fits_without w (o ∷ os) h =
      elim (o.worker == w) as (λ b. Each (Fitting kinds) (cond b os (o ∷ without w os))) [
        | true ↦ h.1
        | false ↦ (h.0, fits_without w os h.1)
      ]

  invoked_takes : (k : ℕ) (op : Op) (o : Option PendingCall) → IsNext kinds (Invoke k op) o
      → Takes (slice_get kinds k) op
  invoked_takes k op None h = h
  invoked_takes k op (Some o) h = absurd h

  after_fits : (x : Event) (a : Action) (os : List PendingCall) (o : Option PendingCall)
      → IsNext kinds a o → Each (Fitting kinds) os → Each (Fitting kinds) (pending_after x a os)
  after_fits x (Invoke k op) os o h all =
      each_append (Fitting kinds) os (record {
        worker = x.worker;
        object = k;
        op = op;
        first = x.at;
      } ∷ []) all (invoked_takes k op o h, tt)
  after_fits x (Respond r) os o h all = fits_without x.worker os all

  ended_fits : (x : Event) (a : Action) (o : Option PendingCall) → FitsIf o
      → Each FitsCall (ended_call x a o)
  ended_fits x (Invoke k op) o h = tt
  ended_fits x (Respond r) None h = tt
  ended_fits x (Respond r) (Some o) h = (h, tt)

  pending_fit : (past : List Event) → IsHistory kinds past
      → Each (Fitting kinds) (pending_calls past)
  pending_fit [] h = tt
  pending_fit (x ∷ past) h =
      after_fits x x.action (pending_calls past) (pending_of x.worker (pending_calls past)) h.1
      (pending_fit past h.2)

  completed_fit : (past : List Event) → IsHistory kinds past → Each FitsCall (completed_calls past)
  completed_fit [] h = tt
  completed_fit (x ∷ past) h =
      each_append FitsCall
      (ended_call x x.action (pending_of x.worker (pending_calls past))) (completed_calls past)
      (ended_fits x x.action (pending_of x.worker (pending_calls past))
      (fits_of x.worker (pending_calls past) (pending_fit past h.2)))
      (completed_fit past h.2)

  one_fits : (n : ℕ) (o : PendingCall) (a : Option Reply) → Fitting kinds o
      → Each FitsCall (answered_one n o a)
  one_fits n o None h = tt
  one_fits n o (Some r) h = (h, tt)

  answered_fit : (n : ℕ) (answer : PendingCall → Option Reply) (os : List PendingCall)
      → Each (Fitting kinds) os → Each FitsCall (answered_calls n answer os)
  answered_fit n answer [] h = tt
  answered_fit n answer (o ∷ os) h =
      each_append FitsCall (answered_one n o (answer o)) (answered_calls n answer os)
      (one_fits n o (answer o) h.0) (answered_fit n answer os h.1)

  -- each completed call, and each pending one that is answered, is an operation of its object
  pub calls_fit : (past : List Event) (answer : PendingCall → Option Reply) → IsHistory kinds past
      → All FitsCall (answered_calls (clock past) answer (pending_calls past)
      ++ completed_calls past)
  calls_fit past answer h =
      let taken = answered_calls (clock past) answer (pending_calls past) in
      all_from_each FitsCall (taken ++ completed_calls past)
      (each_append FitsCall taken (completed_calls past)
      (answered_fit (clock past) answer (pending_calls past) (pending_fit past h))
      (completed_fit past h))

  pub linearized_fit : (past : List Event) (cs : List Call) → IsHistory kinds past
      → IsAnsweredLinearization kinds past cs → All FitsCall cs
  linearized_fit past cs h l =
      All-permutation FitsCall
      (answered_calls (clock past) l.answer (pending_calls past) ++ completed_calls past) cs
      l.each_once (calls_fit past l.answer h)
