-- The objects of one header are the same, whichever list they are in: a list of units may be
-- represented in two ways.
use Rattle.std.proofs.Common.{◌≡◌, ℕ, zero, suc, ◌+◌, ◌-◌, ◌<◌, ◌≤◌, inl, inr, List, [], ◌∷◌, ◌++◌, length}
use Rattle.std.proofs.Common.{slice_get, slice_index, Option, Some, None, refl, ap, sym, ◌∙◌, subst, arith}
use Rattle.std.proofs.lemmas.Bool.{cases_lt}
use Rattle.std.specs.Global.{Vec}
use Rattle.ec_heading.specs.HeadingModel.{HeadingModel}
use Rattle.ec_heading.specs.declared.group.Group.{Group}
use Rattle.calls_core.specs.declared.history.Kind.{Kind}
use Rattle.calls_core.specs.declared.history.Kind.TheVariants.{Eventcount, Sequencer, Semaphores}
use Rattle.calls_core.specs.declared.history.Kind.TheVariants.{Cell, Database, Buffer}
use Rattle.calls_core.specs.declared.history.Op.{Op}
use Rattle.calls_core.specs.declared.history.Op.TheVariants.{Advance, Read, Await, Ticket, P, V}
use Rattle.calls_core.specs.declared.history.Op.TheVariants.{PBoth, Put, Get, Produce, Consume}
use Rattle.calls_core.specs.declared.history.Action.{Action}
use Rattle.calls_core.specs.declared.history.Action.TheVariants.{Invoke, Respond}
use Rattle.calls_core.specs.declared.history.Event.{Event}
use Rattle.calls_core.specs.declared.history.PendingCall.{PendingCall}
use Rattle.calls_core.specs.Histories.{pending_of, pending_calls, Takes, IsNext, IsHistory}
use Rattle.calls_core.specs.Linearizations.{initial, start, IsRun}
use Rattle.calls_core.specs.Completions.{IsLinearizable}
use Rattle.calls_text.specs.Recordings.{AreKinds, first_sequencer, first_cell, semaphores, first_group}
use Rattle.calls_text.specs.Recordings.{start_count, kind_of_group}

-- WHAT OBJECTS ARE

abbrev pub AreAlike : Option Kind → Option Kind → Type 0
AreAlike None None = Unit {0}
AreAlike (Some (Eventcount n)) (Some (Eventcount m)) = n ≡ m
AreAlike (Some Sequencer) (Some Sequencer) = Unit {0}
AreAlike (Some (Semaphores u)) (Some (Semaphores v)) = u.items ≡ v.items
AreAlike (Some Cell) (Some Cell) = Unit {0}
AreAlike (Some (Database n)) (Some (Database m)) = n ≡ m
AreAlike (Some (Buffer n)) (Some (Buffer m)) = n ≡ m
AreAlike _ _ = ⊥

alike_self : (o : Option Kind) → AreAlike o o
alike_self None = tt
alike_self (Some (Eventcount n)) = refl
alike_self (Some Sequencer) = tt
alike_self (Some (Semaphores u)) = refl
alike_self (Some Cell) = tt
alike_self (Some (Database n)) = refl
alike_self (Some (Buffer n)) = refl

alike_both : (a b : Option Kind) → a ≡ b → AreAlike a b
alike_both a b same = subst (AreAlike a) same (alike_self a)

abbrev pub AllAlike : List Kind → List Kind → Type 0
AllAlike ks ls = (k : ℕ) → AreAlike (slice_get ks k) (slice_get ls k)

nothing_there : (ks : List Kind) (k : ℕ) → length ks ≤ k → slice_get ks k ≡ None
nothing_there [] k le = refl
nothing_there (x ∷ ks) zero le = absurd (omega (arith, le))
nothing_there (x ∷ ks) (suc k) le = nothing_there ks k (omega (arith, le))

something_there : (gs : List Group) (i : ℕ) → i < length gs
    → (g : Group) × (slice_get gs i ≡ Some g)
something_there [] i lt = absurd (omega (arith, lt))
something_there (g ∷ gs) zero lt = (g, refl)
something_there (g ∷ gs) (suc i) lt = something_there gs i (omega (arith, lt))

module _ (h : HeadingModel) (from : List (ℕ × ℕ)) (ks ls : List Kind) (one : AreKinds h from ks)
    (other : AreKinds h from ls) where
  at_place : (n i k : ℕ) (kind : Kind) → n + i ≡ k → slice_get ks (n + i) ≡ Some kind
      → slice_get ls (n + i) ≡ Some kind → AreAlike (slice_get ks k) (slice_get ls k)
  at_place n i k kind is a b =
      subst (λ (j : ℕ). AreAlike (slice_get ks j) (slice_get ls j)) is
      (alike_both (slice_get ks (n + i)) (slice_get ls (n + i)) (a ∙ sym b))

  units_alike : AreAlike (slice_get ks (semaphores h)) (slice_get ls (semaphores h))
  units_alike =
      let u = one.units in
      let v = other.units in
      let same : AreAlike (Some (Semaphores u.0)) (Some (Semaphores v.0)) = u.2 ∙ sym v.2 in
      subst (λ (o : Option Kind). AreAlike o (slice_get ls (semaphores h))) (sym u.1)
      (subst (AreAlike (Some (Semaphores u.0))) (sym v.1) same)

  in_groups : (i : ℕ) → i < length h.groups
      → AreAlike (slice_get ks (first_group h + i)) (slice_get ls (first_group h + i))
  in_groups i lt =
      let g = something_there h.groups i lt in
      at_place (first_group h) i (first_group h + i) (kind_of_group g.0) refl
      (one.by_group i g.0 g.1) (other.by_group i g.0 g.1)

  beyond : (k : ℕ) → first_group h + length h.groups ≤ k
      → AreAlike (slice_get ks k) (slice_get ls k)
  beyond k le =
      let a : slice_get ks k ≡ None = nothing_there ks k (omega (arith, one.count, le)) in
      let b : slice_get ls k ≡ None = nothing_there ls k (omega (arith, other.count, le)) in
      alike_both (slice_get ks k) (slice_get ls k) (a ∙ sym b)

  among_groups : (k : ℕ) → first_group h ≤ k → AreAlike (slice_get ks k) (slice_get ls k)
  among_groups k le = elim (cases_lt k (first_group h + length h.groups)) [
    | inl lt ↦
        let at : first_group h + (k - first_group h) ≡ k = omega (arith, le) in
        subst (λ (j : ℕ). AreAlike (slice_get ks j) (slice_get ls j)) at
        (in_groups (k - first_group h) (omega (arith, lt, le)))
    | inr far ↦ beyond k far
  ]

  among_units : (k : ℕ) → semaphores h ≤ k → AreAlike (slice_get ks k) (slice_get ls k)
  among_units k le = elim (cases_lt k (first_group h)) [
    | inl lt ↦
        let at : semaphores h ≡ k = omega (arith, lt, le) in
        subst (λ (j : ℕ). AreAlike (slice_get ks j) (slice_get ls j)) at units_alike
    | inr ge ↦ among_groups k ge
  ]

  among_cells : (k : ℕ) → first_cell h ≤ k → AreAlike (slice_get ks k) (slice_get ls k)
  among_cells k le = elim (cases_lt k (semaphores h)) [
    | inl lt ↦
        let near : k - first_cell h < length h.setup.cells = omega (arith, lt, le) in
        at_place (first_cell h) (k - first_cell h) k Cell (omega (arith, le))
        (one.cells (k - first_cell h) near) (other.cells (k - first_cell h) near)
    | inr ge ↦ among_units k ge
  ]

  among_sequencers : (k : ℕ) → first_sequencer h ≤ k → AreAlike (slice_get ks k) (slice_get ls k)
  among_sequencers k le = elim (cases_lt k (first_cell h)) [
    | inl lt ↦
        let near : k - first_sequencer h < length h.setup.takers = omega (arith, lt, le) in
        at_place (first_sequencer h) (k - first_sequencer h) k Sequencer (omega (arith, le))
        (one.sequencers (k - first_sequencer h) near)
        (other.sequencers (k - first_sequencer h) near)
    | inr ge ↦ among_cells k ge
  ]

  pub all_alike : AllAlike ks ls
  all_alike k = elim (cases_lt k (first_sequencer h)) [
    | inl lt ↦
        at_place 0 k k (Eventcount (start_count from k)) (omega arith) (one.events k lt)
        (other.events k lt)
    | inr ge ↦ among_sequencers k ge
  ]

-- WHAT THEY TAKE, AND THEIR INITIAL STATE

units_take : (u v : Vec ℕ) → u.items ≡ v.items → (op : Op) → Takes (Some (Semaphores u)) op
    → Takes (Some (Semaphores v)) op
units_take u v same (P i) t = subst (λ (xs : List ℕ). i < length xs) same t
units_take u v same (V i) t = subst (λ (xs : List ℕ). i < length xs) same t
units_take u v same (PBoth i j) t = (
  subst (λ (xs : List ℕ). i < length xs) same t.0,
  subst (λ (xs : List ℕ). j < length xs) same t.1,
  t.2,
)
units_take u v same Advance t = t
units_take u v same Read t = t
units_take u v same (Await n) t = t
units_take u v same Ticket t = t
units_take u v same (Put n) t = t
units_take u v same Get t = t
units_take u v same (Produce n) t = t
units_take u v same Consume t = t

takes_alike : (a b : Option Kind) → AreAlike a b → (op : Op) → Takes a op → Takes b op
takes_alike None None same op t = t
takes_alike (Some (Eventcount n)) (Some (Eventcount m)) same op t =
    subst (λ (i : ℕ). Takes (Some (Eventcount i)) op) same t
takes_alike (Some Sequencer) (Some Sequencer) same op t = t
takes_alike (Some (Semaphores u)) (Some (Semaphores v)) same op t = units_take u v same op t
takes_alike (Some Cell) (Some Cell) same op t = t
takes_alike (Some (Database n)) (Some (Database m)) same op t =
    subst (λ (i : ℕ). Takes (Some (Database i)) op) same t
takes_alike (Some (Buffer n)) (Some (Buffer m)) same op t =
    subst (λ (i : ℕ). Takes (Some (Buffer i)) op) same t
takes_alike _ _ same op t = absurd same

initial_alike : (a b : Option Kind) → AreAlike a b → (i : ℕ) → initial a i ≡ initial b i
initial_alike None None same i = refl
initial_alike (Some (Eventcount n)) (Some (Eventcount m)) same i = same
initial_alike (Some Sequencer) (Some Sequencer) same i = refl
initial_alike (Some (Semaphores u)) (Some (Semaphores v)) same i =
    ap (λ (xs : List ℕ). slice_index xs i) same
initial_alike (Some Cell) (Some Cell) same i = refl
initial_alike (Some (Database n)) (Some (Database m)) same i = refl
initial_alike (Some (Buffer n)) (Some (Buffer m)) same i =
    ap (λ (n : ℕ). initial (Some (Buffer n)) i) same
initial_alike _ _ same i = absurd same

-- HISTORIES

next_alike : (ks ls : List Kind) → AllAlike ks ls → (a : Action) (o : Option PendingCall)
    → IsNext ks a o → IsNext ls a o
next_alike ks ls all (Invoke k op) None next =
    takes_alike (slice_get ks k) (slice_get ls k) (all k) op next
next_alike ks ls all (Invoke k op) (Some o) next = next
next_alike ks ls all (Respond r) None next = next
next_alike ks ls all (Respond r) (Some o) next = next

pub history_alike : (ks ls : List Kind) → AllAlike ks ls → (past : List Event) → IsHistory ks past
    → IsHistory ls past
history_alike ks ls all [] h = tt
history_alike ks ls all (x ∷ past) h = (
  h.0,
  next_alike ks ls all x.action (pending_of x.worker (pending_calls past)) h.1,
  history_alike ks ls all past h.2,
)

same_start : (ks ls : List Kind) → AllAlike ks ls → start ks ≡ start ls
same_start ks ls all =
    let each : (k i : ℕ) → start ks k i ≡ start ls k i =
    λ k i. initial_alike (slice_get ks k) (slice_get ls k) (all k) i in
    λ t k i. each k i t

pub linearizable_alike : (ks ls : List Kind) → AllAlike ks ls → (past : List Event)
    → IsLinearizable ks past → IsLinearizable ls past
linearizable_alike ks ls all past (cs, l) = (
  cs,
  record {
    late = l.late;
    responses = l.responses;
    history = history_alike ks ls all (l.late ++ past) l.history;
    legal = record {
      each_once = l.legal.each_once;
      in_order = l.legal.in_order;
      run = subst (λ (s : ℕ → ℕ → ℕ). IsRun s cs) (same_start ks ls all) l.legal.run;
    };
  },
)
