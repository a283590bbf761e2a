-- The events of each object, one event after another.
use Rattle.std.proofs.Common.{◌≡◌, ℕ, zero, suc, ◌+◌, ◌<◌, false, ◌==◌, cond}
use Rattle.std.proofs.Common.{List, [], ◌∷◌, ◌++◌, length, get_or, map, set, reverse}
use Rattle.std.proofs.Common.{Option, Some, None, refl, ap, sym, ◌∙◌, arith, subst}
use Rattle.std.proofs.lemmas.Bool.{eq-eqb, ne_eqb}
use Rattle.std.proofs.lemmas.List.{reverse-append, map-append, map-set, get_or-map, length-map}
use Rattle.calls_core.specs.declared.history.Action.{Action}
use Rattle.calls_core.specs.declared.history.Action.TheVariants.{Invoke, Respond}
use Rattle.calls_core.specs.declared.history.Event.{Event}
use Rattle.calls_core.specs.declared.history.PendingCall.{PendingCall}
use Rattle.calls_core.specs.Lists.{EachFrom}
use Rattle.calls_core.specs.Parts.{event_at, events_at}
use Rattle.calls_core.specs.Histories.{pending_of, pending_calls, is_on, part}
use Rattle.calls_verdict.specs.kept.Parts.{object_of, IsPart}

-- an event is on the object that `object_of` gives
on_object : (k j : ℕ) (a : Action) (o : Option PendingCall) → object_of a o ≡ Some j
    → is_on k a o ≡ (j == k)
on_object k j (Invoke i op) o e = (let same : i ≡ j = cc in ap (λ n. n == k) same)
on_object k j (Respond r) None e = cc
on_object k j (Respond r) (Some o) e = (let same : o.object ≡ j = cc in ap (λ n. n == k) same)

on_none : (k : ℕ) (a : Action) (o : Option PendingCall) → object_of a o ≡ None → is_on k a o ≡ false
on_none k (Invoke i op) o e = cc
on_none k (Respond r) None e = refl
on_none k (Respond r) (Some o) e = cc

-- an event of object j leaves the parts of other objects as they are
part_same : (k j : ℕ) (x : Event) (past : List Event) → object_of x.action
    (pending_of x.worker (pending_calls past)) ≡ Some j → (j ≡ k → ⊥)
    → part k (x ∷ past) ≡ part k past
part_same k j x past e other =
    ap (λ b. cond b (x ∷ part k past) (part k past)) (on_object k j x.action
    (pending_of x.worker (pending_calls past)) e ∙ ne_eqb j k other)

part_more : (j : ℕ) (x : Event) (past : List Event) → object_of x.action
    (pending_of x.worker (pending_calls past)) ≡ Some j → part j (x ∷ past) ≡ x ∷ part j past
part_more j x past e =
    ap (λ b. cond b (x ∷ part j past) (part j past)) (on_object j j x.action
    (pending_of x.worker (pending_calls past)) e ∙ eq-eqb j j refl)

others_same : (j k : ℕ) (x : Event) (past : List Event) (parts : List (List Event))
    → object_of x.action (pending_of x.worker (pending_calls past)) ≡ Some j
    → ((i : ℕ) → i < length parts → k + i ≡ j → ⊥)
    → EachFrom (IsPart past) k parts → EachFrom (IsPart (x ∷ past)) k parts
others_same j k x past [] e other h = tt
others_same j k x past (own ∷ parts) e other h = (
  h.0 ∙ sym (part_same k j x past e (λ is. other 0 (omega arith) (omega arith))),
  others_same j (k + 1) x past parts e (λ i lt is. other (suc i) (omega arith) (omega arith)) h.1,
)

-- the event is added to the part of its object
pub parts_more : (j k i : ℕ) (x : Event) (past : List Event) (parts : List (List Event))
    (own d : List Event) → object_of x.action (pending_of x.worker (pending_calls past)) ≡ Some j
    → k + i ≡ j → i < length parts
    → own ≡ get_or parts i d ++ x ∷ [] → EachFrom (IsPart past) k parts
    → EachFrom (IsPart (x ∷ past)) k (set parts i own)
parts_more j k i x past [] own d e at lt is h = absurd (omega arith)
parts_more j k zero x past (p ∷ parts) own d e at lt is h =
    let same : k ≡ j = omega arith in (
      ap reverse is ∙ reverse-append p (x ∷ []) ∙ ap (λ zs. x ∷ zs) h.0 ∙ ap (λ n.
          x ∷ part n past) same ∙ sym (part_more j x past e) ∙ ap (λ n. part n (x ∷ past))
          (sym same),
      others_same j (k + 1) x past parts e (λ i lt is. omega arith) h.1,
    )
parts_more j k (suc i) x past (p ∷ parts) own d e at lt is h = (
  h.0 ∙ sym (part_same k j x past e (λ is. omega arith)),
  parts_more j (k + 1) i x past parts own
      d e (omega arith) (omega arith) is h.1,
)

-- an event of no object leaves all parts as they are
pub parts_same : (k : ℕ) (x : Event) (past : List Event) (parts : List (List Event))
    → object_of x.action (pending_of x.worker (pending_calls past)) ≡ None
    → EachFrom (IsPart past) k parts → EachFrom (IsPart (x ∷ past)) k parts
parts_same k x past [] e h = tt
parts_same k x past (own ∷ parts) e h = (
  h.0 ∙ sym (ap (λ b. cond b (x ∷ part k past) (part k past))
      (on_none k x.action (pending_of x.worker (pending_calls past)) e)),
  parts_same
      (k + 1) x past parts e h.1,
)

pub parts_beyond : (j : ℕ) (x : Event) (past : List Event) (parts : List (List Event))
    → object_of x.action (pending_of x.worker (pending_calls past)) ≡ Some j
    → (j < length parts → ⊥) → EachFrom (IsPart past) 0 parts → EachFrom (IsPart (x ∷ past)) 0 parts
parts_beyond j x past parts e beyond h = others_same j 0 x past parts e (λ i lt is.
    beyond (omega arith)) h

pub empty_more : (k : ℕ) (parts : List (List Event)) (own : List Event) → own ≡ []
    → EachFrom (IsPart []) k parts → EachFrom (IsPart []) k (parts ++ own ∷ [])
empty_more k [] own e h = (ap reverse e, tt)
empty_more k (p ∷ parts) own e h = (h.0, empty_more (k + 1) parts own e h.1)

-- BY INDICES

-- an index is added to the list of its object
pub index_more : (events : List Event) (j i : ℕ) (parts later : List (List ℕ)) (own was : List ℕ)
    (past : List Event)
    → object_of (event_at events i).action (pending_of (event_at events i).worker
    (pending_calls past)) ≡ Some j
    → j < length parts → was ≡ get_or parts j was → own ≡ was ++ i ∷ [] → later ≡ set parts j own
    → EachFrom (IsPart past) 0 (map (events_at events) parts)
    → EachFrom (IsPart (event_at events i ∷ past)) 0 (map (events_at events) later)
index_more events j i parts later own was past e lt read is set_is h =
    let f = events_at events in
    let within : j < length (map f parts) = omega (arith, length-map parts f) in
    let here : f own ≡ get_or (map f parts) j [] ++ event_at events i ∷ [] =
    ap f is ∙ map-append (event_at events) was (i ∷ [])
    ∙ ap (λ zs. zs ++ event_at events i ∷ [])
    (ap f read ∙ sym (get_or-map f parts j was [] lt)) in
    subst (EachFrom (IsPart (event_at events i ∷ past)) 0)
    (sym (ap (map f) set_is ∙ map-set f parts j own))
    (parts_more j 0 j (event_at events i) past (map f parts) (f own) [] e (omega arith) within here
    h)
