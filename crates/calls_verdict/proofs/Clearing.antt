-- What a decision on one object says before each position.
use Rattle.std.proofs.Common.{◌≡◌, ℕ, zero, suc, refl, ◌+◌, ◌<◌, ◌≤◌, ◌⊎◌, inl, inr, List, [], ◌∷◌, ◌++◌, length}
use Rattle.std.proofs.Common.{ap, sym, ◌∙◌, arith, subst, reverse, drop, get_or}
use Rattle.std.proofs.lemmas.Bool.{cases_lt}
use Rattle.calls_core.specs.declared.history.Kind.{Kind}
use Rattle.calls_core.specs.declared.history.Kind.TheVariants.{Eventcount, Sequencer, Semaphores}
use Rattle.calls_core.specs.declared.history.Kind.TheVariants.{Cell, Database, Buffer}
use Rattle.calls_core.specs.declared.history.Event.{Event}
use Rattle.calls_core.specs.Histories.{clock, part, IsHistoryOf}
use Rattle.calls_core.specs.Beginnings.{past_at, until}
use Rattle.calls_core.specs.Outcomes.{HasOrderOf, IsFirstFault}
use Rattle.calls_core.proofs.Beginnings.{past_split, past_all, history_until, past_next}
use Rattle.calls_core.proofs.Beginnings.{history_of_earlier}
use Rattle.calls_verdict.specs.declared.verdict.Fault.{Fault}
use Rattle.calls_verdict.specs.declared.verdict.Cause.{Cause}
use Rattle.calls_verdict.specs.declared.verdict.Cause.TheVariants.{Values}
use Rattle.calls_verdict.specs.Faults.{Shows, ShowsUndecided, IsDecided}
use Rattle.calls_verdict.specs.Verdicts.{IsHard, IsRefusedAt, IsOrdered, IsClear, IsSettled}
use Rattle.calls_verdict.proofs.Untils.{until_in, until_out, clock_until, clock_later, until_at}
use Rattle.calls_verdict.proofs.Untils.{until_of, until_all}

-- the events before a position, of a prefix of all, are a prefix
until_prefix : (m : ℕ) (events : List Event) (d : Event) (i : ℕ) → i ≤ length events
    → (j : ℕ) × (j ≤ i) × (until m (past_at i events) ≡ past_at j events)
until_prefix m events d zero le = (zero, omega arith, refl)
until_prefix m events d (suc i) le =
    let next : suc i ≡ i + 1 = omega arith in
    let x = get_or events i d in
    let is : past_at (suc i) events ≡ x ∷ past_at i events =
    ap (λ k. past_at k events) next ∙ past_next events i d (omega arith) in
    elim (cases_lt x.at m) [
      | inl early ↦
          (suc i, omega arith, ap (until m) is ∙ until_in m x (past_at i events) early ∙ sym is)
      | inr late ↦
          (let r = until_prefix m events d i (omega arith) in
          let up = r.1 in (
            r.0,
            omega arith,
            ap (until m) is ∙ until_out m x (past_at i events) late ∙ r.2,
          ))
    ]

module _ (kind : Kind) (events : List Event) (i : ℕ) (d : Event)
    (h : IsHistoryOf kind (reverse events))
    (lt : i < length events) where
  abbrev e : Event
  e = get_or events i d

  split : reverse events ≡ reverse (drop (i + 1) events) ++ e ∷ past_at i events
  split = past_split (i + 1) events ∙ ap (λ q. reverse (drop (i + 1) events) ++ q)
      (past_next events i d lt)

  history : IsHistoryOf kind (reverse (drop (i + 1) events) ++ e ∷ past_at i events)
  history = subst (IsHistoryOf kind) split h

  -- the events before a position contain the event at index i, or are among the events before it
  cases_until : (m : ℕ) → ((more : List Event) × (until m (reverse events) ≡ more ++ e
      ∷ past_at i events))
      ⊎ (until m (reverse events) ≡ until m (past_at i events))
  cases_until m =
      elim (until_of m (reverse (drop (i + 1) events)) (e ∷ past_at i events)) [
        | inl w ↦ inl (w.0, ap (until m) split ∙ w.1)
        | inr is ↦ elim (cases_lt e.at m) [
          | inl early ↦ inl ([], ap (until m) split ∙ is ∙ until_in m e (past_at i events) early)
          | inr late ↦ inr (ap (until m) split ∙ is ∙ until_out m e (past_at i events) late)
        ]
      ]

  later : (m : ℕ) (more : List Event) → until m (reverse events) ≡ more ++ e ∷ past_at i events
      → e.at + 1 ≤ clock (until m (reverse events))
  later m more is =
      subst (λ q. e.at + 1 ≤ clock q) (sym is)
      (clock_later kind more (e ∷ past_at i events) (subst (IsHistoryOf kind) is
      (history_until kind m (reverse events) h)))

  -- the events before its position are those before it
  until_before : until e.at (reverse events) ≡ past_at i events
  until_before =
      let early : clock (past_at i events) ≤ e.at =
      (history_of_earlier kind (reverse (drop (i + 1) events)) (e ∷ past_at i events) history).0 in
      elim (cases_until e.at) [
        | inl w ↦ absurd (omega (arith, later e.at w.0 w.1, clock_until e.at (reverse events)))
        | inr is ↦ is ∙ until_all e.at (past_at i events) early
      ]

  -- up to the position of the event at index i
  pub ordered_up_to : (t m : ℕ) → m ≤ e.at
      → ((j : ℕ) → j ≤ i → IsOrdered kind t (past_at j events) (past_at i events))
      → IsOrdered kind t (until m (reverse events)) (until e.at (reverse events))
  ordered_up_to t m le before =
      elim (cases_until m) [
        | inl w ↦ absurd (omega (arith, later m w.0 w.1, clock_until m (reverse events)))
        | inr is ↦
            (let r = until_prefix m events d i (omega arith) in
            subst (λ q. IsOrdered kind t q (until e.at (reverse events))) (sym (is ∙ r.2))
            (subst (IsOrdered kind t (past_at r.0 events)) (sym until_before) (before r.0 r.1)))
      ]

  -- an object that isn't decided from the event at index i on, at each position
  pub open_at : (u : Cause) (m : ℕ)
      → ((j : ℕ) → i < j → ShowsUndecided kind (past_at j events) u)
      → ((j : ℕ) → j ≤ i → HasOrderOf kind (past_at j events))
      → HasOrderOf kind (until m (reverse events))
      ⊎ ((v : Cause) × ShowsUndecided kind (until m (reverse events)) v)
  open_at u m shows before =
      let r = until_prefix m events d (length events) (omega arith) in
      let is : until m (reverse events) ≡ past_at r.0 events =
      ap (until m) (sym (past_all events (length events) (omega arith))) ∙ r.2 in
      elim (cases_lt i r.0) [
        | inl after ↦ inr (u, subst (λ q. ShowsUndecided kind q u) (sym is) (shows r.0 after))
        | inr up ↦ inl (subst (HasOrderOf kind) (sym is) (before r.0 up))
      ]

  -- the events up to it are those before the next position
  pub until_event : until (e.at + 1) (reverse events) ≡ e ∷ past_at i events
  until_event =
      ap (until (e.at + 1)) split ∙ until_at kind (reverse (drop (i + 1) events))
      (e ∷ past_at i events) history

  pub event_early : e.at < clock (reverse events)
  event_early =
      subst (λ q. e.at < clock q) (sym split)
      (omega (
        arith,
        clock_later kind (reverse (drop (i + 1) events)) (e ∷ past_at i events)
            history,
      ))

-- WHAT IS REFUSED

-- the first faulty event of an object whose calls are always decided
pub refused_first : (kind : Kind) (events : List Event) (t i : ℕ) (f : Fault)
    → ((past more : List Event) → HasOrderOf kind past → IsOrdered kind t past more)
    → IsFirstFault (λ past. Shows kind past f) kind events i → IsRefusedAt kind events t i f
refused_first kind events t i f ordered r = record {
  within = r.within;
  shows = r.shows;
  before = λ j le. ordered (past_at j events) (past_at i events) (r.before j le);
}

-- WHAT IS CLEAR, OF EACH KIND

pub order_clear : (kind : Kind) (past : List Event) (k m : ℕ)
    → HasOrderOf kind (part k (until m past)) → IsClear kind past k m
order_clear (Eventcount n) past k m l = inl l
order_clear Sequencer past k m l = inl l
order_clear (Semaphores units) past k m l = inl l
order_clear Cell past k m l = inl l
order_clear (Database n) past k m l = inl l
order_clear (Buffer n) past k m l = inl l

pub ordered_clear : (kind : Kind) (past : List Event) (k m n : ℕ) → m ≤ n
    → IsOrdered kind (clock past) (part k (until m past)) (part k (until n past))
    → IsClear kind past k m
ordered_clear (Eventcount start) past k m n le h = inl h
ordered_clear Sequencer past k m n le h = inl h
ordered_clear (Semaphores units) past k m n le h = inl h
ordered_clear Cell past k m n le (inl l) = inl l
ordered_clear Cell past k m n le (inr w) = inr (Values w.0, w.1)
ordered_clear (Database width) past k m n le (inl l) = inl l
ordered_clear (Database width) past k m n le (inr w) = inr (Values w.0, w.1)
ordered_clear (Buffer room) past k m n le (inl l) = inl l
ordered_clear (Buffer room) past k m n le (inr hard) =
    inr (record { later = n; from = le; hard = hard })

-- an object whose calls up to the end aren't decided
pub open_clear : (kind : Kind) (past : List Event) (k m : ℕ)
    → HasOrderOf kind (part k (until m past))
    ⊎ ((u : Cause) × ShowsUndecided kind (part k (until m past)) u)
    → IsHard kind (clock past) (part k (until (m + clock past) past)) → IsClear kind past k m
open_clear (Eventcount n) past k m h hard = h
open_clear Sequencer past k m h hard = h
open_clear (Semaphores units) past k m h hard = h
open_clear Cell past k m h hard = h
open_clear (Database n) past k m h hard = h
open_clear (Buffer n) past k m h hard =
    inr (record { later = m + clock past; from = omega arith; hard = hard })

pub decided_settled : (kind : Kind) (past : List Event) (k m : ℕ)
    → IsDecided kind (part k (until m past)) → IsSettled kind past k m
decided_settled (Eventcount n) past k m d = d
decided_settled Sequencer past k m d = d
decided_settled (Semaphores units) past k m d = d
decided_settled Cell past k m d = d
decided_settled (Database n) past k m d = d
decided_settled (Buffer n) past k m d = inl d

one_or_no_other : {A B : Type 0} → (B → ⊥) → A ⊎ B → A
one_or_no_other none (inl a) = a
one_or_no_other none (inr b) = absurd (none b)

-- what is settled and clear has an order
pub settled_order : (kind : Kind) (past : List Event) (k m : ℕ) → IsSettled kind past k m
    → IsClear kind past k m → HasOrderOf kind (part k (until m past))
settled_order (Eventcount n) past k m d c = one_or_no_other (λ w. d w.0 w.1) c
settled_order Sequencer past k m d c = one_or_no_other (λ w. d w.0 w.1) c
settled_order (Semaphores units) past k m d c = one_or_no_other (λ w. d w.0 w.1) c
settled_order Cell past k m d c = one_or_no_other (λ w. d w.0 w.1) c
settled_order (Database n) past k m d c = one_or_no_other (λ w. d w.0 w.1) c
settled_order (Buffer n) past k m (inl l) c = l
settled_order (Buffer n) past k m (inr s) c =
    one_or_no_other (λ w. w.hard s.room (s.simple w.later w.from)) c
