-- What one more event changes in the pending and the completed calls.
use Rattle.std.proofs.Common.{◌≡◌, ℕ, ◌+◌, ◌<◌, ◌≤◌, Bool, true, false, ◌&&◌, ◌==◌, nat_le, List}
use Rattle.std.proofs.Common.{[], ◌∷◌, ◌++◌, Option, Some, None, refl, ap, ◌∙◌, arith, cond, subst}
use Rattle.std.proofs.Common.{count_by}
use Rattle.std.specs.List.{All}
use Rattle.std.proofs.lemmas.Option.{same_Some, none-some}
use Rattle.std.proofs.lemmas.List.Elements.{All-nil, All-cons, All-head, All-tail, All-append}
use Rattle.std.proofs.lemmas.List.Elements.{All-weaker}
use Rattle.calls_core.specs.declared.history.Kind.{Kind}
use Rattle.calls_core.specs.declared.history.Op.{Op}
use Rattle.calls_core.specs.declared.history.Reply.{Reply}
use Rattle.calls_core.specs.declared.history.Action.{Action}
use Rattle.calls_core.specs.declared.history.Action.TheVariants.{Invoke, Respond}
use Rattle.calls_core.specs.declared.history.Event.{Event}
use Rattle.calls_core.specs.declared.history.PendingCall.{PendingCall}
use Rattle.calls_core.specs.declared.history.Call.{Call}
use Rattle.calls_core.specs.Histories.{clock, pending_of, without, invoked_by, pending_after}
use Rattle.calls_core.specs.Histories.{pending_calls, completion, ended_call, completed_calls}
use Rattle.calls_core.specs.Histories.{Takes, IsNextOf, IsHistoryOf}
use Rattle.calls_core.specs.Linearizations.{answered_one, answered_calls}
use Rattle.calls_core.specs.Lists.{Each, EachPair}
use Rattle.calls_core.specs.Calls.{Early, Earlier}
use Rattle.calls_core.proofs.Lists.{each_weaker, each_append, each_pair_append}
use Rattle.calls_counts.specs.Faults.{is_advance, invokes_advance, invoked_upto}
use Rattle.calls_core.proofs.Counting.{one, count_cons, count_append}
use Rattle.calls_core.proofs.Positions.{each_call_by as each_pending_of, each_pair_without as pairs_without}

-- THE PENDING CALL OF A WORKER

-- a count of all pending calls is that of one and of the others
pub count_without : (p : PendingCall → Bool) (w : ℕ) (os : List PendingCall) (o : PendingCall)
    → pending_of w os ≡ Some o → count_by p os ≡ one (p o) + count_by p (without w os)
count_without p w [] o e = absurd (none-some o e)
count_without p w (y ∷ os) o e =
    elim (y.worker == w) as (λ b. cond b (Some y) (pending_of w os) ≡ Some o
    → count_by p (y ∷ os) ≡ one (p o) + count_by p (cond b os (y ∷ without w os))) [
      | true ↦ λ is. count_cons p y os ∙ ap (λ z. one (p z) + count_by p os) (same_Some y o is)
      | false ↦ λ is. omega (
        arith,
        count_cons p y os,
        count_cons p y (without w os),
        count_without
            p w os o is,
      )
    ] e

pub All-without : (P : PendingCall → Type 0) (w : ℕ) (os : List PendingCall) → All P os
    → All P (without w os)
All-without P w [] h = h
All-without P w (y ∷ os) h =
    elim (y.worker == w) as (λ b. All P (cond b os (y ∷ without w os))) [
      | true ↦ All-tail P y os h
      | false ↦ All-cons P y (without w os) (All-head P y os h)
          (All-without P w os (All-tail P y os h))
    ]

pub All-pending_of : (P : PendingCall → Type 0) (w : ℕ) (os : List PendingCall) (o : PendingCall)
    → All P os → pending_of w os ≡ Some o → P o
All-pending_of P w [] o h e = absurd (none-some o e)
All-pending_of P w (y ∷ os) o h e =
    elim (y.worker == w) as (λ b. cond b (Some y) (pending_of w os) ≡ Some o → P o) [
      | true ↦ λ is. subst P (same_Some y o is) (All-head P y os h)
      | false ↦ λ is. All-pending_of P w os o (All-tail P y os h) is
    ] e

-- POSITIONS

abbrev pub Spans : ℕ → Call → Type 0
Spans t c = (c.first < c.last) × (c.last < t)

early_with : (x : Event) (k : Action) (os : List PendingCall) (t : ℕ) → t ≤ x.at → All (Early t) os
    → All (Early (x.at + 1)) (pending_after x k os)
early_with x (Invoke j op) os t le h =
    All-append (Early (x.at + 1)) os (invoked_by x j op ∷ [])
    (All-weaker (Early t) (Early (x.at + 1)) (λ o e. omega arith) os h)
    (All-cons (Early (x.at + 1)) (invoked_by x j op) [] (omega arith) (All-nil (Early (x.at + 1))))
early_with x (Respond r) os t le h = All-without (Early (x.at + 1)) x.worker os
    (All-weaker (Early t) (Early (x.at + 1)) (λ o e. omega arith) os h)

pub all_early : (kind : Kind) (past : List Event) → IsHistoryOf kind past
    → All (Early (clock past)) (pending_calls past)
all_early kind [] h = All-nil (Early 0)
all_early kind (x ∷ past) h = early_with x x.action (pending_calls past) (clock past) h.0
    (all_early kind past h.2)

spans_ended : (x : Event) (k : Action) (o : Option PendingCall) (t : ℕ) → t ≤ x.at
    → ((y : PendingCall) → o ≡ Some y → y.first < t) → All (Spans (x.at + 1)) (ended_call x k o)
spans_ended x (Invoke j op) o t le h = All-nil (Spans (x.at + 1))
spans_ended x (Respond r) None t le h = All-nil (Spans (x.at + 1))
spans_ended x (Respond r) (Some y) t le h =
    let early : y.first < t = h y refl in
    All-cons (Spans (x.at + 1)) (completion x.at r y) [] (omega arith, omega arith)
    (All-nil (Spans (x.at + 1)))

pub all_span : (kind : Kind) (past : List Event) → IsHistoryOf kind past
    → All (Spans (clock past)) (completed_calls past)
all_span kind [] h = All-nil (Spans 0)
all_span kind (x ∷ past) h =
    All-append (Spans (x.at + 1)) (ended_call x x.action (pending_of x.worker (pending_calls past)))
    (completed_calls past)
    (spans_ended x x.action (pending_of x.worker (pending_calls past)) (clock past) h.0 (λ y e.
    All-pending_of (Early (clock past)) x.worker (pending_calls past) y
    (all_early kind past h.2) e))
    (All-weaker (Spans (clock past)) (Spans (x.at + 1)) (λ c s. let le : clock past ≤ x.at = h.0 in
    (s.0, omega arith)) (completed_calls past) (all_span kind past h.2))

-- OPERATIONS, AND THE ORDER OF INVOCATIONS

abbrev pub Fits : Kind → PendingCall → Type 0
Fits kind o = Takes (Some kind) o.op

each_without : (P : PendingCall → Type 0) (w : ℕ) (os : List PendingCall) → Each P os
    → Each P (without w os)
each_without P w [] h = tt
each_without P w (o ∷ os) h = elim (o.worker == w) as (λ b. Each P (cond b os (o ∷ without w os)))
    [ true ↦ h.1 | false ↦ (h.0, each_without P w os h.1) ]

fits_with : (kind : Kind) (x : Event) (k : Action) (os : List PendingCall)
    → IsNextOf kind k (pending_of x.worker os) → Each (Fits kind) os
    → Each (Fits kind) (pending_after x k os)
fits_with kind x (Invoke j op) os h fits = each_append (Fits kind) os (invoked_by x j op ∷ []) fits
    (taken (pending_of x.worker os) h, tt)
  where
    taken : (o : Option PendingCall) → IsNextOf kind (Invoke j op) o → Takes (Some kind) op
    taken None k = k
    taken (Some p) k = absurd k
fits_with kind x (Respond r) os h fits = each_without (Fits kind) x.worker os fits

pub pending_fit : (kind : Kind) (past : List Event) → IsHistoryOf kind past
    → Each (Fits kind) (pending_calls past)
pending_fit kind [] h = tt
pending_fit kind (x ∷ past) h = fits_with kind x x.action (pending_calls past) h.1
    (pending_fit kind past h.2)

abbrev pub CallFits : Kind → Call → Type 0
CallFits kind c = Takes (Some kind) c.op

ended_fit : (kind : Kind) (x : Event) (k : Action) (o : Option PendingCall)
    → ((y : PendingCall) → o ≡ Some y → Fits kind y) → Each (CallFits kind) (ended_call x k o)
ended_fit kind x (Invoke j op) o h = tt
ended_fit kind x (Respond r) None h = tt
ended_fit kind x (Respond r) (Some y) h = (h y refl, tt)

pub completed_fit : (kind : Kind) (past : List Event) → IsHistoryOf kind past
    → Each (CallFits kind) (completed_calls past)
completed_fit kind [] h = tt
completed_fit kind (x ∷ past) h =
    each_append (CallFits kind) (ended_call x x.action (pending_of x.worker (pending_calls past)))
    (completed_calls past)
    (ended_fit kind x x.action (pending_of x.worker (pending_calls past)) (λ y e.
    each_pending_of (Fits kind) x.worker (pending_calls past) y (pending_fit kind past h.2) e))
    (completed_fit kind past h.2)

one_fits : (kind : Kind) (t : ℕ) (o : PendingCall) (r : Option Reply) → Fits kind o
    → Each (CallFits kind) (answered_one t o r)
one_fits kind t o None h = tt
one_fits kind t o (Some r) h = (h, tt)

pub answered_fit : (kind : Kind) (t : ℕ) (answer : PendingCall → Option Reply)
    (os : List PendingCall) → Each (Fits kind) os → Each (CallFits kind)
    (answered_calls t answer os)
answered_fit kind t answer [] h = tt
answered_fit kind t answer (o ∷ os) h =
    each_append (CallFits kind) (answered_one t o (answer o)) (answered_calls t answer os)
    (one_fits kind t o (answer o) h.0) (answered_fit kind t answer os h.1)

each_from_all : (P : PendingCall → Type 0) (os : List PendingCall) → All P os → Each P os
each_from_all P [] h = tt
each_from_all P (o ∷ os) h = (All-head P o os h, each_from_all P os (All-tail P o os h))

pub each_early : (kind : Kind) (past : List Event) → IsHistoryOf kind past
    → Each (Early (clock past)) (pending_calls past)
each_early kind past h = each_from_all (Early (clock past)) (pending_calls past)
    (all_early kind past h)

rises_with : (x : Event) (k : Action) (os : List PendingCall) (t : ℕ) → t ≤ x.at → Each (Early t) os
    → EachPair Earlier os → EachPair Earlier (pending_after x k os)
rises_with x (Invoke j op) os t le early h =
    each_pair_append Earlier os (invoked_by x j op ∷ []) h (tt, tt)
    (each_weaker (Early t) (λ o. Each (Earlier o) (invoked_by x j op ∷ [])) (λ o e.
    (omega arith, tt)) os early)
rises_with x (Respond r) os t le early h = pairs_without Earlier x.worker os h

pub pending_rise : (kind : Kind) (past : List Event) → IsHistoryOf kind past
    → EachPair Earlier (pending_calls past)
pending_rise kind [] h = tt
pending_rise kind (x ∷ past) h = rises_with x x.action (pending_calls past) (clock past) h.0
    (each_early kind past h.2) (pending_rise kind past h.2)

-- ADVANCES THAT WERE INVOKED

-- an advance that was invoked at position d or before
abbrev pub begun : ℕ → Op → ℕ → Bool
begun d op first = is_advance op && nat_le first d

abbrev pub begun_call : ℕ → Call → Bool
begun_call d c = begun d c.op c.first

abbrev pub begun_pending : ℕ → PendingCall → Bool
begun_pending d o = begun d o.op o.first

returned_one : (kind : Kind) (d : ℕ) (x : Event) (r : Reply) (os : List PendingCall)
    (o : Option PendingCall) → pending_of x.worker os ≡ o → IsNextOf kind (Respond r) o
    → count_by (begun_call d) (ended_call x (Respond r) o) + count_by (begun_pending d)
    (without x.worker os) ≡ count_by (begun_pending d) os
returned_one kind d x r os None e h = absurd h
returned_one kind d x r os (Some y) e h =
    omega (
      arith,
      count_without (begun_pending d) x.worker os y e,
      count_cons (begun_call d)
          (completion x.at r y) [],
    )

invoked_one : (kind : Kind) (d : ℕ) (x : Event) (k : Action) (os : List PendingCall)
    → IsNextOf kind k (pending_of x.worker os)
    → count_by (begun_call d) (ended_call x k (pending_of x.worker os)) + count_by (begun_pending d)
    (pending_after x k os) ≡ one (invokes_advance k && nat_le x.at d) + count_by
    (begun_pending d) os
invoked_one kind d x (Invoke j op) os h =
    omega (
      arith,
      count_append (begun_pending d) os (invoked_by x j op ∷ []),
      count_cons
          (begun_pending d) (invoked_by x j op) [],
    )
invoked_one kind d x (Respond r) os h = omega (
  arith,
  returned_one kind d x r os
      (pending_of x.worker os) refl h,
)

-- each invoked advance is completed or pending
pub all_invoked : (kind : Kind) (d : ℕ) (past : List Event) → IsHistoryOf kind past
    → count_by (begun_call d) (completed_calls past) + count_by (begun_pending d)
    (pending_calls past) ≡ invoked_upto d past
all_invoked kind d [] h = refl
all_invoked kind d (x ∷ past) h =
    let step = invoked_one kind d x x.action (pending_calls past) h.1 in
    let before = all_invoked kind d past h.2 in
    omega (
      arith,
      step,
      before,
      count_cons (λ (y : Event). invokes_advance y.action && nat_le y.at d) x past,
      count_append (begun_call d) (ended_call x x.action (pending_of x.worker (pending_calls past)))
          (completed_calls past),
    )

-- no more pending advances are answered than were invoked
answered_begun : (d t : ℕ) (answer : PendingCall → Option Reply) (os : List PendingCall)
    → count_by (begun_call d) (answered_calls t answer os) ≤ count_by (begun_pending d) os
answered_begun d t answer [] = omega arith
answered_begun d t answer (o ∷ os) =
    omega (
      arith,
      count_append (begun_call d) (answered_one t o (answer o))
          (answered_calls t answer os),
      one_begun (answer o),
      answered_begun d t answer os,
      count_cons
          (begun_pending d) o os,
    )
  where
    one_begun : (r : Option Reply) → count_by (begun_call d) (answered_one t o r) ≤ one
        (begun_pending d o)
    one_begun None = omega arith
    one_begun (Some r) = omega (arith, count_cons (begun_call d) (completion t r o) [])

pub begun_few : (kind : Kind) (d t : ℕ) (answer : PendingCall → Option Reply) (past : List Event)
    → IsHistoryOf kind past
    → count_by (begun_call d) (answered_calls t answer (pending_calls past) ++ completed_calls past)
    ≤ invoked_upto d past
begun_few kind d t answer past h =
    omega (
      arith,
      count_append (begun_call d) (answered_calls t answer (pending_calls past))
          (completed_calls past),
      answered_begun d t answer (pending_calls past),
      all_invoked kind d
          past h,
    )
