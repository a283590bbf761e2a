-- How many calls were invoked: no more than the positions of their events allow.
use Rattle.std.proofs.Common.{◌≡◌, ℕ, ◌+◌, ◌-◌, ◌^◌, ◌<◌, ◌≤◌, Bool, true, false, cond, arith}
use Rattle.std.proofs.Common.{List, [], ◌∷◌, length, Option, Some, None, refl}
use Rattle.std.proofs.lemmas.List.{length-append}
use Rattle.calls_core.specs.declared.history.TheConstants.{WORKERS}
use Rattle.calls_core.specs.declared.history.Kind.{Kind}
use Rattle.calls_core.specs.declared.history.Action.{Action}
use Rattle.calls_core.specs.declared.history.Action.TheVariants.{Invoke, Respond}
use Rattle.calls_core.specs.declared.history.Event.{Event}
use Rattle.calls_core.specs.declared.history.PendingCall.{PendingCall}
use Rattle.calls_core.specs.Histories.{clock, pending_of, invoked_by, pending_after, pending_calls}
use Rattle.calls_core.specs.Histories.{ended_call, completed_calls, IsNextOf, IsHistoryOf}
use Rattle.calls_core.proofs.Counting.{count_cons}
use Rattle.calls_counts.specs.Faults.{is_advance, invokes_advance, advances_invoked}
use Rattle.calls_monitor.specs.kept.Watching.{call_count}
use Rattle.calls_tickets.proofs.Histories.{without_long as without_length}

-- how many calls an event invokes
abbrev pub one : Action → ℕ
one (Invoke k op) = 1
one (Respond r) = 0

pending_step : (kind : Kind) (x : Event) (action : Action) (os : List PendingCall)
    (o : Option PendingCall) → pending_of x.worker os ≡ o → IsNextOf kind action o
    → length (ended_call x action o) + length (pending_after x action os) ≡ length os + one action
pending_step kind x (Invoke k op) os None e h =
    omega (arith, length-append os (invoked_by x k op ∷ []))
pending_step kind x (Invoke k op) os (Some o) e h = absurd h
pending_step kind x (Respond r) os None e h = absurd h
pending_step kind x (Respond r) os (Some o) e h = omega (arith, without_length x.worker os o e)

ended_one : (kind : Kind) (x : Event) (action : Action) (o : Option PendingCall)
    → IsNextOf kind action o → length (ended_call x action o) + one action ≡ 1
ended_one kind x (Invoke k op) None h = refl
ended_one kind x (Invoke k op) (Some o) h = absurd h
ended_one kind x (Respond r) None h = absurd h
ended_one kind x (Respond r) (Some o) h = refl

pub begun_next : (kind : Kind) (x : Event) (past : List Event) → IsHistoryOf kind (x ∷ past)
    → call_count (x ∷ past) ≡ call_count past + one x.action
begun_next kind x past h =
    let os = pending_calls past in
    let o = pending_of x.worker os in
    omega (
      arith,
      length-append (ended_call x x.action o) (completed_calls past),
      pending_step kind x x.action os o refl h.1,
    )

-- two events of each completed call and one of each pending call
events_made : (kind : Kind) (past : List Event) → IsHistoryOf kind past
    → length (completed_calls past) + call_count past ≡ length past
events_made kind [] h = refl
events_made kind (x ∷ past) h =
    let o = pending_of x.worker (pending_calls past) in
    omega (
      arith,
      length-append (ended_call x x.action o) (completed_calls past),
      begun_next kind x past h,
      ended_one kind x x.action o h.1,
      events_made kind past h.2,
    )

within_clock : (kind : Kind) (past : List Event) → IsHistoryOf kind past → length past ≤ clock past
within_clock kind [] h = omega arith
within_clock kind (x ∷ past) h = omega (arith, h.0, within_clock kind past h.2)

pub begun_few : (kind : Kind) (x : Event) (past : List Event) → IsHistoryOf kind (x ∷ past)
    → x.at < 2 ^ 64 → length (pending_calls past) ≤ WORKERS → call_count past ≤ 2 ^ 64 - 2
begun_few kind x past h fits few =
    omega (arith, h.0, within_clock kind past h.2, events_made kind past h.2, fits, few)

advance_one : (b : Bool) → cond b 1 0 ≤ 1
advance_one true = omega arith
advance_one false = omega arith

invokes_one : (a : Action) → cond (invokes_advance a) 1 0 ≤ one a
invokes_one (Invoke k op) = advance_one (is_advance op)
invokes_one (Respond r) = omega arith

-- no more advances than calls were invoked
pub advances_few : (kind : Kind) (past : List Event) → IsHistoryOf kind past
    → advances_invoked past ≤ call_count past
advances_few kind [] h = omega arith
advances_few kind (x ∷ past) h =
    omega (
      arith,
      count_cons (λ (y : Event). invokes_advance y.action) x past,
      invokes_one x.action,
      begun_next kind x past h,
      advances_few kind past h.2,
    )
