-- Histories of tickets, and their prefixes.
use Rattle.std.proofs.Common.{◌≡◌, ℕ, ◌+◌, ◌<◌, ◌≤◌, ◌==◌, cond, true, false, List, [], ◌∷◌, ◌++◌}
use Rattle.std.proofs.Common.{length, take, drop, get_or, reverse, Option, Some, None, refl, ap}
use Rattle.std.proofs.Common.{◌∙◌, arith, subst, length-append}
use Rattle.std.proofs.lemmas.List.{take_more, take_all, reverse-append}
use Rattle.calls_core.specs.declared.history.Kind.TheVariants.{Sequencer}
use Rattle.calls_core.specs.declared.history.Reply.{Reply}
use Rattle.calls_core.specs.declared.history.Action.{Action}
use Rattle.calls_core.specs.declared.history.Action.TheVariants.{Invoke, Respond}
use Rattle.calls_core.specs.declared.history.Event.{Event}
use Rattle.calls_core.specs.declared.history.PendingCall.{PendingCall}
use Rattle.calls_core.specs.Histories.{clock, completion, invoked_by, pending_of, without}
use Rattle.calls_core.specs.Histories.{pending_calls, pending_after, completed_calls, ended_call}
use Rattle.calls_core.specs.Histories.{Suits, IsNextOf, IsHistoryOf}
use Rattle.calls_core.specs.Beginnings.{past_at}
use Rattle.calls_core.proofs.Positions.{are_calls_of}
use Rattle.calls_core.proofs.Beginnings.{past_split, history_of_earlier}
use Rattle.calls_tickets.specs.kept.Tables.{AreTickets}
use Rattle.calls_tickets.proofs.Wholes.{tickets_of}

pub tickets_until : (past : List Event) (t : ℕ) → IsHistoryOf Sequencer past → clock past ≤ t + 1
    → AreTickets (completed_calls past) (pending_calls past) t
tickets_until past t h le = tickets_of (completed_calls past) (pending_calls past) (clock past) t le
    (are_calls_of Sequencer past h)

-- NO MORE CALLS THAN POSITIONS

pub without_long : (w : ℕ) (os : List PendingCall) (o : PendingCall) → pending_of w os ≡ Some o
    → length (without w os) + 1 ≡ length os
without_long w [] o e = absurd cc
without_long w (p ∷ os) o e =
    elim (p.worker == w) as (λ b. cond b (Some p) (pending_of w os) ≡ Some o
    → length (cond b os (p ∷ without w os)) + 1 ≡ length (p ∷ os)) [
      | true ↦ λ k. omega arith
      | false ↦ λ k. omega (arith, without_long w os o k)
    ] e

one_more : (x : Event) (a : Action) (past : List Event) (o : Option PendingCall)
    → pending_of x.worker (pending_calls past) ≡ o → IsNextOf Sequencer a o
    → length (ended_call x a o ++ completed_calls past) + length
    (pending_after x a (pending_calls past)) ≤ length (completed_calls past) + length
    (pending_calls past) + 1
one_more x (Invoke k op) past None e h = omega (
  arith,
  length-append (pending_calls past)
      (invoked_by x k op ∷ []),
)
one_more x (Invoke k op) past (Some o) e h = absurd h
one_more x (Respond r) past None e h = absurd h
one_more x (Respond r) past (Some o) e h = omega (
  arith,
  without_long x.worker (pending_calls past)
      o e,
)

pub calls_few : (past : List Event) → IsHistoryOf Sequencer past
    → length (completed_calls past) + length (pending_calls past) ≤ clock past
calls_few [] h = omega arith
calls_few (x ∷ past) h =
    omega (
      arith,
      h.0,
      calls_few past h.2,
      one_more x x.action past
          (pending_of x.worker (pending_calls past)) refl h.1,
    )

-- A RESPONSE

pub record IsResponse (x : Event) (r : Reply) (past : List Event) (o : PendingCall) : Type 0 where
  pub ended : completed_calls (x ∷ past) ≡ completion x.at r o ∷ completed_calls past
  pub left : pending_calls (x ∷ past) ≡ without x.worker (pending_calls past)
  pub suits : Suits o.op r
  pub later : clock past ≤ x.at

pub response : (x : Event) (r : Reply) (past : List Event) (o : PendingCall) → x.action ≡ Respond r
    → pending_of x.worker (pending_calls past) ≡ Some o → IsHistoryOf Sequencer (x ∷ past)
    → IsResponse x r past o
response x r past o e found h = record {
  ended = ap (λ a. ended_call x a (pending_of x.worker (pending_calls past))
      ++ completed_calls past) e ∙ ap (λ q. ended_call x (Respond r) q ++ completed_calls past)
      found;
  left = ap (λ a. pending_after x a (pending_calls past)) e;
  suits = subst (IsNextOf Sequencer (Respond r)) found (subst (λ a.
      IsNextOf Sequencer a (pending_of x.worker (pending_calls past))) e h.1);
  later = h.0;
}
