-- What an event adds to the calls of a history.
use Rattle.std.proofs.Common.{◌≡◌, ℕ, ◌+◌, ◌<◌, Option, Some, None, List, ◌∷◌, ◌++◌, length}
use Rattle.std.proofs.Common.{get_or, reverse, refl, ap, sym, ◌∙◌}
use Rattle.std.proofs.lemmas.List.{reverse-append}
use Rattle.calls_core.specs.declared.history.Action.{Action}
use Rattle.calls_core.specs.declared.history.Action.TheVariants.{Invoke, Respond}
use Rattle.calls_core.specs.declared.history.Event.{Event}
use Rattle.calls_core.specs.declared.history.PendingCall.{PendingCall}
use Rattle.calls_core.specs.declared.history.Call.{Call}
use Rattle.calls_core.specs.Histories.{pending_of, pending_after, ended_call, completed_calls}
use Rattle.calls_core.specs.Histories.{pending_calls}
use Rattle.calls_core.specs.Beginnings.{past_at}
use Rattle.calls_core.proofs.Beginnings.{past_next}

ended_reversed : (x : Event) (a : Action) (o : Option PendingCall)
    → reverse (ended_call x a o) ≡ ended_call x a o
ended_reversed x (Invoke k op) o = refl
ended_reversed x (Respond r) None = refl
ended_reversed x (Respond r) (Some o) = refl

-- what was noted with one event more
pub noted_more : (events : List Event) (i : ℕ) (x : Event) (calls more : List Call)
    (os next : List PendingCall) → i < length events → x ≡ get_or events i x
    → calls ≡ reverse (completed_calls (past_at i events)) → os ≡ pending_calls (past_at i events)
    → more ≡ calls ++ ended_call x x.action (pending_of x.worker os)
    → next ≡ pending_after x x.action os
    → (more ≡ reverse (completed_calls (past_at (i + 1) events)))
    × (next ≡ pending_calls (past_at (i + 1) events))
noted_more events i x calls more os next lt e cs_are os_are m n =
    let past = past_at i events in
    let is = past_next events i x lt ∙ ap (λ (y : Event). y ∷ past) (sym e) in
    let ended = ended_call x x.action (pending_of x.worker (pending_calls past)) in (
      m ∙ ap (λ cs. cs ++ ended_call x x.action (pending_of x.worker os)) cs_are
          ∙ ap (λ zs. reverse (completed_calls past) ++ ended_call x x.action
          (pending_of x.worker zs)) os_are
          ∙ ap (λ zs. reverse (completed_calls past) ++ zs) (sym (ended_reversed x x.action
          (pending_of x.worker (pending_calls past))))
          ∙ sym (reverse-append ended (completed_calls past))
          ∙ ap (λ p. reverse (completed_calls p)) (sym is),
      n ∙ ap (pending_after x x.action) os_are ∙ ap pending_calls (sym is),
    )
