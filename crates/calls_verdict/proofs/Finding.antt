-- The search for a worker's pending call.
use Rattle.std.proofs.Common.{◌≡◌, ℕ, ◌+◌, List, ◌∷◌, take, reverse, Option, ap, sym, ◌∙◌}
use Rattle.calls_core.specs.declared.history.Event.{Event}
use Rattle.calls_core.specs.declared.history.PendingCall.{PendingCall}
use Rattle.calls_core.specs.Histories.{pending_after, pending_calls}
use Rattle.calls_verdict.specs.kept.Parts.{IsFollowed}

pub pending_more : (events : List Event) (i : ℕ) (x : Event) (os new : List PendingCall)
    (o : Option ℕ) → reverse (take (i + 1) events) ≡ x ∷ reverse (take i events)
    → os ≡ pending_calls (reverse (take i events)) → IsFollowed os new x o
    → new ≡ pending_calls (reverse (take (i + 1) events))
pending_more events i x os new o next was f = f.pending ∙ ap (pending_after x x.action) was ∙ sym
    (ap pending_calls next)
