-- The calls that are recorded are those of the history.
use Rattle.std.proofs.Common.{◌≡◌, ℕ, ◌≤◌, List, sym, subst}
use Rattle.calls_core.specs.declared.history.Kind.TheVariants.{Buffer}
use Rattle.calls_core.specs.declared.history.Event.{Event}
use Rattle.calls_core.specs.declared.history.PendingCall.{PendingCall}
use Rattle.calls_core.specs.declared.history.Call.{Call}
use Rattle.calls_core.specs.Histories.{IsHistoryOf, clock, completed_calls, pending_calls}
use Rattle.calls_core.specs.Calls.{AreCallsOf}
use Rattle.calls_core.proofs.Positions.{are_calls_of, calls_of_later}

pub recorded_calls : (n end : ℕ) (past : List Event) (done : List Call) (pending : List PendingCall)
    → IsHistoryOf (Buffer n) past → clock past ≤ end → done ≡ completed_calls past
    → pending ≡ pending_calls past → AreCallsOf (Buffer n) done pending end
recorded_calls n end past done pending h le d p =
    subst (λ zs. AreCallsOf (Buffer n) zs pending end) (sym d)
    (subst (λ os. AreCallsOf (Buffer n) (completed_calls past) os end) (sym p)
    (calls_of_later (Buffer n) (completed_calls past) (pending_calls past) (clock past) end le
    (are_calls_of (Buffer n) past h)))
