-- The first misuse that a test of an action finds.
use Rattle.std.specs.Prelude.{◌<◌, List, Option}
use Rattle.calls_core.specs.declared.history.Kind.{Kind}
use Rattle.calls_core.specs.declared.history.Action.{Action}
use Rattle.calls_core.specs.declared.history.PendingCall.{PendingCall}
use Rattle.calls_verdict.specs.declared.checking.Misuse.{Misuse}
use Rattle.calls_verdict.specs.declared.checking.Misuse.TheVariants.{OutOfOrder}
use Rattle.calls_verdict.specs.Misuses.{IsMisuseBy, rank}

-- this misuse, and none that is tested earlier
pub record IsFirstMisuseBy (kinds : List Kind) (action : Action) (o : Option PendingCall)
    (m : Misuse) : Type 0 where
  pub later : rank OutOfOrder < rank m
  pub holds : IsMisuseBy kinds action o m
  pub first : (n : Misuse) → rank n < rank m → IsMisuseBy kinds action o n → ⊥
