-- What shows that the calls of a bank have no linearization.
use Rattle.std.specs.Prelude.{◌≡◌, ◌+◌, ◌<◌, true, List, Some}
use Rattle.std.specs.List.{Contains}
use Rattle.calls_core.specs.declared.history.Kind.{Kind}
use Rattle.calls_core.specs.declared.history.Event.{Event}
use Rattle.calls_core.specs.Histories.{completed_calls}
use Rattle.calls_core.specs.Linearizations.{initial}
use Rattle.calls_semaphores.specs.declared.fault.Fault.{Fault}
use Rattle.calls_semaphores.specs.Banks.{took, taken_units, added_units}

-- up to the response of a call that took a unit of a semaphore, more units of it were taken than it
-- had at first, plus those that invocations up to there add
pub record Shows (kind : Kind) (past : List Event) (f : Fault) : Type 0 where
  pub completed : Contains (completed_calls past) f.call
  pub took : took f.index f.call.op f.call.reply ≡ true
  pub more :
      initial (Some kind) f.index + added_units f.call.last f.index past
      < taken_units f.call.last f.index past
