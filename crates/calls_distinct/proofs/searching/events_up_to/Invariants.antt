use Rattle.std.proofs.Common.{◌-◌, ◌<◌, ◌≤◌, ℕ, length, get_or}
use Rattle.calls_core.specs.declared.history.Event.{Event}
use Rattle.calls_distinct.proofs.searching.events_up_to.Given as goal

abbrev pub invariant-loop-n : goal.invariant-loop-n
invariant-loop-n l = record {
  within : l.n ≤ length l.events;
  up_to : (d : Event) (i : ℕ) → i < l.n → (get_or l.events i d).at ≤ l.position;
}

abbrev pub decreases-loop-n : goal.decreases-loop-n
decreases-loop-n l = length l.events - l.n
