use Rattle.std.proofs.Common.{◌≡◌, ℕ, ◌<◌, false, get_or}
use Rattle.calls_core.specs.declared.history.Event.{Event}
use Rattle.calls_replay.specs.Obstacles.{is_group_action}
use Rattle.calls_replay.proofs.obstacle.first_of_group.Given as goal

abbrev pub invariant-loop-i : goal.invariant-loop-i
invariant-loop-i l =
    (k : ℕ) → k < l.i → (d : Event)
    → is_group_action l.recording.heading (get_or l.events k d).action ≡ false
