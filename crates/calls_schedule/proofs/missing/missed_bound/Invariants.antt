use Rattle.std.proofs.Common.{◌≡◌, ℕ, ◌≤◌, get_or}
use Rattle.calls_schedule.specs.Serving.{due_by, nothing}
use Rattle.calls_schedule.proofs.missing.missed_bound.Given as goal

abbrev pub invariant-loop-start : goal.invariant-loop-start
invariant-loop-start l = record {
  from : l.floor ≤ l.start;
  to : l.start ≤ l.rank;
  each : (k : ℕ) → l.start ≤ k → k ≤ l.rank → (l.at ≤ (get_or l.given k nothing).job.early)
      × (due_by l.room (get_or l.given k nothing) ≤ l.due);
  least : (i : ℕ) × (l.start ≤ i) × (i ≤ l.rank)
      × ((get_or l.given i nothing).job.early ≡ l.at);
}

abbrev pub decreases-loop-start : goal.decreases-loop-start
decreases-loop-start l = l.start
