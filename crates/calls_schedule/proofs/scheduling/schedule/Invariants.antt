use Rattle.std.proofs.Common.{◌≡◌, map, reverse}
use Rattle.std.specs.List.{sum_by}
use Rattle.calls_schedule.specs.declared.timed.Timed.{Timed}
use Rattle.calls_schedule.specs.Schedules.{AreBounds}
use Rattle.calls_schedule.specs.Limits.{timed_of}
use Rattle.calls_schedule.proofs.scheduling.schedule.Given as goal

abbrev pub invariant-rounds : goal.invariant-rounds
invariant-rounds l = record {
  list : l.list.items ≡ map (timed_of l.sorted.items (reverse l.bounds.items)) l.sorted.items;
  bounds : AreBounds l.room l.sorted.items (reverse l.bounds.items);
}

abbrev pub decreases-rounds : goal.decreases-rounds
decreases-rounds l = sum_by (λ (t : Timed). t.early) l.list.items
