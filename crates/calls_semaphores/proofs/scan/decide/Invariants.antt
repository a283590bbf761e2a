use Rattle.std.proofs.Common.{◌≡◌}
use Rattle.calls_core.specs.Beginnings.{past_at}
use Rattle.calls_semaphores.specs.Monitors.{UpTo}
use Rattle.calls_semaphores.specs.kept.Keeping.{Holds}
use Rattle.calls_semaphores.proofs.scan.decide.Given as goal

abbrev pub invariant-loop-i : goal.invariant-loop-i
invariant-loop-i l = record {
  end : l.scan.end ≡ l.end;
  room : UpTo l.i l.scan.bank.added.items;
  holds : Holds l.units (past_at l.i l.events) l.scan;
}
