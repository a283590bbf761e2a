use Rattle.std.proofs.Common.{◌≡◌, [], length}
use Rattle.std.specs.List.{All}
use Rattle.ec_order.specs.AdvanceLogModel.{AdvanceLogModel}
use Rattle.ec_order.proofs.advances.empty_logs.Given as goal

abbrev pub invariant-loop-event : goal.invariant-loop-event
invariant-loop-event l = record {
  long : length l.events.items ≡ l.event;
  none : All (λ (k : AdvanceLogModel). k
      ≡ record { before = 0; moments = []; readers = 0 }) l.events.items;
}
