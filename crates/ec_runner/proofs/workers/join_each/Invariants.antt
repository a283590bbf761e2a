use Rattle.std.proofs.Common.{◌≡◌, ◌++◌, ◌+◌, length}
use Rattle.std.specs.Vec.Iter.{into_iter_items, into_iter_len}
use Rattle.ec_runner.specs.WorkPromises.{AreJoinResults}
use Rattle.ec_runner.proofs.workers.join_each.Given as goal

abbrev pub invariant-loop-handle : goal.invariant-loop-handle
invariant-loop-handle g l = record {
  order : l.yielded ++ into_iter_items l.handle-iterator ≡ l.fn.handles.items;
  left : length l.yielded + into_iter_len l.handle-iterator ≡ length l.fn.handles.items;
  joined : AreJoinResults l.yielded l.summaries;
}
