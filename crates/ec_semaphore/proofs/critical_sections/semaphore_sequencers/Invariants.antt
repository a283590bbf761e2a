use Rattle.std.proofs.Common.{◌≡◌, ℕ, ◌<◌, Some, slice_get, take, length}
use Rattle.ec_semaphore.specs.Both.{is_semaphore_sequencer}
use Rattle.ec_semaphore.proofs.critical_sections.semaphore_sequencers.Given as goal

abbrev pub invariant-loop-shape : goal.invariant-loop-shape
invariant-loop-shape l = record {
  room : length l.lines ≡ 32;
  tabled : (q : ℕ) → q < 32 → slice_get l.lines q ≡ Some (is_semaphore_sequencer l.common (take l.shape-index l.shapes) q);
}
