use Rattle.std.proofs.Common.{◌≡◌, ℕ, nat_eq, not, take}
use Rattle.std.specs.HashSet as hash
use Rattle.calls_buffers.specs.Counts.{untaken}
use Rattle.calls_buffers.proofs.items.untaken.Given as goal

abbrev pub invariant-loop-call : goal.invariant-loop-call
invariant-loop-call l =
    (v : ℕ) → not (hash.contains nat_eq l.taken v) ≡ untaken l.at (take l.call-index l.done) v
