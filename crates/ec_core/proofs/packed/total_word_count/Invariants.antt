use Rattle.std.proofs.Common.{◌≡◌, ◌*◌, ◌≤◌, take}
use Rattle.ec_core.specs.kept.Packed.{total_word_count}
use Rattle.ec_core.proofs.packed.total_word_count.Given as goal

abbrev pub invariant-loop-one : goal.invariant-loop-one
invariant-loop-one l = (l.sum ≡ total_word_count (take l.one-index l.stored))
    × (l.sum ≤ 4 * l.one-index)
