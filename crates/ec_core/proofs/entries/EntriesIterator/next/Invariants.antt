use Rattle.std.proofs.Common.{◌≡◌, ◌+◌, ◌-◌, ◌++◌, ◌∷◌, [], length, drop}
use Rattle.std.specs.List.{flat_map}
use Rattle.ec_core.proofs.entries.EntriesIterator.next.Given as goal

abbrev pub invariant-loop-entry : goal.invariant-loop-entry
invariant-loop-entry l =
    l.self-inside.left ++ flat_map (λ xs. xs) (drop l.self-inside.begun (l.self-inside.full.now ++ l.self-inside.last.now ∷ []))
    ≡ l.initial.self-inside.left ++ flat_map (λ xs. xs) (drop l.initial.self-inside.begun (l.initial.self-inside.full.now ++ l.initial.self-inside.last.now ∷ []))

abbrev pub decreases-loop-entry : goal.decreases-loop-entry
decreases-loop-entry l = length l.self-inside.full.now + 1 - l.self-inside.begun
