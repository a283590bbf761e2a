use Rattle.std.proofs.Common.{◌≡◌, ℕ, List, [], ◌++◌, length}
use Rattle.calls_text.specs.Outcomes.{lines_of_text}
use Rattle.calls_watch.specs.kept.Watching.{IsFed, IsWatching}
use Rattle.calls_watch.proofs.feeder.Feeder.lines.Given as goal

-- the lines so far were passed to the watcher, and nothing was gathered
abbrev pub invariant-lines : goal.invariant-lines
invariant-lines l = record {
  none : l.self.part.items ≡ [];
  watching : (ps : List (List ℕ)) (rest : List ℕ) → IsFed ps (l.initial.left ++ rest) l.initial.self
      → IsWatching ps (lines_of_text (l.left ++ rest)) l.self.watcher;
}

abbrev pub decreases-lines : goal.decreases-lines
decreases-lines l = length l.left
