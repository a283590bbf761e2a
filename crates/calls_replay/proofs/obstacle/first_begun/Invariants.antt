use Rattle.std.proofs.Common.{◌≡◌, ℕ, ◌<◌}
use Rattle.calls_text.specs.Recordings.{start_count}
use Rattle.calls_replay.proofs.obstacle.first_begun.Given as goal

abbrev pub invariant-loop-n : goal.invariant-loop-n
invariant-loop-n l = (e : ℕ) → e < l.n → start_count l.recording.from e ≡ 0
