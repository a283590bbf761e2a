use Rattle.std.proofs.Common.{◌≡◌, ℕ, ◌<◌, length}
use Rattle.ec_trace.specs.kept.WordTables.{IsShortOf, short_at, word_at}
use Rattle.ec_trace.proofs.short_words.shorten.Given as goal

abbrev pub invariant-loop-i : goal.invariant-loop-i
invariant-loop-i l = (length l.short ≡ length l.words) × ((k : ℕ) → k < l.i → IsShortOf (short_at l.short k) (word_at l.words k))
