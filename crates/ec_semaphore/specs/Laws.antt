-- What the definitions mean, in order of time: moment k is that after the first k entries of a history h.
use Rattle.std.specs.Prelude.{◌≡◌, ℕ, List, reverse, pos, ◌≤ℤ◌}
use Rattle.std.specs.List.{AllPairs}
use Rattle.ec_count.specs.Declares.{KeepsObjects}
use Rattle.ec_count.specs.Tables.{Tables, IsDeclared}
use Rattle.ec_core.specs.declared.act.Entry.{Entry}
use Rattle.ec_core.specs.Counts.{past_at, sum_to}
use Rattle.ec_core.specs.Acceptance.{IsAccepted}
use Rattle.ec_core.specs.Following.{Follow}
use Rattle.ec_semaphore.specs.Shapes.{Semaphore, Fits}
use Rattle.ec_semaphore.specs.Uses.{use_rules}
use Rattle.ec_semaphore.specs.Balances.{downs, balance_of}
use Rattle.ec_semaphore.specs.Both.{is_semaphore_sequencer, both_rules}
use Rattle.ec_semaphore.specs.Pairs.{pairs_of, IsEarlier}
use Rattle.ec_semaphore.specs.InOrder.{down_at, ArePairs}

-- a semaphore that is declared stays so if more is declared
abbrev pub SemaphoresStay : Type 0
SemaphoresStay = (s : Semaphore) (old new : Tables) → KeepsObjects old new → Fits s old → Fits s new

-- the completed P at moment k are the entries before it that, each at its own moment, end an await
-- of the eventcount
abbrev pub DownsCountCompletedAwaits : Type 0
DownsCountCompletedAwaits = (s : Semaphore) (k : ℕ) (h : List Entry) → downs s (past_at k h) ≡ sum_to (down_at s h) k

-- if the workers of an accepted history follow a semaphore, its balance is at least 0 at every moment
abbrev pub BalancesAreNeverNegative : Type 0
BalancesAreNeverNegative = (s : Semaphore) (t : Tables) (k : ℕ) (h : List Entry) → IsDeclared t → IsAccepted t (reverse h) → Follow (use_rules s) (reverse h)
    → pos 0 ≤ℤ balance_of s (past_at k h)

-- workers that follow `both` in an accepted history follow its common semaphore, which has initial
-- value 1, as a semaphore
abbrev pub BothIsFollowedAsASemaphore : Type 0
BothIsFollowedAsASemaphore = (c : Semaphore) (shapes : List Semaphore) (t : Tables) (h : List Entry) → c.initial ≡ 1 → IsDeclared t → IsAccepted t (reverse h)
    → Follow (both_rules c (is_semaphore_sequencer c shapes)) (reverse h)
    → Follow (use_rules c) (reverse h)

-- if the workers of an accepted history follow `both`, its pairs are those whose two tickets it draws, by the entry that draws the first
abbrev pub PairsAreDrawn : Type 0
PairsAreDrawn = (c : Semaphore) (shapes : List Semaphore) (t : Tables) (h : List Entry) → IsDeclared t → IsAccepted t (reverse h)
    → Follow (both_rules c (is_semaphore_sequencer c shapes)) (reverse h) → ArePairs c (is_semaphore_sequencer c shapes) h (pairs_of c shapes h)

-- and of two pairs that share a sequencer the earlier has the smaller ticket on it
abbrev pub TicketsAgree : Type 0
TicketsAgree = (c : Semaphore) (shapes : List Semaphore) (t : Tables) (h : List Entry) → IsDeclared t → IsAccepted t (reverse h)
    → Follow (both_rules c (is_semaphore_sequencer c shapes)) (reverse h) → AllPairs IsEarlier (pairs_of c shapes h)
