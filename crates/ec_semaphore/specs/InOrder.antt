-- The completed P and the pairs in order of time: entry i, counted from 0, happens at moment i, after the first i
-- entries.
use Rattle.std.specs.Prelude.{◌≡◌, ◌≢◌, ℕ, ◌<◌, Bool, List, length, Some, if◌then◌else◌, slice_get}
use Rattle.std.specs.Option.{option_map_or}
use Rattle.ec_core.specs.declared.act.Act.TheVariants.{Ticket}
use Rattle.ec_core.specs.declared.act.Reply.TheVariants.{Number}
use Rattle.ec_core.specs.declared.act.Entry.{Entry}
use Rattle.ec_core.specs.Counts.{past_at}
use Rattle.ec_core.specs.Following.{CompletedCall, block}
use Rattle.ec_semaphore.specs.declared.pair.Pair.{Pair}
use Rattle.ec_semaphore.specs.Shapes.{Semaphore}
use Rattle.ec_semaphore.specs.Balances.{is_down}
use Rattle.ec_semaphore.specs.Both.{both_rule}

-- 1 if entry i completes a P
abbrev pub down_at : Semaphore → List Entry → ℕ → ℕ
down_at s h i = option_map_or (λ (x : Entry). if is_down s x (past_at i h) then 1 else 0) (slice_get h i) 0

-- the calls of its critical section that a worker has completed at moment k
abbrev pub calls_at : Semaphore → (ℕ → Bool) → List Entry → ℕ → ℕ → List CompletedCall
calls_at c lines h k w = block (both_rule c lines) w (past_at k h)

-- a worker draws a ticket
abbrev pub ticket_entry : ℕ → ℕ → ℕ → Entry
ticket_entry w q n = record { worker = w; act = Ticket q; reply = Number n }

-- entries k and l draw the two tickets of a pair: their worker has the ticket of the common semaphore and its turn when it
-- makes entry k, and makes no entry between the two
pub record DrawsPair (c : Semaphore) (lines : ℕ → Bool) (h : List Entry) (p : Pair) (k l : ℕ) : Type 0 where
  pub order : k < l
  pub entered : length (calls_at c lines h k p.worker) ≡ 2
  pub first : slice_get h k ≡ Some (ticket_entry p.worker p.first p.first_ticket)
  pub second : slice_get h l ≡ Some (ticket_entry p.worker p.second p.second_ticket)
  pub none_between : (j : ℕ) (x : Entry) → k < j → j < l → slice_get h j ≡ Some x → x.worker ≢ p.worker

-- the pairs are those that a history draws, in the order of the entries that draw their first tickets
pub record ArePairs (c : Semaphore) (lines : ℕ → Bool) (h : List Entry) (ps : List Pair) : Type 0 where
  pub first_at : ℕ → ℕ
  pub second_at : ℕ → ℕ
  pub each : (i : ℕ) (p : Pair) → slice_get ps i ≡ Some p → DrawsPair c lines h p (first_at i) (second_at i)
  pub in_order : (i j : ℕ) → i < j → j < length ps → first_at i < first_at j
  pub all : (p : Pair) (k l : ℕ) → DrawsPair c lines h p k l → (i : ℕ) × (slice_get ps i ≡ Some p) × (first_at i ≡ k)
