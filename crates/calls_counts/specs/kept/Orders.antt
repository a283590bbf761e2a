-- The order that the scan returns. Only the proofs and the private contracts use this.
use Rattle.std.specs.Prelude.{◌≡◌, ◌<◌, ◌≤◌, length, get_or, drop, ℕ, ◌+◌, ◌==◌, nat_le, List, []}
use Rattle.std.specs.Prelude.{◌∷◌, ◌++◌}
use Rattle.std.specs.List.{filter}
use Rattle.std.specs.Option.{option_to_list}
use Rattle.calls_core.specs.declared.history.Call.{Call}
use Rattle.calls_counts.specs.declared.state.Slot.{Slot}
use Rattle.calls_counts.specs.declared.state.PlacedRead.{PlacedRead}
use Rattle.calls_counts.specs.ScanStates.{placed_calls}

-- the reads of place k
abbrev pub reads_at : ℕ → List PlacedRead → List Call
reads_at k reads = placed_calls (filter (λ (p : PlacedRead). p.place == k) reads)

-- the reads of place k or later
abbrev pub reads_from : ℕ → List PlacedRead → List Call
reads_from k reads = placed_calls (filter (λ (p : PlacedRead). nat_le k p.place) reads)

-- the reads of place k, the advance of the first slot, the reads of place k + 1, the advance of the
-- next slot, and so on
abbrev pub order_from : ℕ → List Slot → List PlacedRead → List Call
order_from k [] reads = reads_at k reads
order_from k (s ∷ slots) reads = reads_at k reads ++ (option_to_list s.taken ++ order_from
    (k + 1) slots reads)

abbrev pub IsOrdering : List Slot → List PlacedRead → List Call → Type 0
IsOrdering slots reads cs = cs ≡ order_from 0 slots reads

-- j is the index of the first read of place k from index i on, or the number of reads if there is
-- none
pub record IsNextAt (reads : List PlacedRead) (k i j : ℕ) : Type 0 where
  pub low : i ≤ j
  pub within : j ≤ length reads
  pub here : (d : PlacedRead) → j < length reads → (get_or reads j d).place ≡ k
  pub rest : reads_at k (drop i reads) ≡ reads_at k (drop j reads)

-- the reads from index i on are linked: first has the first one of each place, next the one after
-- each
pub record AreLinked (reads : List PlacedRead) (i : ℕ) (first next : List ℕ) : Type 0 where
  pub long : length next ≡ length reads
  pub inside : i ≤ length reads
  pub firsts : (k : ℕ) → k < length first → IsNextAt reads k i (get_or first k 0)
  pub after : (m : ℕ) → i ≤ m → m < length reads → m < get_or next m 0
  pub nexts : (m : ℕ) (d : PlacedRead) → i ≤ m → m < length reads
      → (get_or reads m d).place < length first
      → IsNextAt reads (get_or reads m d).place (m + 1) (get_or next m 0)
  pub others : (m : ℕ) → m < i → get_or next m 0 ≡ length reads
