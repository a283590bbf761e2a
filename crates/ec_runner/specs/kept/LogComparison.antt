-- A run compared with the logs of its workers, entry by entry.
use Rattle.std.specs.Prelude.{◌≡◌, ◌≢◌, ℕ, ◌≤◌, List, length, take, Some, slice_get, slice_index}
use Rattle.ec_core.specs.declared.act.Entry.{Entry}
use Rattle.ec_machine.specs.Steps.{own}
use Rattle.ec_runner.specs.declared.summary.Summary.{Summary}

-- each log up to its cursor is the entries of its worker among these
pub record AreComparedSoFar (summaries : List Summary) (cursors : List ℕ) (done : List Entry) : Type 0 where
  pub room : length cursors ≡ 16
  pub walked : (w : ℕ) (summary : Summary) → slice_get summaries w ≡ Some summary → own w done ≡ take (slice_index cursors w) summary.log.items
  pub within : (w : ℕ) (summary : Summary) → slice_get summaries w ≡ Some summary → slice_index cursors w ≤ length summary.log.items

-- each log is the entries of its worker
abbrev pub AreLogsOf : List Summary → List Entry → Type 0
AreLogsOf summaries h = (w : ℕ) (summary : Summary) → slice_get summaries w ≡ Some summary
    → own w h ≡ summary.log.items

-- the cursor of w is not at the end of its log
pub record IsUnfinished (summaries : List Summary) (cursors : List ℕ) (w : ℕ) : Type 0 where
  pub summary : Summary
  pub at : slice_get summaries w ≡ Some summary
  pub not : slice_index cursors w ≢ length summary.log.items

-- the log of w is not its entries
pub record IsLogMismatch (summaries : List Summary) (h : List Entry) (w : ℕ) : Type 0 where
  pub summary : Summary
  pub at : slice_get summaries w ≡ Some summary
  pub not : own w h ≢ summary.log.items
