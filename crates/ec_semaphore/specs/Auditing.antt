-- The state of the audits of a semaphore and of its critical sections in a pass over a run.
use Rattle.std.specs.Prelude.{◌≡◌, ℕ, Bool, true, false, List, ◌∷◌}
use Rattle.ec_count.specs.Tables.{Tables, IsDeclared}
use Rattle.ec_core.specs.declared.act.Entry.{Entry}
use Rattle.ec_core.specs.Acceptance.{IsAccepted}
use Rattle.ec_core.specs.Calls.{under_way, is_intermediate}
use Rattle.ec_core.specs.Following.{Follow, opening_act}
use Rattle.ec_core.specs.Scanning.{TrackerModel, IsTrackerModel}
use Rattle.ec_semaphore.specs.declared.pair.Pair.{Pair}
use Rattle.ec_semaphore.specs.declared.pairing.LatestTicket.{LatestTicket}
use Rattle.ec_semaphore.specs.Shapes.{Semaphore}
use Rattle.ec_semaphore.specs.Uses.{is_on, use_rules}
use Rattle.ec_semaphore.specs.Keeping.{list_progress_of_use, list_progress_of_both}
use Rattle.ec_semaphore.specs.Both.{is_semaphore_sequencer, both_rules}
use Rattle.ec_semaphore.specs.Completing.{AreLatestTickets}
use Rattle.ec_semaphore.specs.Pairs.{pairs_in}
use Rattle.ec_semaphore.specs.Balances.{downs, ups}

-- the semaphore, the progress of its workers, and how many P and V are completed
pub record BalanceAuditModel : Type 0 where
  pub shape : Semaphore
  pub tracked : TrackerModel
  pub downs : ℕ
  pub ups : ℕ

-- it is the state after this history so far
pub record RepresentsBalance (a : BalanceAuditModel) (past : List Entry) : Type 0 where
  pub tracked : IsTrackerModel (use_rules a.shape) list_progress_of_use a.tracked past
  pub downs : a.downs ≡ downs a.shape past
  pub ups : a.ups ≡ ups a.shape past

-- of the same semaphore, after this history so far
abbrev pub BalancesOn : BalanceAuditModel → BalanceAuditModel → List Entry → Type 0
BalancesOn start now past = (now.shape ≡ start.shape) × RepresentsBalance now past

-- the common semaphore and those that a critical section may draw from, the progress of the
-- workers, the latest ticket of each, the pairs, and whether there was no memory for one
pub record PairAuditModel : Type 0 where
  pub common : Semaphore
  pub shapes : List Semaphore
  pub tracked : TrackerModel
  pub latest : List LatestTicket
  pub pairs : List Pair
  pub out_of_memory : Bool

-- the latest tickets and the pairs are those of this history so far
pub record ArePaired (c : Semaphore) (lines : ℕ → Bool) (latest : List LatestTicket) (list : List Pair) (past : List Entry) : Type 0 where
  pub drawn : AreLatestTickets c lines latest past
  pub pairs : list ≡ pairs_in c lines past

-- it is the state after this history so far; the tickets and the pairs are, if the history is
-- accepted and follows
pub record RepresentsPairs (a : PairAuditModel) (past : List Entry) : Type 0 where
  pub tracked : IsTrackerModel (both_rules a.common (is_semaphore_sequencer a.common a.shapes)) list_progress_of_both a.tracked past
  pub paired : a.out_of_memory ≡ false → (t : Tables) → IsDeclared t → IsAccepted t past → Follow (both_rules a.common (is_semaphore_sequencer a.common a.shapes)) past
      → ArePaired a.common (is_semaphore_sequencer a.common a.shapes) a.latest a.pairs past

-- of the same semaphores, after this history so far
abbrev pub PairsOn : PairAuditModel → PairAuditModel → List Entry → Type 0
PairsOn start now past = (now.common ≡ start.common) × (now.shapes ≡ start.shapes) × RepresentsPairs now past

-- the state of the audit after a history so far is also that after one more entry whose call is not
-- on the semaphore
abbrev pub OthersMayBeLeftOut : Type 0
OthersMayBeLeftOut = (a : BalanceAuditModel) (x : Entry) (past : List Entry) → is_on a.shape (opening_act x.act (under_way x.worker past)) ≡ false
    → RepresentsBalance a past → RepresentsBalance a (x ∷ past)

-- and that after a go that ends no call
abbrev pub GoesMayBeLeftOut : Type 0
GoesMayBeLeftOut = (a : BalanceAuditModel) (x : Entry) (past : List Entry) → is_intermediate x ≡ true → RepresentsBalance a past → RepresentsBalance a (x ∷ past)

-- the same of the audit of critical sections and a go that ends no call; it needs every other
-- entry, since within a critical section a worker makes no other call
abbrev pub GoesMayBeLeftOutOfPairs : Type 0
GoesMayBeLeftOutOfPairs = (a : PairAuditModel) (x : Entry) (past : List Entry) → is_intermediate x ≡ true → RepresentsPairs a past → RepresentsPairs a (x ∷ past)
