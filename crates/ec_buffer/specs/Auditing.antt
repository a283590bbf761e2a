-- The state of the audit of a buffer in a pass over a run.
use Rattle.std.specs.Prelude.{◌≡◌, ℕ, Bool, true, false, List, ◌∷◌}
use Rattle.ec_count.specs.Tables.{Tables}
use Rattle.ec_core.specs.declared.act.Entry.{Entry}
use Rattle.ec_core.specs.Calls.{under_way, is_intermediate}
use Rattle.ec_core.specs.Following.{opening_act}
use Rattle.ec_core.specs.Scanning.{TrackerModel, IsTrackerModel}
use Rattle.ec_buffer.specs.declared.delivery.Delivery.{Delivery}
use Rattle.ec_buffer.specs.Collecting.{writers_of, collected}
use Rattle.ec_buffer.specs.Follows.{is_on, buffer_rules}
use Rattle.ec_buffer.specs.Keeping.{list_progress}
use Rattle.ec_buffer.specs.Shapes.{Buffer}

-- the buffer, the progress of its workers, the last writer of each cell, and the deliveries, or
-- that there was no memory for one
pub record DeliveryAuditModel : Type 0 where
  pub shape : Buffer
  pub setup : Tables
  pub tracked : TrackerModel
  pub writers : List ℕ
  pub list : List Delivery
  pub out_of_memory : Bool

-- it is the state after this history so far
pub record RepresentsDeliveries (a : DeliveryAuditModel) (past : List Entry) : Type 0 where
  pub tracked : IsTrackerModel (buffer_rules a.setup a.shape) list_progress a.tracked past
  pub writers : a.writers ≡ writers_of a.shape past
  pub list : a.out_of_memory ≡ false → a.list ≡ collected a.shape past

-- of the same buffer, after this history so far
abbrev pub DeliversOn : DeliveryAuditModel → DeliveryAuditModel → List Entry → Type 0
DeliversOn start now past = (now.shape ≡ start.shape) × (now.setup ≡ start.setup) × RepresentsDeliveries now past

-- the state of the audit after a history so far is also that after one more entry whose call is not
-- on the buffer
abbrev pub OthersMayBeLeftOut : Type 0
OthersMayBeLeftOut = (a : DeliveryAuditModel) (x : Entry) (past : List Entry) → is_on a.shape (opening_act x.act (under_way x.worker past)) ≡ false
    → RepresentsDeliveries a past → RepresentsDeliveries a (x ∷ past)

-- and that after a go that ends no call
abbrev pub GoesMayBeLeftOut : Type 0
GoesMayBeLeftOut = (a : DeliveryAuditModel) (x : Entry) (past : List Entry) → is_intermediate x ≡ true → RepresentsDeliveries a past → RepresentsDeliveries a (x ∷ past)
