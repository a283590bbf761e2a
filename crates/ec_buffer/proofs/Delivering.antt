-- The state of the audit of a buffer, entry by entry.
use Rattle.std.proofs.Common.{◌≡◌, ℕ, Bool, false, List, [], ◌∷◌, ap, ◌∙◌, replicate}
use Rattle.ec_core.specs.declared.act.Entry.{Entry}
use Rattle.ec_core.specs.Scanning.{IsTrackerModel}
use Rattle.ec_buffer.specs.declared.delivery.Delivery.{Delivery}
use Rattle.ec_buffer.specs.Auditing.{DeliveryAuditModel, RepresentsDeliveries}
use Rattle.ec_buffer.specs.Collecting.{put_place, get_place, writers_after, list_after, writers_of, collected}
use Rattle.ec_buffer.specs.Follows.{buffer_rules}
use Rattle.ec_buffer.specs.Keeping.{list_progress}
use Rattle.ec_buffer.specs.Shapes.{Buffer}

-- before the first entry
pub delivering_first : (a : DeliveryAuditModel) → a.writers ≡ replicate 256 0 → a.list ≡ [] → IsTrackerModel (buffer_rules a.setup a.shape) list_progress a.tracked [] → RepresentsDeliveries a []
unfolding writers_of collected
delivering_first a writers list tracked = record { tracked = tracked; writers = writers; list = λ ok. list }

-- the last writer of each cell, after one more entry
pub writers_next : (b : Buffer) (x : Entry) (past : List Entry) (old new : List ℕ) → old ≡ writers_of b past → new ≡ writers_after (put_place b x.act) x.worker old → new ≡ writers_of b (x ∷ past)
unfolding writers_of
writers_next b x past old new was is = is ∙ ap (writers_after (put_place b x.act) x.worker) was

-- the deliveries after one more entry, if no allocation failed
pub list_next : (b : Buffer) (x : Entry) (past : List Entry) (writers : List ℕ) (old new : List Delivery) (lacked out_of_memory : Bool)
    → writers ≡ writers_of b past → (lacked ≡ false → old ≡ collected b past)
    → (out_of_memory ≡ false → lacked ≡ false) → (out_of_memory ≡ false → new ≡ list_after (get_place b x.act) x writers old)
    → out_of_memory ≡ false → new ≡ collected b (x ∷ past)
unfolding collected
list_next b x past writers old new lacked out_of_memory by was before added ok =
    added ok ∙ ap (λ (ws : List ℕ). list_after (get_place b x.act) x ws old) by ∙ ap (list_after (get_place b x.act) x (writers_of b past)) (was (before ok))
