-- The state of the audit of a database, entry by entry.
use Rattle.std.proofs.Common.{◌≡◌, ℕ, ◌<◌, [], sym, ◌∙◌}
use Rattle.ec_core.specs.Scanning.{IsTrackerModel}
use Rattle.ec_database.specs.Auditing.{HasRow, VersionAuditModel, RepresentsVersions}
use Rattle.ec_database.specs.Following.{writes, database_rules}
use Rattle.ec_database.specs.SnapshotPhases.{list_progress}
use Rattle.ec_database.proofs.Getting.{held_first}
use Rattle.ec_database.proofs.Listing.{first_tries}

-- before the first entry
pub versioning_first : (a : VersionAuditModel) → ((w : ℕ) → w < 16 → HasRow a.rows w []) → a.list ≡ [] → IsTrackerModel (database_rules a.setup a.shape) list_progress a.tracked [] → RepresentsVersions a []
versioning_first a rows list tracked = record {
  tracked = tracked;
  held = λ ok. held_first a.shape (writes a.setup a.shape) a.rows rows;
  list = λ ok. list ∙ sym (first_tries a.shape (writes a.setup a.shape));
}
