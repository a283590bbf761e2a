use Rattle.std.proofs.Common.{ap}
use Rattle.ec_database.specs.Tries.{TryTable}
use Rattle.ec_database.proofs.Versioning.{versioning_first}
use Rattle.ec_database.proofs.audit.VersionAudit.new.Goals as goal

pub returns-clause-first : goal.returns-clause-first
returns-clause-first c = versioning_first _ c.new.ensures (ap (λ (t : TryTable). t.list) c.new-2.ensures) c.new-tracker.ensures
