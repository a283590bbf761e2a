use Rattle.ec_database.proofs.Trying.{snapshot_is, snapshot_ends}
use Rattle.ec_database.proofs.snapshot.Snapshot.new.Goals as goal

pub returns-clause-whole : goal.returns-clause-whole
returns-clause-whole c calls = snapshot_is c.args.shape c.args.tries c.new.result.items calls c.new.ensures

pub returns-clause-ends : goal.returns-clause-ends
returns-clause-ends c calls = snapshot_ends c.args.shape c.args.tries c.new.result.items calls c.new.ensures
