use Rattle.ec_database.proofs.Once.{put_once}
use Rattle.ec_database.proofs.laws.versions_are_put_once.Goals as goal

pub returns : goal.returns
returns c = put_once
