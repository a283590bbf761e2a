use Rattle.calls_schedule.proofs.Ranks.{no_ranks}
use Rattle.calls_schedule.proofs.laws.bounds_leave_no_ranks.Goals as goal

pub returns : goal.returns
returns c = no_ranks
