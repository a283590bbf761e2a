use Rattle.calls_kernel.proofs.Spread.{linearizable_are_records}
use Rattle.calls_kernel.proofs.laws.linearizable_histories_are_records.Goals as goal

pub returns : goal.returns
returns c = linearizable_are_records
