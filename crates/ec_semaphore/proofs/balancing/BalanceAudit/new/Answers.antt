use Rattle.std.proofs.Common.{refl}
use Rattle.ec_semaphore.proofs.Counting.{counted_first}
use Rattle.ec_semaphore.proofs.balancing.BalanceAudit.new.Goals as goal

pub returns-clause-first : goal.returns-clause-first
returns-clause-first c =
    counted_first (record { shape = c.args.shape; tracked = c.new.result; downs = 0; ups = 0 }) refl refl c.new.ensures
