use Rattle.std.proofs.Common.{ap, replicate}
use Rattle.ec_buffer.proofs.Delivering.{delivering_first}
use Rattle.ec_buffer.proofs.audit.DeliveryAudit.new.Goals as goal

pub returns-clause-first : goal.returns-clause-first
returns-clause-first c = delivering_first _ (ap (λ w. replicate 256 w) c.default.ensures) c.new.ensures.items c.new-tracker.ensures
