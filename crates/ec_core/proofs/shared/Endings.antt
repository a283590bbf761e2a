-- How an audit ends that found a violation.
use Rattle.std.proofs.Common.{ℕ, List}
use Rattle.ec_core.specs.declared.act.Entry.{Entry}
use Rattle.ec_core.specs.declared.audit.AuditFault.{AuditFault}
use Rattle.ec_core.specs.declared.audit.AuditFault.TheVariants.{NotFollowed, Memory}
use Rattle.ec_core.specs.Audits.{IsFirstBreak, IsAuditFault}
use Rattle.ec_core.specs.Following.{Rule}

-- the first violation is the fault that the audit returns
pub break_told : (rules : ℕ → Rule) (h : List Entry) (fault : AuditFault) → IsFirstBreak rules h fault → IsAuditFault rules h fault
break_told rules h (NotFollowed w k) b = b
break_told rules h Memory b = absurd b
