-- What the faults of an audit say.
use Rattle.std.specs.Prelude.{ℕ, List, reverse}
use Rattle.ec_core.specs.declared.act.Entry.{Entry}
use Rattle.ec_core.specs.declared.audit.AuditFault.{AuditFault}
use Rattle.ec_core.specs.declared.audit.AuditFault.TheVariants.{NotFollowed, Memory}
use Rattle.ec_core.specs.Following.{Rule, Follow, BreaksAt}

-- the fault is the first violation of the call lists
abbrev pub IsFirstBreak : (ℕ → Rule) → List Entry → AuditFault → Type 0
IsFirstBreak rules h (NotFollowed w k) = BreaksAt rules h w k
IsFirstBreak rules h Memory = ⊥

-- the fault is that of an audit: an allocation is reported as failed only if the history conforms
abbrev pub IsAuditFault : (ℕ → Rule) → List Entry → AuditFault → Type 0
IsAuditFault rules h (NotFollowed w k) = BreaksAt rules h w k
IsAuditFault rules h Memory = Follow rules (reverse h)
