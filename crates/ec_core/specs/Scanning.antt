-- The state of a pass over the entries of a run for one group.
use Rattle.std.specs.Prelude.{◌≡◌, ◌↔◌, ℕ, ◌<◌, List, Option, Some, None, Result, IsOk, IfErr, slice_get, reverse}
use Rattle.ec_core.specs.declared.act.Entry.{Entry}
use Rattle.ec_core.specs.declared.protocol.ListProgress.{ListProgress}
use Rattle.ec_core.specs.declared.audit.AuditFault.{AuditFault}
use Rattle.ec_core.specs.Audits.{IsFirstBreak}
use Rattle.ec_core.specs.Following.{CompletedCall, Rule, block, Follow}

-- the progress of each worker in its list after past
abbrev pub AreListProgress : (ℕ → Rule) → (List CompletedCall → ListProgress) → List ListProgress
    → List Entry → Type 0
AreListProgress rules keeps kept past = (w : ℕ) → w < 16 → slice_get kept w ≡ Some (keeps (block (rules w) w past))

-- what was found of past: it conforms, or this is the first violation
abbrev pub IsFinding : (ℕ → Rule) → Option AuditFault → List Entry → Type 0
IsFinding rules None past = Follow rules past
IsFinding rules (Some fault) past = IsFirstBreak rules (reverse past) fault

-- the state of the pass: the progress of each worker in its list, and what was found
pub record TrackerModel : Type 0 where
  pub kept : List ListProgress
  pub fault : Option AuditFault

-- it is the state after past
pub record IsTrackerModel (rules : ℕ → Rule) (keeps : List CompletedCall → ListProgress) (tracked : TrackerModel) (past : List Entry) : Type 0 where
  pub lists : AreListProgress rules keeps tracked.kept past
  pub finding : IsFinding rules tracked.fault past

-- what was found of a history, which is in order of time: it conforms, or this is the first
-- violation
abbrev pub Finds : (ℕ → Rule) → List Entry → Result (Unit {0}) AuditFault → Type 0
Finds rules h r = (IsOk r ↔ Follow rules (reverse h)) × IfErr r (IsFirstBreak rules h)
