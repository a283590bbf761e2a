-- What the contract of `audit` means: one input has at most one text, and none if the rules of a
-- group are broken.
use Rattle.std.specs.Prelude.{◌≡◌, ℕ, List}
use Rattle.ec_trace.specs.TraceModel.{TraceModel}
use Rattle.evc_engine.specs.declared.audit_result.AuditResult.{AuditResult}
use Rattle.evc_engine.specs.AuditTexts.{audit_text}
use Rattle.evc_engine.specs.Audits.{AreAudited, IsNotFollowed}
use Rattle.evc_engine.specs.Checks.{ReadsAs}

-- the text is determined by the bytes that were read
abbrev pub AuditsHaveOneText : Type 0
AuditsHaveOneText = (bytes : List ℕ) (t u : TraceModel) (found other : List AuditResult) → ReadsAs bytes t → ReadsAs bytes u
    → AreAudited t.heading t.entries found → AreAudited u.heading u.entries other → audit_text t.heading found ≡ audit_text u.heading other

-- if the workers follow the rules of all groups, no group is the first whose rules they break
abbrev pub TextOrBreak : Type 0
TextOrBreak = (t : TraceModel) (found : List AuditResult) (i w k : ℕ) → AreAudited t.heading t.entries found → IsNotFollowed t.heading t.entries i w k → ⊥
