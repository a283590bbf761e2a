-- The status of `upgrade` and what it wrote, for an input whose bytes are known.
use Rattle.std.specs.Prelude.{◌≡◌, ◌⊎◌, ℕ, List, ◌++◌, length, Option, codes}
use Rattle.std.specs.Io.KnownBytes.{Appends, Keeps}
use Rattle.ec_text.specs.Puts.{AppendsPrefix}
use Rattle.ec_core.specs.declared.act.Entry.{Entry}
use Rattle.ec_heading.specs.declared.version.Version.{Version}
use Rattle.ec_heading.specs.declared.version.Version.TheVariants.{Two}
use Rattle.ec_heading.specs.HeadingModel.{HeadingModel}
use Rattle.ec_heading.specs.HeaderTree.{HeaderTree, IsHeaderTree, heading_of_tree}
use Rattle.ec_heading.specs.Spelling.{trace_header, trace_text}
use Rattle.ec_heading.specs.Upgrade.{upgraded_outline}
use Rattle.ec_trace.specs.TraceModel.{TraceModel, upgrade_trace}
use Rattle.ec_trace.specs.Outcome.{HasNoFault}
use Rattle.ec_trace.specs.declared.fault.TraceFault.{TraceFault}
use Rattle.ec_trace.specs.declared.read.TheConstants.{TRACE_MAX}
use Rattle.evc_engine.specs.declared.audit_result.AuditResult.{AuditResult}
use Rattle.evc_engine.specs.declared.status.Status.{Status}
use Rattle.evc_engine.specs.declared.status.Status.TheVariants.{Done, Refused, InputOutput, Memory}
use Rattle.evc_engine.specs.AuditTexts.{audit_text}
use Rattle.evc_engine.specs.Audits.{AreAudited, IsNotFollowed, not_followed_note}
use Rattle.evc_engine.specs.Texts.{check_text}
use Rattle.evc_engine.specs.Checks.{Outputs, Notes, KeepsNotes, ReadsAs, RefusedFor, text_for}
use Rattle.evc_engine.specs.Notes.{fault_note}

-- THE WRITING

-- how the writing of a trace in version 2 ended, for each syntax tree of its header
abbrev pub Rewrites : TraceModel → Status → Outputs → Outputs → Type 0
Rewrites t Done old new = ((o : HeaderTree) → IsHeaderTree o → heading_of_tree o ≡ t.heading → Appends old.out new.out (trace_text (upgraded_outline o) t.entries)) × KeepsNotes old new
Rewrites t InputOutput old new =
    ((o : HeaderTree) → IsHeaderTree o → heading_of_tree o ≡ t.heading → AppendsPrefix old.out new.out (trace_text (upgraded_outline o) t.entries)) × Notes old new (codes "write fault\n")
Rewrites t status old new = ⊥

-- THE END OF THE COMMAND

-- the bytes are a trace, and the text is the trace with the same declarations and history in
-- version 2: it is read as these, and has the same bytes after its first line, so it is as long,
-- and is the same if the bytes have version 2; and `check` writes the same for both
pub record IsUpgraded (bytes text : List ℕ) (t : TraceModel) : Type 0 where
  pub from : ReadsAs bytes t
  pub to : ReadsAs text (upgrade_trace t)
  pub behind : List ℕ
  pub was : bytes ≡ trace_header t.heading.version ++ behind
  pub is_now : text ≡ trace_header Two ++ behind
  pub as_long : length text ≡ length bytes
  pub as_it_was : t.heading.version ≡ Two → text ≡ bytes
  pub checked_alike : text_for (upgrade_trace t) ≡ text_for t

-- how `upgrade` ended, for an input that had these bytes and has those left: the bytes are a trace
-- and it was written in version 2; or they are no trace, and nothing was written but the note on
-- the first fault; or a failed read is reported, and what the reader had returned until then has no
-- fault; or a failed write is reported, or that memory ran out
abbrev pub Upgrades : List ℕ → Option (List ℕ) → Status → Outputs → Outputs → Type 0
Upgrades bytes left Done old new = (t : TraceModel) × (text : List ℕ) × IsUpgraded bytes text t × Appends old.out new.out text × KeepsNotes old new
Upgrades bytes left Refused old new = (fault : TraceFault) × RefusedFor bytes fault × Keeps old.out new.out × Notes old new (fault_note fault)
Upgrades bytes left InputOutput old new =
    ((t : TraceModel) × (text : List ℕ) × IsUpgraded bytes text t × AppendsPrefix old.out new.out text × Notes old new (codes "write fault\n"))
    ⊎ (HasNoFault TRACE_MAX bytes left × Keeps old.out new.out × Notes old new (codes "read fault\n"))
Upgrades bytes left Memory old new = Keeps old.out new.out × Notes old new (codes "no memory\n")
Upgrades bytes left status old new = ⊥

-- THEOREMS

-- what `check` and `audit` write does not depend on the version: the text of a history, what the
-- audits find in it, the text of that, and the first group whose rules are broken, with its note
pub record HasNoVersion (h : HeadingModel) (v : Version) (entries : List Entry) : Type 0 where
  pub checked : check_text (record h { version = v }) entries ≡ check_text h entries
  pub found : (found : List AuditResult) → AreAudited h entries found → AreAudited (record h { version = v }) entries found
  pub returned : (found : List AuditResult) → audit_text (record h { version = v }) found ≡ audit_text h found
  pub broken : (i w k : ℕ) → IsNotFollowed h entries i w k → IsNotFollowed (record h { version = v }) entries i w k
  pub noted : (i w k : ℕ) → not_followed_note (record h { version = v }) i w k ≡ not_followed_note h i w k

abbrev pub TextsHaveNoVersion : Type 0
TextsHaveNoVersion = (h : HeadingModel) (v : Version) (entries : List Entry)
    → HasNoVersion h v entries
