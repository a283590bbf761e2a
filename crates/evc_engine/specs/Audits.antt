-- The status of `audit` and what it wrote, for an input whose bytes are known.
use Rattle.std.specs.Prelude.{◌≡◌, ◌⊎◌, ⊤, Option, ℕ, ◌<◌, List, length, reverse, Some, slice_get, codes}
use Rattle.std.specs.Io.KnownBytes.{Appends, Keeps}
use Rattle.ec_core.specs.declared.act.Entry.{Entry}
use Rattle.ec_core.specs.Following.{BreaksAt}
use Rattle.ec_buffer.specs.Items.{AreDeliveries}
use Rattle.ec_database.specs.Tries.{ListsTries, AreUndisturbed}
use Rattle.ec_semaphore.specs.Balances.{balance_parts}
use Rattle.ec_semaphore.specs.Pairs.{pairs_of}
use Rattle.ec_text.specs.Puts.{AppendsPrefix}
use Rattle.ec_heading.specs.HeadingModel.{HeadingModel}
use Rattle.ec_trace.specs.Outcome.{HasNoFault}
use Rattle.ec_trace.specs.TraceModel.{TraceModel}
use Rattle.ec_trace.specs.declared.fault.TraceFault.{TraceFault}
use Rattle.ec_heading.specs.Rules.{semaphores_of, group_rules, FollowsGroup}
use Rattle.ec_heading.specs.declared.group.Group.{Group}
use Rattle.ec_heading.specs.declared.group.Group.TheVariants as groups
use Rattle.ec_trace.specs.declared.read.TheConstants.{TRACE_MAX}
use Rattle.evc_engine.specs.declared.audit_result.AuditResult.{AuditResult}
use Rattle.evc_engine.specs.declared.audit_result.AuditResult.TheVariants as audits
use Rattle.ec_core.specs.declared.audit.AuditFault.{AuditFault}
use Rattle.ec_core.specs.declared.audit.AuditFault.TheVariants.{NotFollowed}
use Rattle.ec_core.specs.declared.audit.AuditFault.TheVariants as faults
use Rattle.evc_engine.specs.declared.status.Status.{Status}
use Rattle.evc_engine.specs.declared.status.Status.TheVariants.{Done, Refused, InputOutput, Memory}
use Rattle.evc_engine.specs.AuditTexts.{balance_of, audit_text, group_word, worker_word}
use Rattle.evc_engine.specs.Checks.{Outputs, Notes, KeepsNotes, ReadsAs, RefusedFor}
use Rattle.evc_engine.specs.Notes.{fault_note, break_note}

-- FOLLOWING

-- the group with number i is the first whose rules are broken: entry k, of worker w, is the first
-- that breaks them
pub record IsNotFollowed (h : HeadingModel) (entries : List Entry) (i w k : ℕ) : Type 0 where
  pub group : Group
  pub is : slice_get h.groups i ≡ Some group
  pub before : (j : ℕ) (g : Group) → j < i → slice_get h.groups j ≡ Some g → FollowsGroup h.setup h.groups (reverse entries) g
  pub breaks : BreaksAt (group_rules h.setup h.groups group) entries w k

-- WHAT AN AUDIT FINDS

-- what the audit of a group found is what the history says
abbrev pub IsFound : HeadingModel → List Entry → Group → AuditResult → Type 0
IsFound h entries (groups.Buffer b) (audits.Deliveries list) = AreDeliveries h.setup b entries list.items
IsFound h entries (groups.Database d) (audits.Versions tries) = ListsTries h.setup d entries tries.list × AreUndisturbed h.setup d entries tries.list
IsFound h entries (groups.Semaphore s) (audits.Balances balance now) = (balance ≡ balance_parts s (reverse entries)) × (now ≡ balance_of balance)
IsFound h entries (groups.Both c) (audits.Pairs balance now list) =
    (balance ≡ balance_parts c (reverse entries)) × (now ≡ balance_of balance) × (list.items ≡ pairs_of c (semaphores_of h.groups) entries)
IsFound h entries g a = ⊥

-- the workers follow the rules of a group, and this is what its audit found
abbrev pub IsAudited : HeadingModel → List Entry → Group → AuditResult → Type 0
IsAudited h entries g a = FollowsGroup h.setup h.groups (reverse entries) g × IsFound h entries g a

-- the workers follow the rules of each group, and this is what the audits found, in order
pub record AreAudited (h : HeadingModel) (entries : List Entry) (found : List AuditResult) : Type 0 where
  pub all : length found ≡ length h.groups
  pub each : (i : ℕ) (g : Group) (a : AuditResult) → slice_get h.groups i ≡ Some g → slice_get found i ≡ Some a → IsAudited h entries g a

-- why there is no text: the fault of a group's audit, which is that its rules are the first that
-- are broken, or that memory ran out
abbrev pub IsStop : HeadingModel → List Entry → ℕ → AuditFault → Type 0
IsStop h entries i (NotFollowed w k) = IsNotFollowed h entries i w k
IsStop h entries i faults.Memory = ⊤

-- THE END OF THE COMMAND

-- the note on a group whose rules are broken, by its number
abbrev pub not_followed_note : HeadingModel → ℕ → ℕ → ℕ → List ℕ
not_followed_note h i w k = break_note (group_word h.names i) (worker_word h.words w) k

-- the status of the command then, and its note
abbrev pub stop_status : AuditFault → Status
stop_status (NotFollowed w k) = Refused
stop_status faults.Memory = Memory

abbrev pub stop_note : HeadingModel → ℕ → AuditFault → List ℕ
stop_note h i (NotFollowed w k) = not_followed_note h i w k
stop_note h i faults.Memory = codes "no memory\n"

-- how the writing of the text ended, for what the audits found
abbrev pub AuditWrites : HeadingModel → List AuditResult → Status → Outputs → Outputs → Type 0
AuditWrites h found Done old new = Appends old.out new.out (audit_text h found) × KeepsNotes old new
AuditWrites h found InputOutput old new = AppendsPrefix old.out new.out (audit_text h found) × Notes old new (codes "write fault\n")
AuditWrites h found status old new = ⊥

-- the workers of a trace follow the rules of its groups, what the audits found was written, and the
-- writing ended with this status
pub record Reports (t : TraceModel) (status : Status) (old new : Outputs) : Type 0 where
  pub found : List AuditResult
  pub audited : AreAudited t.heading t.entries found
  pub writes : AuditWrites t.heading found status old new

-- the rules of some group of a trace are broken, nothing was written, and the note on the first
-- such group was put
pub record NamesFirstBreak (t : TraceModel) (old new : Outputs) : Type 0 where
  pub group : ℕ
  pub worker : ℕ
  pub entry : ℕ
  pub breaks : IsNotFollowed t.heading t.entries group worker entry
  pub out : Keeps old.out new.out
  pub note : Notes old new (not_followed_note t.heading group worker entry)

-- how `audit` ended: the bytes are a trace whose workers follow the rules of each group, and what
-- the audits found was written; or they are a trace with a group whose rules are broken, or no
-- trace, and nothing was written but the note on the first such group or the first fault; or a
-- failed read is reported, and what the reader had returned until then has no fault; or a failed
-- write is reported, or that memory ran out
abbrev pub Audits : List ℕ → Option (List ℕ) → Status → Outputs → Outputs → Type 0
Audits bytes left Done old new = (t : TraceModel) × ReadsAs bytes t × Reports t Done old new
Audits bytes left Refused old new =
    ((t : TraceModel) × ReadsAs bytes t × NamesFirstBreak t old new)
    ⊎ ((fault : TraceFault) × RefusedFor bytes fault × Keeps old.out new.out × Notes old new (fault_note fault))
Audits bytes left InputOutput old new =
    ((t : TraceModel) × ReadsAs bytes t × Reports t InputOutput old new)
    ⊎ (HasNoFault TRACE_MAX bytes left × Keeps old.out new.out × Notes old new (codes "read fault\n"))
Audits bytes left Memory old new = Keeps old.out new.out × Notes old new (codes "no memory\n")
Audits bytes left status old new = ⊥
