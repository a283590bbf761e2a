-- The audits of a trace's groups in one pass over its entries.
use Rattle.std.specs.Prelude.{◌≡◌, List, reverse}
use Rattle.ec_count.specs.Tables.{Tables, IsDeclared}
use Rattle.ec_core.specs.declared.act.Entry.{Entry}
use Rattle.ec_core.specs.Acceptance.{IsAccepted}
use Rattle.ec_buffer.specs.Auditing.{DeliversOn, RepresentsDeliveries}
use Rattle.ec_buffer.specs.Shapes.{Buffer}
use Rattle.ec_database.specs.Auditing.{VersionsOn, RepresentsVersions}
use Rattle.ec_database.specs.Shapes.{Database}
use Rattle.ec_semaphore.specs.Auditing.{BalancesOn, RepresentsBalance, PairsOn, RepresentsPairs}
use Rattle.ec_semaphore.specs.Shapes.{Semaphore}
use Rattle.ec_heading.specs.declared.group.Group.{Group}
use Rattle.ec_heading.specs.declared.group.Group.TheVariants as groups
use Rattle.ec_heading.specs.Groups.{FitsGroup}
use Rattle.ec_heading.specs.HeadingModel.{HeadingModel}
use Rattle.ec_heading.specs.Rules.{semaphores_of}
use Rattle.ec_walk.specs.kept.Each.{Each}
use Rattle.evc_engine.specs.declared.walked.Auditing.{Auditing}
use Rattle.evc_engine.specs.declared.walked.BothAudit.{BothAudit}
use Rattle.evc_engine.specs.declared.walked.Auditing.TheVariants as audits

-- the audit is that of the buffer, under these declarations, after the history so far
abbrev pub DeliversFor : Tables → Buffer → Auditing → List Entry → Type 0
DeliversFor t b (audits.Deliveries a) past = (a.shape ≡ b) × (a.setup ≡ t)
    × RepresentsDeliveries a past
DeliversFor t b a past = ⊥

-- the audit is that of the database
abbrev pub VersionsFor : Tables → Database → Auditing → List Entry → Type 0
VersionsFor t d (audits.Versions a) past = (a.shape ≡ d) × (a.setup ≡ t) × RepresentsVersions a past
VersionsFor t d a past = ⊥

-- the audit is that of the semaphore
abbrev pub CountsFor : Semaphore → Auditing → List Entry → Type 0
CountsFor s (audits.Balance a) past = (a.shape ≡ s) × RepresentsBalance a past
CountsFor s a past = ⊥

-- the audits are those of `both`, if these are all semaphores
abbrev pub PairsFor : Semaphore → List Semaphore → Auditing → List Entry → Type 0
PairsFor c all (audits.Both a) past =
    (a.balance.shape ≡ c) × RepresentsBalance a.balance past × (a.pairs.common ≡ c) × (a.pairs.shapes ≡ all) × RepresentsPairs a.pairs past × (a.common ≡ c)
PairsFor c all a past = ⊥

-- the audit is that of the group, under these declarations and with these semaphores, after the
-- history so far
abbrev pub AuditRepresents : Tables → List Semaphore → Group → Auditing → List Entry → Type 0
AuditRepresents t all (groups.Buffer b) a past = DeliversFor t b a past
AuditRepresents t all (groups.Database d) a past = VersionsFor t d a past
AuditRepresents t all (groups.Semaphore s) a past = CountsFor s a past
AuditRepresents t all (groups.Both c) a past = PairsFor c all a past

-- each group has its audit, in order
abbrev pub EachRepresents : Tables → List Semaphore → List Group → List Auditing → List Entry
    → Type 0
EachRepresents t all gs list past = Each (λ g a. AuditRepresents t all g a past) gs list

-- AT THE END

-- the audit is that of a group of a header, after an accepted history of these entries under it
pub record EndsFor (h : HeadingModel) (entries : List Entry) (g : Group) (a : Auditing) : Type 0 where
  pub declared : IsDeclared h.setup
  pub accepted : IsAccepted h.setup (reverse entries)
  pub fits : FitsGroup h.setup g
  pub represents : AuditRepresents h.setup (semaphores_of h.groups) g a (reverse entries)

-- the audits are those of all groups, in order
abbrev pub EachEndsFor : HeadingModel → List Entry → List Auditing → Type 0
EachEndsFor h entries list = Each (λ g a. EndsFor h entries g a) h.groups list

-- IN A PASS OVER THE ENTRIES

-- the group of an audit
abbrev pub group_of : Auditing → Group
group_of (audits.Deliveries a) = groups.Buffer a.shape
group_of (audits.Versions a) = groups.Database a.shape
group_of (audits.Balance a) = groups.Semaphore a.shape
group_of (audits.Both a) = groups.Both a.pairs.common

-- it is the audits of the same `both` after the history so far
abbrev pub BothOn : BothAudit → BothAudit → List Entry → Type 0
BothOn start now past = BalancesOn start.balance now.balance past × PairsOn start.pairs now.pairs past × (now.common ≡ now.balance.shape)

-- it is the audit of the same group after the history so far
abbrev pub AuditsOn : Auditing → Auditing → List Entry → Type 0
AuditsOn (audits.Deliveries start) (audits.Deliveries now) past = DeliversOn start now past
AuditsOn (audits.Versions start) (audits.Versions now) past = VersionsOn start now past
AuditsOn (audits.Balance start) (audits.Balance now) past = BalancesOn start now past
AuditsOn (audits.Both start) (audits.Both now) past = BothOn start now past
AuditsOn start now past = ⊥
