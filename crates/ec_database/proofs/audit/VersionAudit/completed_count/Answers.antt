use Rattle.std.proofs.Common.{ap, sym, subst, ◌∙◌, length}
use Rattle.ec_core.specs.declared.protocol.ListProgress.{ListProgress}
use Rattle.ec_core.specs.Following.{block}
use Rattle.ec_database.specs.Auditing.{VersionAuditModel, RepresentsVersions}
use Rattle.ec_database.specs.Following.{database_rules}
use Rattle.ec_database.proofs.audit.VersionAudit.completed_count.Goals as goal

pub returns : goal.returns
returns c = λ past is.
    (let inside =
    subst (λ (z : VersionAuditModel). RepresentsVersions z past) (sym c.self.view_is) is in
    ap (λ (k : ListProgress). k.at) (c.list_progress.ensures _ _ past inside.tracked)
    ∙ ap (λ (z : VersionAuditModel). length (block (database_rules z.setup z.shape c.args.worker) c.args.worker past)) c.self.view_is)
