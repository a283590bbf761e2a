use Rattle.std.proofs.Common.{reverse, sym, subst}
use Rattle.ec_database.specs.Following.{FollowsDatabase}
use Rattle.ec_database.specs.Tries.{ListsTries, AreUndisturbed}
use Rattle.evc_engine.specs.Audits.{IsAudited}
use Rattle.evc_engine.specs.kept.Walks.{EndsFor}
use Rattle.evc_engine.specs.declared.audit_result.AuditResult.TheVariants.{Versions}
use Rattle.evc_engine.proofs.Findings.{of_database}
use Rattle.evc_engine.proofs.walked.Auditing.finish.Goals as goal

pub returns-in_ok-finish-in-Versions : goal.returns-in_ok-finish-in-Versions
returns-in_ok-finish-in-Versions c = λ h entries g e.
    let v = c.in_ok-finish-in-Versions.ensures in
    let found = of_database h entries g c.in-Versions.audit
    (λ t d. FollowsDatabase t d (reverse entries) × (ListsTries t d entries c.in_ok-finish-in-Versions.field-0.list × AreUndisturbed t d entries c.in_ok-finish-in-Versions.field-0.list))
    (subst (EndsFor h entries g) c.in-Versions.is e) (λ ended. (v.followed entries ended, (v.tries entries ended, v.undisturbed entries ended))) in
    subst (λ x. IsAudited h entries x (Versions c.in_ok-finish-in-Versions.field-0)) (sym found.1) found.2
