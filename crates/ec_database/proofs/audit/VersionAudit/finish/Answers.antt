use Rattle.std.proofs.Common.{List, reverse, refl, sym, subst}
use Rattle.std.proofs.lemmas.Result.{err_from_is_err_and}
use Rattle.ec_core.specs.declared.act.Entry.{Entry}
use Rattle.ec_core.specs.Ending.{EndsAt}
use Rattle.ec_core.specs.Audits.{IsAuditFault}
use Rattle.ec_core.proofs.shared.Endings.{break_told}
use Rattle.ec_database.specs.Following.{database_rules, FollowsDatabase}
use Rattle.ec_database.specs.SnapshotPhases.{list_progress}
use Rattle.ec_database.specs.Tries.{AcceptedTry, ListsTries, AreUndisturbed}
use Rattle.ec_database.specs.Auditing.{VersionAuditModel, RepresentsVersions}
use Rattle.ec_database.proofs.Listing.{listed, all_undisturbed}
use Rattle.ec_database.proofs.audit.VersionAudit.finish.Goals as goal
use Rattle.ec_database.proofs.audit.VersionAudit.finish.Goals.{In_ok-finding}

pub returns-in_err-finding-clause-err : goal.returns-in_err-finding-clause-err
returns-in_err-finding-clause-err c h ended =
    let rules = database_rules c.self.inside.lists.setup.now c.self.inside.lists.shape.now in
    let E : VersionAuditModel → Type 0 = λ z. EndsAt z.setup (RepresentsVersions z) h in
    let inside = subst E (sym c.self.view_is) ended in
    let fault = c.in_err-finding.field-0.0 in
    let Q : VersionAuditModel → Type 0 = λ z. IsAuditFault (database_rules z.setup z.shape) h fault in
    let told = err_from_is_err_and c.from_residual.result c.from_residual.ensures.1 in
    rw (told.1, told.2) (subst Q c.self.view_is (break_told rules h fault (c.in_err-finding.ensures rules list_progress h inside.represents.tracked).1))

followed : (c : In_ok-finding) (h : List Entry) → EndsAt c.args.self.setup (RepresentsVersions c.args.self) h
    → FollowsDatabase c.args.self.setup c.args.self.shape (reverse h)
followed c h ended =
    let rules = database_rules c.self.inside.lists.setup.now c.self.inside.lists.shape.now in
    let E : VersionAuditModel → Type 0 = λ z. EndsAt z.setup (RepresentsVersions z) h in
    let inside = subst E (sym c.self.view_is) ended in
    let Q : VersionAuditModel → Type 0 = λ z. FollowsDatabase z.setup z.shape (reverse h) in
    subst Q c.self.view_is ((c.in_ok-finding.ensures rules list_progress h inside.represents.tracked).0.0 refl)

pub returns-then-self-clause-err : goal.returns-then-self-clause-err
returns-then-self-clause-err c = followed (goal.at.returns-then-self-clause-err c).In_ok-finding

pub returns-clause-followed : goal.returns-clause-followed
returns-clause-followed c = followed (goal.at.returns-clause-followed c).In_ok-finding

pub returns-clause-tries : goal.returns-clause-tries
returns-clause-tries c h ended =
    let t = c.self.inside.lists.setup.now in
    let d = c.self.inside.lists.shape.now in
    let E : VersionAuditModel → Type 0 = λ z. EndsAt z.setup (RepresentsVersions z) h in
    let inside = subst E (sym c.self.view_is) ended in
    let Q : VersionAuditModel → Type 0 =
    λ z. ListsTries z.setup z.shape h c.self.inside.tries.list in
    subst Q c.self.view_is (subst (λ (l : List AcceptedTry). ListsTries t d h l) (sym (inside.represents.list c.if-self.false)) (listed t d h))

pub returns-clause-undisturbed : goal.returns-clause-undisturbed
returns-clause-undisturbed c h ended =
    let t = c.self.inside.lists.setup.now in
    let d = c.self.inside.lists.shape.now in
    let E : VersionAuditModel → Type 0 = λ z. EndsAt z.setup (RepresentsVersions z) h in
    let inside = subst E (sym c.self.view_is) ended in
    let found =
    c.in_ok-finding.ensures (database_rules t d) list_progress h inside.represents.tracked in
    let tries = subst (λ (l : List AcceptedTry). ListsTries t d h l) (sym (inside.represents.list c.if-self.false)) (listed t d h) in
    let R : VersionAuditModel → Type 0 =
    λ z. AreUndisturbed z.setup z.shape h c.self.inside.tries.list in
    subst R c.self.view_is (all_undisturbed t d h _ (record { declared = inside.declared; shape = c.invariant.ensures; accepted = inside.accepted; followed = found.0.0 refl }) tries)
