use Rattle.std.proofs.Common.{◌≡◌, reverse, refl, ap, ◌∙◌, arith, subst, sym}
use Rattle.std.proofs.lemmas.Result.{err_from_is_err_and}
use Rattle.ec_core.specs.Audits.{IsFirstBreak}
use Rattle.ec_core.specs.Ending.{EndsAt}
use Rattle.ec_core.specs.Following.{Follow}
use Rattle.ec_semaphore.specs.Auditing.{BalanceAuditModel, RepresentsBalance}
use Rattle.ec_semaphore.specs.Keeping.{list_progress_of_use}
use Rattle.ec_semaphore.specs.Shapes.{Semaphore}
use Rattle.ec_semaphore.specs.Uses.{use_rules}
use Rattle.ec_semaphore.proofs.NeverNegative.{downs_few}
use Rattle.ec_semaphore.proofs.Moments.{never_negative}
use Rattle.ec_semaphore.proofs.shared.Smallness.{total_small}
use Rattle.ec_semaphore.proofs.balancing.BalanceAudit.finish.Goals as goal

pub returns-in_err-finding-clause-ok : goal.returns-in_err-finding-clause-ok
returns-in_err-finding-clause-ok c t h ended =
    let E : BalanceAuditModel → Type 0 = λ z. EndsAt t (RepresentsBalance z) h in
    let inside = subst E (sym c.self.view_is) ended in
    let Q : BalanceAuditModel → Type 0 = λ z. Follow (use_rules z.shape) (reverse h) → ⊥ in
    let broken : Follow (use_rules c.self.inside.shape) (reverse h) → ⊥ = λ f. cc ((c.in_err-finding.ensures (use_rules c.self.inside.shape) list_progress_of_use h inside.represents.tracked).0.1 f) in
    let told = err_from_is_err_and c.from_residual.result c.from_residual.ensures.1 in
    rw told.1 (λ e. cc, λ f. absurd (subst Q c.self.view_is broken f))

pub returns-in_err-finding-clause-err : goal.returns-in_err-finding-clause-err
returns-in_err-finding-clause-err c t h ended =
    let E : BalanceAuditModel → Type 0 = λ z. EndsAt t (RepresentsBalance z) h in
    let inside = subst E (sym c.self.view_is) ended in
    let fault = c.in_err-finding.field-0.0 in
    let Q : BalanceAuditModel → Type 0 = λ z. IsFirstBreak (use_rules z.shape) h fault in
    let told = err_from_is_err_and c.from_residual.result c.from_residual.ensures.1 in
    rw (told.1, told.2) (subst Q c.self.view_is (c.in_err-finding.ensures (use_rules c.self.inside.shape) list_progress_of_use h inside.represents.tracked).1)

pub returns-clause-ok : goal.returns-clause-ok
returns-clause-ok c t h ended =
    let E : BalanceAuditModel → Type 0 = λ z. EndsAt t (RepresentsBalance z) h in
    let inside = subst E (sym c.self.view_is) ended in
    let F : BalanceAuditModel → Type 0 = λ z. Follow (use_rules z.shape) (reverse h) in
    let follows = subst F c.self.view_is ((c.in_ok-finding.ensures (use_rules c.self.inside.shape) list_progress_of_use h inside.represents.tracked).0.0 refl) in
    (λ e. follows, λ f. refl)

pub returns-clause-never_negative : goal.returns-clause-never_negative
returns-clause-never_negative c t h ended ok k = never_negative c.args.self.now.shape t k h ended.declared ended.accepted ((returns-clause-ok c t h ended).0 ok)

pub returns-clause-few : goal.returns-clause-few
returns-clause-few c t h ended =
    let few = downs_few c.args.self.now.shape t (reverse h) ended.declared ended.accepted ((returns-clause-ok c t h ended).0 refl) in
    let took = ended.represents.downs in
    let gave = ended.represents.ups in
    rw c.so_far.ensures.value (omega arith)

pub returns-clause-small : goal.returns-clause-small
returns-clause-small c t h ended =
    let least = total_small t c.args.self.now.shape.count (reverse h) ended.declared ended.accepted in
    let gave = ended.represents.ups in
    let initial = c.so_far.ensures.small in
    rw c.so_far.ensures.value (omega arith)
