use Rattle.std.proofs.Common.{reverse, List, sym, subst, ◌∙◌}
use Rattle.ec_database.specs.Following.{FollowsDatabase}
use Rattle.ec_database.specs.Shapes.{Database}
use Rattle.ec_database.specs.Tries.{AcceptedTry, ListsTries, AreUndisturbed}
use Rattle.ec_database.proofs.audit.versions.Goals as goal

pub returns-clause-followed : goal.returns-clause-followed
returns-clause-followed c =
    let run = c.args.run.now in
    subst (λ (d : Database). FollowsDatabase run.setup d (reverse run.entries)) (c.walk.ensures.0 ∙ c.new-audit.ensures.shape) c.in_ok-tries.ensures.followed

pub returns-clause-tries : goal.returns-clause-tries
returns-clause-tries c =
    let run = c.args.run.now in
    subst (λ (l : List AcceptedTry). ListsTries run.setup c.args.shape.now run.entries l) (sym c.in-Ok.ensures)
    (subst (λ (d : Database). ListsTries run.setup d run.entries c.in_ok-tries.tries.list) (c.walk.ensures.0 ∙ c.new-audit.ensures.shape) c.in_ok-tries.ensures.tries)

pub returns-clause-undisturbed : goal.returns-clause-undisturbed
returns-clause-undisturbed c =
    let run = c.args.run.now in
    subst (λ (l : List AcceptedTry). AreUndisturbed run.setup c.args.shape.now run.entries l) (sym c.in-Ok.ensures)
    (subst (λ (d : Database). AreUndisturbed run.setup d run.entries c.in_ok-tries.tries.list) (c.walk.ensures.0 ∙ c.new-audit.ensures.shape) c.in_ok-tries.ensures.undisturbed)
