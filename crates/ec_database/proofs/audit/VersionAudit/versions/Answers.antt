use Rattle.std.proofs.Common.{reverse, subst, sym}
use Rattle.std.specs.Prelude.{IfOk}
use Rattle.ec_count.specs.Tables.{Tables, IsDeclared}
use Rattle.ec_core.specs.Acceptance.{IsAccepted}
use Rattle.ec_core.specs.Ending.{EndsAt}
use Rattle.ec_database.specs.Auditing.{RepresentsVersions}
use Rattle.ec_database.specs.Tries.{AreUndisturbed}
use Rattle.ec_database.proofs.audit.VersionAudit.versions.Goals as goal

pub returns-clause-undisturbed : goal.returns-clause-undisturbed
returns-clause-undisturbed c =
    let h = c.args.run.now.entries in
    let A : Tables → Type 0 = λ u. IsAccepted u (reverse h) in
    let ended : EndsAt c.args.self.setup (RepresentsVersions c.args.self) h =
    record { declared = subst IsDeclared (sym c.requires.setup) c.invariant.ensures.declared; accepted = subst A (sym c.requires.setup) c.invariant.ensures.accepted; represents = c.requires.represents } in
    let Q : Tables → Type 0 = λ u. IfOk c.finish.result (λ tries. AreUndisturbed u c.args.self.shape h tries.list) in
    subst Q c.requires.setup (c.finish.ensures.undisturbed h ended)
