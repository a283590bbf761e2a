use Rattle.std.proofs.Common.{ap, sym, subst, ◌∙◌}
use Rattle.ec_database.specs.Auditing.{ReadsOn, VersionAuditModel, RepresentsVersions}
use Rattle.ec_database.proofs.audit.VersionAuditAudit.take.Goals as goal

pub returns : goal.returns
returns c = λ start past at op was.
    (let P : VersionAuditModel → Type 0 = λ z. RepresentsVersions z past in
    let inside = subst P (sym c.self.view_is) was.2 in
    let x = c.args.entry.now in
    let reads : ReadsOn c.self.inside.lists.setup.now c.self.inside.lists.shape.now c.list_progress-kept.result c.args.op.now x past = record { kept = c.list_progress-kept.ensures _ _ past inside.tracked; op = op } in (
      ap (λ (z : VersionAuditModel). z.shape) c.self.view_is ∙ was.0,
      ap (λ (z : VersionAuditModel). z.setup) c.self.view_is ∙ was.1,
      record {
        tracked = c.take.ensures past at op inside.tracked;
        held = λ ok. c.add_fails.ensures.held ok past reads (inside.held (c.add_fails.ensures.before ok));
        list = λ ok. c.add_fails.ensures.tries ok past reads (inside.held (c.add_fails.ensures.before ok)) (inside.list (c.add_fails.ensures.before ok));
      },
    ))
