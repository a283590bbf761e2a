use Rattle.std.proofs.Common.{subst}
use Rattle.evc_engine.specs.declared.walked.Auditing.{Auditing}
use Rattle.evc_engine.specs.kept.Walks.{AuditsOn}
use Rattle.evc_engine.proofs.WalkLemmas.{takes_deliveries, takes_versions, takes_balance, takes_both}
use Rattle.evc_engine.proofs.walked.AuditingAudit.take.Goals as goal

pub returns-in-Deliveries : goal.returns-in-Deliveries
returns-in-Deliveries c = λ start past at is represents.
    takes_deliveries c.args.place c.args.op.now c.args.entry.now c.in-Deliveries.audit c.take.new.self c.take.ensures start past at is
    (subst (λ (a : Auditing). AuditsOn start a past) c.in-Deliveries.is represents)

pub returns-in-Versions : goal.returns-in-Versions
returns-in-Versions c = λ start past at is represents.
    takes_versions c.args.place c.args.op.now c.args.entry.now c.in-Versions.audit c.take-in-Versions.new.self c.take-in-Versions.ensures start past at is
    (subst (λ (a : Auditing). AuditsOn start a past) c.in-Versions.is represents)

pub returns-in-Balance : goal.returns-in-Balance
returns-in-Balance c = λ start past at is represents.
    takes_balance c.args.place c.args.op.now c.args.entry.now c.in-Balance.audit c.take-in-Balance.new.self c.take-in-Balance.ensures start past at is
    (subst (λ (a : Auditing). AuditsOn start a past) c.in-Balance.is represents)

pub returns-in-Both : goal.returns-in-Both
returns-in-Both c = λ start past at is represents.
    takes_both c.args.place c.args.op.now c.args.entry.now c.in-Both.audit c.take-in-Both.new.self c.take-in-Both.ensures start past at is
    (subst (λ (a : Auditing). AuditsOn start a past) c.in-Both.is represents)
