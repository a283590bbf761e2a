use Rattle.std.proofs.Common.{◌≡◌, [], length}
use Rattle.ec_walk.proofs.shared.Each.{EachFirst}
use Rattle.evc_engine.specs.kept.Walks.{AuditRepresents}
use Rattle.evc_engine.proofs.walked.open_audits.Given as goal

-- the audits of the groups so far
abbrev pub invariant-loop-number : goal.invariant-loop-number
invariant-loop-number l = record {
  long : length l.audits.items ≡ l.number;
  each : EachFirst (λ g a. AuditRepresents l.setup l.semaphores g a []) l.groups l.audits.items l.number;
}
