use Rattle.std.proofs.Common.{◌≡◌, List, IsOk, IfOk, IfErr, reverse, subst, ◌∙◌}
use Rattle.ec_core.specs.Audits.{IsAuditFault}
use Rattle.ec_core.specs.Following.{Follow}
use Rattle.ec_semaphore.specs.Both.{is_semaphore_sequencer, both_rules}
use Rattle.ec_semaphore.specs.InOrder.{ArePairs}
use Rattle.ec_semaphore.specs.Pairs.{pairs_of}
use Rattle.ec_semaphore.specs.Shapes.{Semaphore}
use Rattle.ec_semaphore.proofs.pairing.pairs.Goals as goal

-- what holds of the audit's semaphores holds of those that were asked for
of_these : (c : goal.After-pairs) (P : Semaphore → List Semaphore → Type 0) → P c.walk.new.audit.common c.walk.new.audit.shapes → P c.args.common.now c.args.shapes.now
of_these c P h =
    subst (P c.args.common.now) (c.walk.ensures.1 ∙ c.new-audit.ensures.shapes)
    (subst (λ s. P s c.walk.new.audit.shapes) (c.walk.ensures.0 ∙ c.new-audit.ensures.common) h)

pub returns : goal.returns
returns c = record {
  followed = of_these c (λ s ss. IsOk c.pairs.result → Follow (both_rules s (is_semaphore_sequencer s ss)) (reverse c.args.run.now.entries)) c.pairs.ensures.followed;
  pairs = of_these c (λ s ss. IfOk c.pairs.result (λ ps. ps.items ≡ pairs_of s ss c.args.run.now.entries)) c.pairs.ensures.pairs;
  drawn = of_these c (λ s ss. IfOk c.pairs.result (λ ps. ArePairs s (is_semaphore_sequencer s ss) c.args.run.now.entries ps.items)) c.pairs.ensures.drawn;
  ordered = c.pairs.ensures.ordered;
  err = of_these c (λ s ss. IfErr c.pairs.result (IsAuditFault (both_rules s (is_semaphore_sequencer s ss)) c.args.run.now.entries)) c.pairs.ensures.err;
}
