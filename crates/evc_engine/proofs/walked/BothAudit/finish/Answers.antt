use Rattle.std.proofs.Common.{◌≡◌, ◌+◌, ◌<◌, ◌^◌, reverse, refl, sym, ◌∙◌, subst}
use Rattle.ec_core.specs.Following.{Follow}
use Rattle.ec_semaphore.specs.Balances.{balance_parts}
use Rattle.ec_semaphore.specs.Both.{is_semaphore_sequencer, both_rules}
use Rattle.ec_semaphore.specs.Pairs.{pairs_of}
use Rattle.ec_semaphore.specs.declared.parts.Balance.{Balance}
use Rattle.evc_engine.specs.AuditTexts.{balance_of}
use Rattle.evc_engine.specs.Audits.{IsAudited}
use Rattle.evc_engine.specs.declared.audit_result.AuditResult.TheVariants.{Pairs}
use Rattle.evc_engine.proofs.Findings.{of_both, counts_both}
use Rattle.evc_engine.proofs.walked.BothAudit.finish.Goals as goal

pub returns : goal.returns
returns c = λ h entries g e.
    let counts = counts_both h entries g c.args.self e in
    let parts = c.so_far-parts.ensures.value ∙ counts.parts in
    let small = subst (λ (b : Balance). b.initial + b.ups < 2 ^ 64) (sym c.so_far-parts.ensures.value) counts.small in
    let found = of_both h entries g c.args.self
    (λ common all s. Follow (both_rules common (is_semaphore_sequencer common all)) (reverse entries)
    × ((c.so_far-parts.result ≡ balance_parts s (reverse entries)) × (c.balance_of.result ≡ balance_of c.so_far-parts.result) × (c.in_ok-list.list.items ≡ pairs_of common all entries)))
    e (λ counted paired. (c.in_ok-list.ensures.followed h.setup entries paired refl, (parts, c.balance_of.ensures small, c.in_ok-list.ensures.pairs h.setup entries paired))) in
    subst (λ x. IsAudited h entries x (Pairs c.so_far-parts.result c.balance_of.result c.in_ok-list.list)) (sym found.1) found.2
