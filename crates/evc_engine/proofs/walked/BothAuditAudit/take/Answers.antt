use Rattle.std.proofs.Common.{◌≡◌, ◌∷◌, refl, sym, ap, subst, ◌∙◌}
use Rattle.ec_core.proofs.shared.Following.{op_at}
use Rattle.ec_semaphore.specs.Auditing.{BalancesOn, PairsOn}
use Rattle.ec_semaphore.specs.Uses.{is_on}
use Rattle.ec_semaphore.proofs.shared.LeftOut.{counted_off}
use Rattle.evc_engine.specs.declared.walked.BothAudit.{BothAudit}
use Rattle.evc_engine.proofs.walked.BothAuditAudit.take.Goals.{then-is_on, else-is_on}
use Rattle.evc_engine.proofs.walked.BothAuditAudit.take.Goals as goal

pub returns : goal.returns
returns c = λ start past at is represents.
    let x = c.args.entry.now in
    let old = c.args.self.now in
    let same = ap (λ s. is_on s (op_at x past)) (sym represents.2) ∙ ap (is_on old.common) (sym is) ∙ sym c.is_on.ensures in
    let Passed : BothAudit → Type 0 = λ s. BalancesOn start.balance s.balance (x ∷ past) × (s.pairs ≡ old.pairs) × (s.common ≡ old.common) in
    let now : Passed c.if-is_on.self = elim c.if-is_on.branch [
      | then-is_on w ↦ subst Passed (sym w.self-is) (w.take.ensures start.balance past at is represents.0, refl, refl)
      | else-is_on w ↦ subst Passed (sym w.self-is) ((represents.0.0, counted_off old.balance x past (same ∙ w.if-is_on.false) represents.0.1), refl, refl)
    ] in (
      now.0,
      c.take-2.ensures start.pairs past at is (subst (λ p. PairsOn start.pairs p past) (sym now.1) represents.1),
      now.2 ∙ represents.2 ∙ represents.0.0 ∙ sym now.0.0,
    )
