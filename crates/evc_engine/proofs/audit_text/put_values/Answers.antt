use Rattle.std.proofs.Common.{◌+◌, take, sym, subst, ◌∙◌}
use Rattle.ec_text.specs.Puts.{Puts}
use Rattle.evc_engine.specs.AuditTexts.{spaced_numbers}
use Rattle.evc_engine.proofs.shared.AuditLemmas.{number_at}
use Rattle.evc_engine.proofs.shared.TotalLemmas.{none_at}
use Rattle.evc_engine.proofs.audit_text.put_values.Goals.{in-Some, in_default}
use Rattle.evc_engine.proofs.audit_text.put_values.Goals as goal

pub loop-place-preserved : goal.loop-place-preserved
loop-place-preserved g c =
    let values = c.args.accepted.now.values in
    let k = c.loop-place.place in
    elim c.match-value.branch [
      | in-Some w ↦ subst (λ o. Puts c.args.out.now o (spaced_numbers (take (k + 1) values))) (sym w.out-is)
          (number_at _ _ _ values k w.in-Some.value (sym c.value.ensures ∙ w.in-Some.is) c.loop-place.invariant w.put_spaced_number.ensures)
      | in_default w ↦ subst (λ o. Puts c.args.out.now o (spaced_numbers (take (k + 1) values))) (sym w.out-is)
          (subst (λ vs. Puts c.args.out.now c.loop-place.out (spaced_numbers vs)) (sym (none_at values k (sym c.value.ensures ∙ w.in_default.is))) c.loop-place.invariant)
    ]
