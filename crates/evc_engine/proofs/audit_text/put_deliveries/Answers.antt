use Rattle.std.proofs.Common.{refl, subst, map}
use Rattle.std.proofs.lemmas.Option.{slice_get_read}
use Rattle.std.proofs.lemmas.List.{take_all}
use Rattle.ec_text.specs.Puts.{Puts}
use Rattle.ec_heading.specs.Spelling.{lines_text}
use Rattle.evc_engine.specs.AuditTexts.{delivery_line}
use Rattle.evc_engine.proofs.shared.AuditLemmas.{line_at}
use Rattle.evc_engine.proofs.audit_text.put_deliveries.Goals as goal

pub loop-delivery-preserved : goal.loop-delivery-preserved
loop-delivery-preserved g c =
    line_at _ _ _ (delivery_line c.args.spellings.now c.args.name.now) c.args.list.now c.loop-delivery.delivery-index c.delivery-item.result
    (slice_get_read c.args.list.now _ c.loop-delivery.delivery-index c.delivery-item.result refl c.loop-delivery-test.true c.delivery-item.is)
    c.loop-delivery.invariant c.put_delivery.ensures

pub returns : goal.returns
returns g c =
    subst (λ xs. Puts c.args.out.now c.loop-delivery.out (lines_text (map (delivery_line c.args.spellings.now c.args.name.now) xs)))
    (take_all c.loop-delivery.delivery-index c.args.list.now c.loop-delivery-test.false) c.loop-delivery.invariant
