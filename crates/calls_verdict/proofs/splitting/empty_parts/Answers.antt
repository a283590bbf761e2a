use Rattle.std.proofs.Common.{subst, sym, arith, ap, ◌∙◌, length, map, [], ◌∷◌}
use Rattle.std.proofs.lemmas.List.{length-append, map-append}
use Rattle.calls_core.specs.Lists.{EachFrom}
use Rattle.calls_core.specs.Parts.{events_at}
use Rattle.calls_verdict.specs.kept.Parts.{IsPart}
use Rattle.calls_verdict.proofs.PartsMore.{empty_more}
use Rattle.calls_verdict.proofs.splitting.empty_parts.Goals as goal

pub loop-i-preserved : goal.loop-i-preserved
loop-i-preserved c = record {
  count = (let e = ap length c.in_ok-push.ensures.items ∙ length-append c.loop-i.parts.items
      (c.new.result ∷ []) in
      omega (arith, c.loop-i.invariant.count, e));
  each = λ events. subst (EachFrom (IsPart []) 0)
      (sym (ap (map (events_at events)) c.in_ok-push.ensures.items
      ∙ map-append (events_at events) c.loop-i.parts.items (c.new.result ∷ [])))
      (empty_more 0 (map (events_at events) c.loop-i.parts.items) (events_at events c.new.result)
      (ap (events_at events) c.new.ensures) (c.loop-i.invariant.each events));
}
