use Rattle.std.proofs.Common.{◌≡◌, ◌+◌, ◌++◌, ◌∷◌, [], max, take, ap, sym, ◌∙◌}
use Rattle.std.proofs.Common.{append_assoc, arith}
use Rattle.std.proofs.lemmas.List.{take_more}
use Rattle.std.proofs.lemmas.Grind.{common_steps}
use Rattle.calls_core.specs.declared.history.Placed.{Placed}
use Rattle.calls_core.specs.Points.{placed_one, last_point}
use Rattle.calls_core.proofs.Placing.{placed_more, last_more}
use Rattle.calls_core.proofs.call_list.CallList.append_to.Goals as goal

pub loop-i-preserved : goal.loop-i-preserved
loop-i-preserved c =
    let cs = c.args.self.now in
    let call = c.at-call.result in
    let own : Placed = record { point = c.max-latest.result; call = call } in
    let next : take (c.loop-i.i + 1) cs ≡ take c.loop-i.i cs ++ call ∷ [] =
    take_more cs c.loop-i.i call (omega arith)
    ∙ ap (λ x. take c.loop-i.i cs ++ x ∷ []) (sym (c.at-call.ensures call)) in
    let point : c.max-latest.result ≡ max (last_point 0 (take c.loop-i.i cs)) (call.first + 1) =
    grind (arith, common_steps) in
    record {
      placed = c.in_ok-push.ensures ∙ ap (λ ps. ps ++ own ∷ []) c.loop-i.invariant.placed
          ∙ append_assoc c.args.order.now (placed_one 0 (take c.loop-i.i cs)) (own ∷ [])
          ∙ ap (λ n. c.args.order.now ++ (placed_one 0 (take c.loop-i.i cs)
          ++ record { point = n; call = call } ∷ [])) point
          ∙ ap (λ ps. c.args.order.now ++ ps) (sym (placed_more 0 (take c.loop-i.i cs) call)
          ∙ ap (placed_one 0) (sym next));
      latest = point ∙ sym (last_more 0 (take c.loop-i.i cs) call) ∙ ap (last_point 0) (sym next);
    }
