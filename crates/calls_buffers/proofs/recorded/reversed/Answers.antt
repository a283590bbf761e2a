use Rattle.std.proofs.Common.{◌++◌, ◌∷◌, [], take, ap, sym, ◌∙◌, arith}
use Rattle.std.proofs.lemmas.List.{take_more}
use Rattle.calls_buffers.proofs.recorded.reversed.Goals as goal

pub loop-i-preserved : goal.loop-i-preserved
loop-i-preserved c =
    let list = c.args.list.now in
    let call = c.at.result in
    c.in_ok-push.ensures.items ∙ ap (λ cs. cs ++ call ∷ []) c.loop-i.invariant
    ∙ ap (λ x. take c.loop-i.i list ++ x ∷ []) (c.at.ensures call)
    ∙ sym (take_more list c.loop-i.i call (omega (arith, c.loop-i-test.true, c.len-i-end.ensures)))
