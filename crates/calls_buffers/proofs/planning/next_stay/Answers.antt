use Rattle.std.proofs.Common.{max, ap, ◌∙◌}
use Rattle.calls_buffers.proofs.PlansStays.{next_is}
use Rattle.calls_buffers.proofs.planning.next_stay.Goals as goal

pub returns : goal.returns
returns c = next_is c.args.room c.args.window.now c.args.stays.now c.stay_before-last.result
    c.stay_before-freed.result
    (c.stay_before-last.ensures.at, c.stay_before-last.ensures.none)
    (c.stay_before-freed.ensures.at, c.stay_before-freed.ensures.none) _
    (c.max-put_at.ensures ∙ ap (λ k. max k c.stay_before-freed.result.take_at) c.max.ensures)
    (c.max-take_at.ensures ∙ ap (λ k. max k c.max-put_at.result) c.max-2.ensures)
