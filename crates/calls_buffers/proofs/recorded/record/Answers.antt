use Rattle.std.proofs.Common.{◌∙◌, ap, reverse}
use Rattle.std.proofs.lemmas.List.{reverse-reverse}
use Rattle.calls_core.specs.Histories.{completed_calls}
use Rattle.calls_buffers.proofs.recorded.record.Goals as goal

pub returns-clause-done : goal.returns-clause-done
returns-clause-done c =
    c.in_ok-reversed.ensures ∙ ap reverse c.in_ok-done.ensures.done
    ∙ reverse-reverse (completed_calls (reverse c.args.events.now))
