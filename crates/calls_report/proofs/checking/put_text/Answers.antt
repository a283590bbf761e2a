use Rattle.std.proofs.Common.{length, ap, ◌∙◌}
use Rattle.ec_text.proofs.shared.PutLemmas.{puts_then}
use Rattle.calls_report.proofs.JudgingLemmas.{same_lines}
use Rattle.calls_report.proofs.checking.put_text.Goals as goal

pub returns : goal.returns
returns g c =
    puts_then _ _ _ _ _
    (puts_then _ _ _ _ _
    (puts_then _ _ _ _ _
    (puts_then _ _ _ _ _ c.put.ensures.puts
    (same_lines _ _ _ _ _ _ _ _ _ (c.new-speaker.ensures.heading ∙ c.heading.ensures)
    (c.new-speaker.ensures.lists ∙ c.lists.ensures)
    (c.len.ensures ∙ ap length c.events.ensures)
    c.put_order.ensures))
    c.put-2.ensures.puts)
    (c.put-3.ensures c.args.order.now c.requires))
    c.put-4.ensures.puts
