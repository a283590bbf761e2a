use Rattle.std.proofs.Common.{sym, ◌∙◌}
use Rattle.ec_text.proofs.shared.PutLemmas.{puts_then}
use Rattle.evc_explain_engine.specs.WorkerEnds.{end_text}
use Rattle.evc_explain_engine.proofs.worker_ends.put_end.Goals as goal

pub returns-in-Waits : goal.returns-in-Waits
unfolding end_text
returns-in-Waits g c =
    rw (c.in-Waits.is, sym c.worker-name.ensures, sym c.event-event.ensures)
    (puts_then _ _ _ _ _
    (puts_then _ _ _ _ _
    (puts_then _ _ _ _ _
    (puts_then _ _ _ _ _
    (puts_then _ _ _ _ _ c.put.ensures.puts c.put-in-Waits.ensures.puts)
    c.put-in-Waits-2.ensures.puts) c.put_count.ensures)
    c.put-in-Waits-3.ensures.puts) c.put_count-in-Waits.ensures)

pub returns-in-Reached : goal.returns-in-Reached
unfolding end_text
returns-in-Reached g c =
    rw (c.in-Reached.is, sym c.worker-name.ensures, sym c.event.ensures)
    (puts_then _ _ _ _ _
    (puts_then _ _ _ _ _
    (puts_then _ _ _ _ _ c.put-in-Reached.ensures.puts c.put-in-Reached-2.ensures.puts)
    c.put-in-Reached-3.ensures.puts) c.put_count-in-Reached.ensures)

pub returns-in-Refused : goal.returns-in-Refused
unfolding end_text
returns-in-Refused g c =
    rw (c.in-Refused.is, sym c.worker-name.ensures, sym (c.as_bytes.ensures.value ∙ c.name.ensures))
    (puts_then _ _ _ _ _
    (puts_then _ _ _ _ _
    (puts_then _ _ _ _ _ c.put-in-Refused.ensures.puts c.put-in-Refused-2.ensures.puts)
    c.put-in-Refused-3.ensures.puts) c.put-in-Refused-4.ensures.puts)

pub returns-in-TooLarge : goal.returns-in-TooLarge
unfolding end_text
returns-in-TooLarge g c =
    rw (c.in-TooLarge.is, sym c.worker-name.ensures)
    (puts_then _ _ _ _ _ c.put-in-TooLarge.ensures.puts c.put-in-TooLarge-2.ensures.puts)
