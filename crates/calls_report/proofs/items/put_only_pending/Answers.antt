use Rattle.ec_text.proofs.shared.PutLemmas.{puts_then}
use Rattle.calls_report.proofs.items.put_only_pending.Goals as goal

pub returns : goal.returns
returns g c =
    puts_then _ _ _ _ _
    (puts_then _ _ _ _ _ c.put.ensures.puts c.put_number.ensures.puts) c.put-2.ensures.puts
