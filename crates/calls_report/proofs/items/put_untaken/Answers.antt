use Rattle.ec_text.proofs.shared.PutLemmas.{puts_then}
use Rattle.calls_report.proofs.items.put_untaken.Goals as goal

pub returns : goal.returns
returns g c =
    puts_then _ _ _ _ _
    (puts_then _ _ _ _ _
    (puts_then _ _ _ _ _ c.put_some.ensures c.put.ensures.puts) c.put_line.ensures) c.put-2.ensures.puts
