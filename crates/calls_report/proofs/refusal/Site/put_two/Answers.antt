use Rattle.ec_text.proofs.shared.PutLemmas.{puts_then}
use Rattle.calls_report.proofs.refusal.Site.put_two.Goals as goal

pub returns : goal.returns
returns g c =
    puts_then _ _ _ _ _
    (puts_then _ _ _ _ _
    (puts_then _ _ _ _ _
    (puts_then _ _ _ _ _
    (puts_then _ _ _ _ _ c.put_got.ensures c.put.ensures.puts) c.put_value.ensures)
    c.put-2.ensures.puts)
    c.put_value-2.ensures)
    c.put-3.ensures.puts
