use Rattle.ec_text.proofs.shared.PutLemmas.{puts_then}
use Rattle.calls_report.proofs.refusal.Site.put_alternate.Goals as goal

pub returns : goal.returns
returns g c =
    puts_then _ _ _ _ _
    (puts_then _ _ _ _ _
    (puts_then _ _ _ _ _
    (puts_then _ _ _ _ _ c.put_values.ensures c.put_next_line.ensures) c.put_next_line-2.ensures)
    c.put_next_line-3.ensures)
    c.put_next_line-4.ensures
