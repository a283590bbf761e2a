use Rattle.ec_text.proofs.shared.PutLemmas.{puts_then}
use Rattle.calls_report.proofs.items.put_passed.Goals as goal

pub returns : goal.returns
returns g c =
    puts_then _ _ _ _ _
    (puts_then _ _ _ _ _
    (puts_then _ _ _ _ _
    (puts_then _ _ _ _ _ c.put_earlier.ensures c.put_returned_item.ensures) c.put_unmade.ensures) c.put_untaken.ensures) c.put_any_pending.ensures
