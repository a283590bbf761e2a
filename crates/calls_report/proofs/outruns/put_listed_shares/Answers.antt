use Rattle.ec_text.proofs.shared.PutLemmas.{puts_then}
use Rattle.calls_report.proofs.outruns.put_listed_shares.Goals as goal

pub returns : goal.returns
returns g c =
    puts_then _ _ _ _ _ c.put_share.ensures c.put_further_shares.ensures
