use Rattle.std.proofs.Common.{subst}
use Rattle.ec_text.specs.Puts.{Puts}
use Rattle.calls_report.specs.Outruns.{least_text}
use Rattle.ec_text.proofs.shared.PutLemmas.{puts_then}
use Rattle.calls_report.proofs.outruns.put_total.Goals as goal

pub returns : goal.returns
returns g c =
    let least = subst (λ n. Puts c.put-2.new.self c.put_least.new.out (least_text c.args.flow n))
    c.saturating_add.ensures c.put_least.ensures in
    puts_then _ _ _ _ _
    (puts_then _ _ _ _ _
    (puts_then _ _ _ _ _ c.put.ensures.puts c.put_number.ensures.puts) c.put-2.ensures.puts) least
