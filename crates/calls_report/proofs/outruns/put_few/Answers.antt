use Rattle.std.proofs.Common.{subst}
use Rattle.ec_text.specs.Puts.{Puts}
use Rattle.ec_text.proofs.shared.PutLemmas.{puts_then}
use Rattle.calls_report.specs.Outruns.{others_text}
use Rattle.calls_report.proofs.outruns.put_few.Goals as goal

pub returns : goal.returns
returns g c =
    let others = subst (λ p. Puts c.put_shortages.new.out c.put_others.new.out
    (others_text c.args.site.now c.args.flow p c.args.others)) c.last_position.ensures
    c.put_others.ensures in
    puts_then _ _ _ _ _
    (puts_then _ _ _ _ _ c.put.ensures.puts c.put_shortages.ensures) others
