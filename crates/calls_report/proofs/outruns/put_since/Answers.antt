use Rattle.std.proofs.Common.{subst, sym}
use Rattle.ec_text.specs.Puts.{Puts}
use Rattle.ec_text.proofs.shared.PutLemmas.{puts_then}
use Rattle.calls_report.specs.Outruns.{since_text}
use Rattle.calls_report.proofs.outruns.put_since.Goals as goal

pub returns-in-Some : goal.returns-in-Some
returns-in-Some g c =
    subst (λ after. Puts c.args.out.now c.put_line.new.out (since_text c.args.site.now after))
    (sym c.in-Some.is) (puts_then _ _ _ _ _ c.put.ensures.puts c.put_line.ensures)
