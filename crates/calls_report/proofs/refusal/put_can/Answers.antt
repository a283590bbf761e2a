use Rattle.std.proofs.Common.{codes, decimal, subst, ◌++◌}
use Rattle.ec_text.specs.Puts.{Puts}
use Rattle.calls_report.proofs.refusal.put_can.Goals as goal

pub returns : goal.returns
returns g c =
    subst (λ n. Puts c.args.out.now c.put_with_number.new.out
    (codes " can have drawn 0 to " ++ decimal n)) c.ticket_number.ensures c.put_with_number.ensures
