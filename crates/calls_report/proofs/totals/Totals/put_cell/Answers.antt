use Rattle.std.proofs.Common.{ℕ, decimal, subst}
use Rattle.ec_text.specs.Puts.{Puts}
use Rattle.ec_text.proofs.shared.PutLemmas.{puts_then}
use Rattle.calls_report.proofs.totals.Totals.put_cell.Goals as goal

pub returns : goal.returns
returns g c = λ order are.
    puts_then _ _ _ _ _
    (puts_then _ _ _ _ _
    (puts_then _ _ _ _ _
    (puts_then _ _ _ _ _
    (puts_then _ _ _ _ _
    (puts_then _ _ _ _ _ c.put.ensures.puts c.put-2.ensures.puts)
    c.put-3.ensures.puts)
    c.put_number.ensures.puts)
    c.put-4.ensures.puts)
    (subst (λ (n : ℕ). Puts c.put-4.new.self c.put_number-2.new.self (decimal n))
    (c.of_cell.ensures order are) c.put_number-2.ensures.puts))
    c.put-5.ensures.puts
