use Rattle.std.specs.Prelude.{codes}
use Rattle.std.proofs.Common.{subst}
use Rattle.ec_text.specs.Puts.{Puts}
use Rattle.ec_text.proofs.shared.PutLemmas.{puts_then}
use Rattle.calls_report.specs.Items.{some}
use Rattle.calls_report.proofs.outruns.put_shortage.Goals as goal

pub returns : goal.returns
returns g c =
    let put = subst (λ n. Puts c.put.new.self c.put_some.new.out (some n (codes "item")))
    c.saturating_add.ensures c.put_some.ensures in
    puts_then _ _ _ _ _
    (puts_then _ _ _ _ _
    (puts_then _ _ _ _ _
    (puts_then _ _ _ _ _
    (puts_then _ _ _ _ _
    (puts_then _ _ _ _ _
    (puts_then _ _ _ _ _
    (puts_then _ _ _ _ _
    (puts_then _ _ _ _ _ c.put.ensures.puts put) c.put-2.ensures.puts) c.put_number.ensures.puts)
    c.put_was.ensures) c.put_number-2.ensures.puts) c.put-3.ensures.puts) c.put_few_calls.ensures)
    c.put-4.ensures.puts) c.put_line.ensures
