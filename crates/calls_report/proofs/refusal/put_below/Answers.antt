use Rattle.std.proofs.Common.{codes, decimal, subst, ◌++◌}
use Rattle.ec_text.specs.Puts.{Puts}
use Rattle.ec_text.proofs.shared.PutLemmas.{puts_then}
use Rattle.calls_report.specs.Refusals.{returned_text, threshold}
use Rattle.calls_report.proofs.refusal.put_below.Goals as goal

pub returns : goal.returns
returns g c =
    puts_then _ _ _ (returned_text c.args.call.now.reply)
    (codes ", but it awaited " ++ decimal (threshold c.args.call.now.op)) c.put_returned.ensures
    (subst (λ n. Puts c.put_returned.new.out c.put_with_number.new.out
    (codes ", but it awaited " ++ decimal n)) c.threshold.ensures c.put_with_number.ensures)
