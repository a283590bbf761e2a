use Rattle.std.specs.Prelude.{◌+◌, ◌-◌, ◌^◌, min, codes}
use Rattle.std.proofs.Common.{subst, ap, ◌∙◌}
use Rattle.ec_text.specs.Puts.{Puts}
use Rattle.ec_text.proofs.shared.PutLemmas.{puts_then}
use Rattle.calls_report.specs.Items.{some}
use Rattle.calls_report.proofs.outruns.put_due_taken.Goals as goal

pub returns : goal.returns
returns g c =
    let sum = c.saturating_add.ensures ∙ ap (λ m. min (c.args.n + m) (2 ^ 64 - 1)) c.room.ensures in
    let put = subst (λ n. Puts c.args.out.now c.put_some.new.out (some n (codes "produce"))) sum
    c.put_some.ensures in
    puts_then _ _ _ _ _
    (puts_then _ _ _ _ _
    (puts_then _ _ _ _ _
    (puts_then _ _ _ _ _ put c.put.ensures.puts) c.put_room.ensures) c.put-2.ensures.puts)
    c.put_least.ensures
