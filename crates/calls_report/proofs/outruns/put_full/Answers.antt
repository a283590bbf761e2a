use Rattle.std.specs.Prelude.{◌-◌}
use Rattle.std.proofs.Common.{subst, ap, ◌∙◌}
use Rattle.ec_text.specs.Puts.{Puts}
use Rattle.ec_text.proofs.shared.PutLemmas.{puts_then}
use Rattle.calls_buffers.specs.declared.fault.Flow.TheVariants.{Out}
use Rattle.calls_report.specs.Outruns.{no_more}
use Rattle.calls_report.proofs.outruns.put_full.Goals as goal

pub returns : goal.returns
returns g c =
    let left = c.saturating_sub.ensures ∙ ap (λ m. c.args.turn - m) c.room.ensures in
    let put = subst (λ n. Puts c.put.new.self c.put_no_more.new.out (no_more Out n)) left
    c.put_no_more.ensures in
    puts_then _ _ _ _ _
    (puts_then _ _ _ _ _
    (puts_then _ _ _ _ _ c.put.ensures.puts put) c.put-2.ensures.puts) c.put_room.ensures
