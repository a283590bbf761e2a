use Rattle.std.proofs.Common.{List, subst}
use Rattle.ec_text.specs.Puts.{Puts}
use Rattle.calls_turns.specs.declared.turn.Share.{Share}
use Rattle.calls_report.specs.Outruns.{shares_text}
use Rattle.ec_text.proofs.shared.PutLemmas.{puts_then}
use Rattle.calls_report.proofs.outruns.put_crowd.Goals as goal

pub returns : goal.returns
returns g c =
    let shares = subst (λ (l : List Share). Puts c.put_by_line.new.out c.put_shares.new.out
    (shares_text c.args.site.now c.args.flow l)) c.deref.ensures.value c.put_shares.ensures in
    puts_then _ _ _ _ _
    (puts_then _ _ _ _ _
    (puts_then _ _ _ _ _
    (puts_then _ _ _ _ _ c.put_joint.ensures c.put_by_line.ensures) shares) c.put_total.ensures)
    c.put_closed.ensures
