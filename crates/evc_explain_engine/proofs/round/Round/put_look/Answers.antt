use Rattle.std.proofs.Common.{sym}
use Rattle.ec_text.proofs.shared.PutLemmas.{puts_then}
use Rattle.evc_explain_engine.specs.Reasons.{look_text}
use Rattle.evc_explain_engine.proofs.round.Round.put_look.Goals as goal

pub returns : goal.returns
unfolding look_text
returns g c =
    rw (sym c.event.ensures, sym c.line_of.ensures)
    (puts_then _ _ _ _ _
    (puts_then _ _ _ _ _
    (puts_then _ _ _ _ _
    (puts_then _ _ _ _ _
    (puts_then _ _ _ _ _ c.put_count.ensures c.put.ensures.puts) c.put-2.ensures.puts)
    c.put_signaller.ensures) c.put_count-2.ensures) c.put_count-3.ensures)
