use Rattle.ec_text.proofs.shared.PutLemmas.{puts_then}
use Rattle.evc_engine.proofs.audit_text.put_balance.Goals as goal

pub returns : goal.returns
returns g c =
    puts_then _ _ _ _ _ (puts_then _ _ _ _ _ (puts_then _ _ _ _ _ (
    puts_then _ _ _ _ _ (puts_then _ _ _ _ _ (puts_then _ _ _ _ _ c.put.ensures.puts c.put-2.ensures.puts)
    c.put_spaced_number.ensures) c.put_spaced_number-2.ensures) c.put_spaced_number-3.ensures)
    c.put_spaced_number-4.ensures) c.put-3.ensures.puts
