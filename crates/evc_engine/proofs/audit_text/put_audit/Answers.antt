use Rattle.std.proofs.Common.{sym, subst}
use Rattle.ec_text.specs.Puts.{Puts}
use Rattle.ec_text.proofs.shared.PutLemmas.{puts_then}
use Rattle.evc_engine.proofs.shared.AuditLemmas.{audit_parts}
use Rattle.evc_engine.proofs.audit_text.put_audit.Goals as goal

pub returns : goal.returns
returns g c =
    subst (Puts c.args.out.now c.put-2.new.self)
    (sym (audit_parts c.args.heading.now c.args.found.now))
    (puts_then _ _ _ _ _ (puts_then _ _ _ _ _ c.put.ensures.puts c.put_groups.ensures) c.put-2.ensures.puts)
