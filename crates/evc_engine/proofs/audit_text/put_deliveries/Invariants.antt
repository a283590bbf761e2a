use Rattle.std.proofs.Common.{map, take}
use Rattle.ec_text.specs.Puts.{Puts}
use Rattle.ec_heading.specs.Spelling.{lines_text}
use Rattle.evc_engine.specs.AuditTexts.{delivery_line}
use Rattle.evc_engine.proofs.audit_text.put_deliveries.Given as goal

-- the lines so far
abbrev pub invariant-loop-delivery : goal.invariant-loop-delivery
invariant-loop-delivery g l =
    Puts l.initial.out l.out (lines_text (map (delivery_line l.spellings l.name) (take l.delivery-index l.list)))
