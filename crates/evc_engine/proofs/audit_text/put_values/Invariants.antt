use Rattle.std.proofs.Common.{take}
use Rattle.ec_text.specs.Puts.{Puts}
use Rattle.evc_engine.specs.AuditTexts.{spaced_numbers}
use Rattle.evc_engine.proofs.audit_text.put_values.Given as goal

-- the values so far
abbrev pub invariant-loop-place : goal.invariant-loop-place
invariant-loop-place g l = Puts l.initial.out l.out (spaced_numbers (take l.place l.accepted.values))
