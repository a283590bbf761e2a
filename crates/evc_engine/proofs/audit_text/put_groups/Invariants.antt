use Rattle.std.proofs.Common.{take}
use Rattle.ec_text.specs.Puts.{Puts}
use Rattle.ec_heading.specs.Spelling.{lines_text}
use Rattle.evc_engine.specs.AuditTexts.{groups_lines}
use Rattle.evc_engine.proofs.audit_text.put_groups.Given as goal

-- the lines so far
abbrev pub invariant-loop-i : goal.invariant-loop-i
invariant-loop-i g l =
    Puts l.initial.out l.out (lines_text (groups_lines l.heading 0 (take l.i l.found)))
