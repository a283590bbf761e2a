use Rattle.std.proofs.Common.{map, take}
use Rattle.ec_text.specs.Puts.{Puts}
use Rattle.ec_heading.specs.Spelling.{lines_text}
use Rattle.evc_engine.specs.AuditTexts.{version_line}
use Rattle.evc_engine.proofs.audit_text.put_versions.Given as goal

-- the lines so far
abbrev pub invariant-loop-place : goal.invariant-loop-place
invariant-loop-place g l = Puts l.initial.out l.out (lines_text (map (version_line l.spellings l.name) (take l.place l.tries.list)))
