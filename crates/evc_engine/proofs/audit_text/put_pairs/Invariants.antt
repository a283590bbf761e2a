use Rattle.std.proofs.Common.{map, take}
use Rattle.ec_text.specs.Puts.{Puts}
use Rattle.ec_heading.specs.Spelling.{lines_text}
use Rattle.evc_engine.specs.AuditTexts.{pair_line, semaphore_word}
use Rattle.evc_engine.proofs.audit_text.put_pairs.Given as goal

-- the lines so far
abbrev pub invariant-loop-pair : goal.invariant-loop-pair
invariant-loop-pair g l =
    Puts l.initial.out l.out (lines_text (map (pair_line l.spellings (semaphore_word l.heading.names 0 l.heading.groups)) (take l.pair-index l.list)))
