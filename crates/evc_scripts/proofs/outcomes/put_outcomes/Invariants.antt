use Rattle.std.proofs.Common.{take}
use Rattle.ec_text.specs.Puts.{Puts}
use Rattle.ec_heading.specs.Spelling.{lines_text}
use Rattle.evc_scripts.specs.OutcomeNotes.{outcome_lines}
use Rattle.evc_scripts.proofs.outcomes.put_outcomes.Given as goal

-- the lines so far
abbrev pub invariant-loop-place : goal.invariant-loop-place
invariant-loop-place g l =
    Puts l.initial.out l.out (lines_text (outcome_lines l.spellings 0 (take l.place l.outcomes)))
