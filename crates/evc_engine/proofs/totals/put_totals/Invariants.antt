use Rattle.std.proofs.Common.{List, reverse, take}
use Rattle.ec_text.specs.Puts.{Puts}
use Rattle.ec_core.specs.Standing.{StandsFor}
use Rattle.ec_core.specs.declared.act.Entry.{Entry}
use Rattle.ec_heading.specs.Spelling.{lines_text}
use Rattle.evc_engine.specs.Texts.{totals_by}
use Rattle.evc_engine.proofs.totals.put_totals.Given as goal

-- the totals so far
abbrev pub invariant-loop-place : goal.invariant-loop-place
invariant-loop-place g l = (h : List Entry) → StandsFor l.world h
    → Puts l.initial.out l.out (lines_text (totals_by (reverse h) (take l.place l.words)))
