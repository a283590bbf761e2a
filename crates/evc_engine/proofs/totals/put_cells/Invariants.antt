use Rattle.std.proofs.Common.{List, reverse}
use Rattle.ec_text.specs.Puts.{Puts}
use Rattle.ec_core.specs.Standing.{StandsFor}
use Rattle.ec_core.specs.declared.act.Entry.{Entry}
use Rattle.ec_heading.specs.Spelling.{lines_text}
use Rattle.evc_engine.specs.Texts.{cell_lines}
use Rattle.evc_engine.proofs.totals.put_cells.Given as goal

-- the lines so far
abbrev pub invariant-loop-place : goal.invariant-loop-place
invariant-loop-place g l = (h : List Entry) → StandsFor l.world h
    → Puts l.initial.out l.out (lines_text (cell_lines l.name (reverse h) l.first 0 l.place))
