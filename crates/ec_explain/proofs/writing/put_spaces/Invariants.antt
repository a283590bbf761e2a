use Rattle.ec_text.specs.Puts.{Puts}
use Rattle.ec_explain.specs.Findings.{spaces}
use Rattle.ec_explain.proofs.writing.put_spaces.Given as goal

-- those so far
abbrev pub invariant-loop-space : goal.invariant-loop-space
invariant-loop-space g l = Puts l.initial.out l.out (spaces l._space)
