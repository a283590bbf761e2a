use Rattle.std.proofs.Common.{replicate}
use Rattle.ec_text.specs.Puts.{Puts}
use Rattle.calls_text.specs.Spelling.{numbers_after_spaces}
use Rattle.calls_report.proofs.words.Speaker.put_zeros.Given as goal

abbrev pub invariant-loop-zero : goal.invariant-loop-zero
invariant-loop-zero g l = Puts l.initial.out l.out (numbers_after_spaces (replicate l._zero 0))
