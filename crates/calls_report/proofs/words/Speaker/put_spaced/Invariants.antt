use Rattle.std.proofs.Common.{take}
use Rattle.ec_text.specs.Puts.{Puts}
use Rattle.calls_text.specs.Spelling.{numbers_after_spaces}
use Rattle.calls_report.proofs.words.Speaker.put_spaced.Given as goal

abbrev pub invariant-loop-n : goal.invariant-loop-n
invariant-loop-n g l = Puts l.initial.out l.out (numbers_after_spaces (take l.n-index l.numbers))
