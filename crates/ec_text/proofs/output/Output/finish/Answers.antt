use Rattle.std.proofs.Common.{rules}
use Rattle.ec_text.proofs.shared.PutLemmas.{flushed, ends_same, ends_ok, ends_err}
use Rattle.ec_text.proofs.output.Output.finish.Goals as goal

pub returns-then-has_failed-clause-same : goal.returns-then-has_failed-clause-same
returns-then-has_failed-clause-same g c = λ first all h. ends_same first _ all (flushed first _ _ all c.flush.ensures.puts h)

pub returns-else-has_failed-clause-same : goal.returns-else-has_failed-clause-same
returns-else-has_failed-clause-same g c = λ first all h. ends_same first _ all (flushed first _ _ all c.flush.ensures.puts h)

pub returns-else-has_failed-clause-ok : goal.returns-else-has_failed-clause-ok
returns-else-has_failed-clause-ok g c = λ first all h. ends_ok first _ all (flushed first _ _ all c.flush.ensures.puts h) (search rules) (search rules)

pub returns-then-has_failed-clause-err : goal.returns-then-has_failed-clause-err
returns-then-has_failed-clause-err g c = λ first all h. ends_err first _ all (flushed first _ _ all c.flush.ensures.puts h) (search rules)
