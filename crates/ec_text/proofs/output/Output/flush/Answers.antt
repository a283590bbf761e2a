use Rattle.std.proofs.Common.{rules}
use Rattle.ec_text.proofs.shared.PutLemmas.{puts_flushed}
use Rattle.ec_text.proofs.output.Output.flush.Goals as goal

pub returns-clause-puts : goal.returns-clause-puts
returns-clause-puts g c = rw (← c.self.view_is) (puts_flushed _ _ _ _ c.write_out-done.result (search rules) (search rules) (search rules) (search rules) (search rules))
