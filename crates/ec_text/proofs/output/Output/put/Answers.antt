use Rattle.std.proofs.Common.{rules}
use Rattle.ec_text.proofs.shared.PutLemmas.{puts_taken}
use Rattle.ec_text.proofs.output.Output.put.Goals as goal

pub returns-then-take_in-clause-puts : goal.returns-then-take_in-clause-puts
returns-then-take_in-clause-puts g c = rw (← c.self.view_is) (puts_taken _ _ c.self.inside.failed c.self.inside.bytes _ c.args.bytes.now (search rules))
