use Rattle.std.proofs.Common.{rules}
use Rattle.ec_text.proofs.shared.PutLemmas.{puts_then, puts_failed, puts_taken}
use Rattle.ec_text.proofs.output.Output.put_behind.Goals as goal

pub returns-then-has_failed-clause-puts : goal.returns-then-has_failed-clause-puts
returns-then-has_failed-clause-puts g c = puts_then _ _ _ _ c.args.bytes.now c.flush.ensures.puts (puts_failed _ c.args.bytes.now (search rules))

pub returns-then-take_in-clause-puts : goal.returns-then-take_in-clause-puts
returns-then-take_in-clause-puts g c = puts_then _ _ _ _ c.args.bytes.now c.flush.ensures.puts (rw (← c.self.view_is) (puts_taken _ _ c.self.inside.failed c.self.inside.bytes _ c.args.bytes.now (search rules)))
