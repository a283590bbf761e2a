use Rattle.std.proofs.Common.{rules}
use Rattle.ec_text.proofs.shared.PutLemmas.{puts_written}
use Rattle.ec_text.proofs.output.Output.put_long.Goals as goal

pub returns : goal.returns
returns g c = rw (← c.self.view_is) (puts_written _ _ _ _ _ c.write_out.result (search rules) (search rules) (search rules) (search rules) (search rules) (search rules))
