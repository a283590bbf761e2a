use Rattle.ec_script.proofs.Layouts.{laid_out}
use Rattle.ec_script.proofs.laws.scripts_are_laid_out.Goals as goal

pub returns : goal.returns
returns c = laid_out
