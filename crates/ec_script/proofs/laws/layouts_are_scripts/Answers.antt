use Rattle.ec_script.proofs.Spellings.{is_script}
use Rattle.ec_script.proofs.laws.layouts_are_scripts.Goals as goal

pub returns : goal.returns
returns c = is_script
