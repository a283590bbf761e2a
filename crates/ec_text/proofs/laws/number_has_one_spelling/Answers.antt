use Rattle.ec_text.proofs.shared.NumberLemmas.{number_takes}
use Rattle.ec_text.proofs.laws.number_has_one_spelling.Goals as goal

pub returns : goal.returns
returns c = number_takes
