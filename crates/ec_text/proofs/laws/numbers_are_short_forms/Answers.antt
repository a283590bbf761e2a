use Rattle.ec_text.proofs.shared.NumberLemmas.{numbers_short}
use Rattle.ec_text.proofs.laws.numbers_are_short_forms.Goals as goal

pub returns : goal.returns
returns c = numbers_short
