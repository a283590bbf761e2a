use Rattle.ec_count.proofs.First.{first_answers}
use Rattle.ec_count.proofs.laws.the_first_test_answers.Goals as goal

pub returns : goal.returns
returns g c = first_answers _
