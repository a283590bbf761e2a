use Rattle.calls_local.proofs.Completing.{responses_become_answers}
use Rattle.calls_local.proofs.laws.responses_become_answers.Goals as goal

pub returns : goal.returns
returns c = responses_become_answers
