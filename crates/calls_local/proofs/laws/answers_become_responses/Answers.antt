use Rattle.calls_local.proofs.Responding.{answers_become_responses}
use Rattle.calls_local.proofs.laws.answers_become_responses.Goals as goal

pub returns : goal.returns
returns c = answers_become_responses
