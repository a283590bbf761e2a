use Rattle.calls_text.proofs.Prefixes as prefixes
use Rattle.calls_text.proofs.laws.prefix_is_refused.Goals as goal

pub returns : goal.returns
returns c = prefixes.prefix_is_refused
