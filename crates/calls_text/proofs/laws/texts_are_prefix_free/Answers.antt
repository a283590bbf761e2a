use Rattle.calls_text.proofs.Prefixes as prefixes
use Rattle.calls_text.proofs.laws.texts_are_prefix_free.Goals as goal

pub returns : goal.returns
returns c = prefixes.texts_are_prefix_free
