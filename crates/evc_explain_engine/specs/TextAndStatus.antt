-- The explanation of a text.
use Rattle.std.specs.Prelude.{◌≡◌, ℕ, List}
use Rattle.evc_engine.specs.declared.status.Status.{Status}
use Rattle.evc_explain_engine.specs.declared.explanation.Explanation.{Explanation}

-- these bytes are written, and the program ends with this status
abbrev pub HasTextAndStatus : List ℕ → Status → Explanation → Type 0
HasTextAndStatus bytes status t = (t.bytes.items ≡ bytes) × (t.status ≡ status)
