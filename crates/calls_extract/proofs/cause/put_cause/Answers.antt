use Rattle.std.proofs.Common.{ℕ, List, subst}
use Rattle.ec_text.specs.Puts.{Puts}
use Rattle.ec_text.proofs.shared.PutLemmas.{puts_then}
use Rattle.calls_extract.proofs.cause.put_cause.Goals as goal

pub returns : goal.returns
returns g c =
    puts_then _ _ _ _ _
    (puts_then _ _ _ _ _
    (puts_then _ _ _ _ _
    (puts_then _ _ _ _ _ c.put.ensures.puts c.put-2.ensures.puts) c.put-3.ensures.puts)
    c.put_number.ensures.puts)
    (subst (λ (w : List ℕ). Puts c.put_number.new.self c.put-4.new.self w) c.cause_words.ensures
    c.put-4.ensures.puts)
