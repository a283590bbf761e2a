use Rattle.std.proofs.Common.{arith, List, ℕ, ◌+◌, ◌++◌, ◌∙◌, ap, append_assoc, length, take}
use Rattle.std.proofs.lemmas.List.{take_all}
use Rattle.ec_text.proofs.AppendLemmas.{front_kept}
use Rattle.ec_text.proofs.buffer.Buffer.take_in_short.Goals as goal

pub returns-clause-taken : goal.returns-clause-taken
returns-clause-taken c = λ _.
    let place = c.self.inside.len + length c.args.before.now in
    let prefix = take c.self.inside.len c.self.inside.bytes in
    let text = take c.text.inside.len c.text.inside.bytes in
    let written = c.write_prefix.ensures.prefix ∙ ap (λ (t : List ℕ). take place c.write_at.new.table ++ t) (take_all 32 c.text.inside.bytes (omega (arith, c.text.invariant.1))) in
    front_kept 32 c.text.inside.len place c.write_at.new.table c.write_prefix.new.table c.text.inside.bytes written c.text.invariant.0 (omega (arith, c.write_at.ensures.len, c.self.invariant.1))
    ∙ ap (λ (t : List ℕ). t ++ text) c.write_at.ensures.prefix
    ∙ append_assoc prefix c.args.before.now text
    ∙ ap (λ (t : List ℕ). t ++ (c.args.before.now ++ text)) c.self.view_is
    ∙ ap (λ (t : List ℕ). c.args.self.now ++ (c.args.before.now ++ t)) c.text.view_is
