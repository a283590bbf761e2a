use Rattle.std.proofs.Common.{◌∙◌, rules}
use Rattle.calls_extract.proofs.writing.write_calls.Goals as goal

pub returns-clause-ok : goal.returns-clause-ok
returns-clause-ok g c = λ o is e.
    let puts = c.put_history.ensures o is e (c.new-spellings.ensures ∙ c.words.ensures) in
    let holds = puts _ _ c.new-text.ensures.none in
    search (c.finish-done.ensures.same _ _ holds, c.finish-done.ensures.ok _ _ holds, rules)

pub returns-clause-err : goal.returns-clause-err
returns-clause-err g c = λ o is e.
    let puts = c.put_history.ensures o is e (c.new-spellings.ensures ∙ c.words.ensures) in
    let holds = puts _ _ c.new-text.ensures.none in
    search (c.finish-done.ensures.same _ _ holds, c.finish-done.ensures.err _ _ holds, rules)
