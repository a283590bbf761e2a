use Rattle.std.proofs.Common.{◌∙◌, ap, rules}
use Rattle.ec_heading.specs.HeadingModel.{HeadingModel}
use Rattle.ec_heading.specs.Recalled.{written_text}
use Rattle.ec_trace.proofs.TraceText.{text_found}
use Rattle.ec_trace.proofs.write.write_trace.Goals as goal

pub returns-clause-ok : goal.returns-clause-ok
returns-clause-ok g c = λ o is e.
    let entries = c.args.run.now.entries in
    let same = ap (λ (h : HeadingModel). written_text h.words h entries) e in
    let puts = rw (c.new-spellings.ensures ∙ c.words.ensures) at c.put_trace.ensures in
    let holds = (rw (← same, text_found o entries is) at puts) _ _ c.new-text.ensures.none in
    search (c.finish-done.ensures.same _ _ holds, c.finish-done.ensures.ok _ _ holds, rules)

pub returns-clause-err : goal.returns-clause-err
returns-clause-err g c = λ o is e.
    let entries = c.args.run.now.entries in
    let same = ap (λ (h : HeadingModel). written_text h.words h entries) e in
    let puts = rw (c.new-spellings.ensures ∙ c.words.ensures) at c.put_trace.ensures in
    let holds = (rw (← same, text_found o entries is) at puts) _ _ c.new-text.ensures.none in
    search (c.finish-done.ensures.same _ _ holds, c.finish-done.ensures.err _ _ holds, rules)
