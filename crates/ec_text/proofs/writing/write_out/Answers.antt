use Rattle.std.proofs.Common.{◌≡◌, ◌+◌, length, ap, arith, rules}
use Rattle.ec_text.proofs.AppendLemmas.{wrote_more, prefix_at, keeps_after}
use Rattle.ec_text.proofs.writing.write_out.Goals as goal

pub returns-in-Ok-eq0-clause-err : goal.returns-in-Ok-eq0-clause-err
returns-in-Ok-eq0-clause-err g c =
    let i = c.loop-done.invariant in
    prefix_at _ _ c.args.bytes.now (c.loop-done.done + c.in-Ok-eq0.field-0) (search rules)
    (wrote_more _ (g.W.Write.contents c.loop-done.writer) _ c.args.bytes.now c.loop-done.done c.in-Ok-eq0.field-0 i.within i.wrote c.in-Ok-eq0.ensures.bytes)

pub loop-done-preserved : goal.loop-done-preserved
loop-done-preserved g c =
    let i = c.loop-done.invariant in record {
      within = search rules;
      wrote = wrote_more _ (g.W.Write.contents c.loop-done.writer) _ c.args.bytes.now c.loop-done.done c.in-Ok.n i.within i.wrote c.in-Ok.ensures.bytes;
      untouched = search rules;
    }

pub returns-in-Err-clause-err : goal.returns-in-Err-clause-err
returns-in-Err-clause-err g c =
    prefix_at _ _ c.args.bytes.now c.loop-done.done (search rules) (keeps_after _ (g.W.Write.contents c.loop-done.writer) _ _ c.loop-done.invariant.wrote c.in-Err.ensures.bytes)

pub returns-clause-nothing : goal.returns-clause-nothing
returns-clause-nothing g c = λ none.
    let zero : c.loop-done.done ≡ 0 = omega (arith, c.loop-done.invariant.within, ap length none) in
    (search rules, c.loop-done.invariant.untouched zero)
