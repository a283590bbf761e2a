use Rattle.std.proofs.Common.{◌≤◌, ◌+◌, length, reverse, take, sym, subst, arith}
use Rattle.ec_text.specs.Puts.{Puts}
use Rattle.ec_heading.specs.Spelling.{NameTable, lines_text}
use Rattle.evc_engine.specs.Texts.{totals_by}
use Rattle.evc_engine.proofs.shared.TotalLemmas.{totals_put, totals_all, none_at}
use Rattle.evc_engine.proofs.totals.put_totals.Goals.{in-Some, in_default}
use Rattle.evc_engine.proofs.totals.put_totals.Goals as goal

pub loop-place-preserved : goal.loop-place-preserved
loop-place-preserved g c = λ h st.
    let words = c.words-words.result.now in
    let k = c.loop-place.place in
    elim c.match-at.branch [
      | in-Some w ↦ subst (λ o. Puts c.args.out.now o (lines_text (totals_by (reverse h) (take (k + 1) words)))) (sym w.out-is)
          (totals_put _ _ _ (reverse h) words k _ (sym (rw w.in-Some.is at c.at.ensures)) (c.loop-place.invariant h st) (w.put_target.ensures h st))
      | in_default w ↦ subst (λ o. Puts c.args.out.now o (lines_text (totals_by (reverse h) (take (k + 1) words)))) (sym w.out-is)
          (subst (λ (ws : NameTable). Puts c.args.out.now c.loop-place.out (lines_text (totals_by (reverse h) ws))) (sym (none_at words k (sym (rw w.in_default.is at c.at.ensures)))) (c.loop-place.invariant h st))
    ]

pub returns : goal.returns
returns g c = λ h st.
    let far : length c.words-words.result.now ≤ c.loop-place.place = omega (arith, c.len-place-end.ensures, c.loop-place-test.false) in
    totals_all _ _ (reverse h) c.words-words.result.now c.loop-place.place c.args.heading.now far c.words-words.ensures (c.loop-place.invariant h st)
