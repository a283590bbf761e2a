use Rattle.std.proofs.Common.{◌≤◌, length, arith, rules}
use Rattle.calls_report.proofs.TotalLemmas.{word_put, words_put}
use Rattle.calls_report.proofs.totals.Totals.put.Goals as goal

pub loop-place-preserved : goal.loop-place-preserved
loop-place-preserved g c = λ order are.
    word_put _ _ _ c.args.self.now.recording.now order c.words-words.result.now c.loop-place.place
    (c.loop-place.invariant order are) (c.put_place.ensures order are)

pub returns : goal.returns
returns g c = λ order are.
    let far : length c.words-words.result.now ≤ c.loop-place.place =
    omega (arith, c.len-place-end.ensures, c.loop-place-test.false) in
    words_put _ _ c.args.self.now.recording.now order c.words-words.result.now c.loop-place.place
    far (search rules) (c.loop-place.invariant order are)
