use Rattle.std.proofs.Common.{◌∙◌, ap, List, ℕ, None}
use Rattle.ec_explain.specs.RelatedLine.{hands_by, last_in, lines_of}
use Rattle.ec_explain.specs.Places.{word_at}
use Rattle.ec_explain.specs.TextLines.{text_before_line, line_at}
use Rattle.ec_explain.proofs.related_line.hand_line.Goals as goal

pub returns : goal.returns
returns c =
    let n = c.args.number in
    let text = c.args.text.now in
    let other = c.word_at-name.result.now in
    c.last_in.ensures
    ∙ ap (λ (b : List ℕ). last_in (hands_by c.word_at-worker.result.now other) 0 None (lines_of b))
    c.text_before_line-before.ensures
    ∙ ap (λ (w : List ℕ). last_in (hands_by w other) 0 None (lines_of (text_before_line n text)))
    (c.word_at-worker.ensures ∙ ap (λ (l : List ℕ). word_at 0 l) c.line_at-line.ensures)
    ∙ ap (λ (w : List ℕ). last_in (hands_by (word_at 0 (line_at n text)) w) 0 None
    (lines_of (text_before_line n text)))
    (c.word_at-name.ensures ∙ ap (λ (l : List ℕ). word_at 2 l) c.line_at-line.ensures)
