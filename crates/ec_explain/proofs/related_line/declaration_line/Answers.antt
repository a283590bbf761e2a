use Rattle.std.proofs.Common.{◌∙◌, ap, List, ℕ, None}
use Rattle.ec_explain.specs.RelatedLine.{base_of, declares, last_in, lines_of}
use Rattle.ec_explain.specs.Places.{word_at}
use Rattle.ec_explain.specs.TextLines.{text_before_line}
use Rattle.ec_explain.proofs.related_line.declaration_line.Goals as goal

pub returns : goal.returns
returns c =
    c.last_in.ensures
    ∙ ap (λ (b : List ℕ). last_in (declares c.base_of-name.result.now) 0 None (lines_of b))
    c.text_before_line.ensures
    ∙ ap (λ (w : List ℕ).
    last_in (declares w) 0 None (lines_of (text_before_line c.args.number c.args.text.now)))
    (c.base_of-name.ensures
    ∙ ap base_of (c.word_at.ensures ∙ ap (λ (l : List ℕ). word_at 2 l) c.line_at.ensures))
