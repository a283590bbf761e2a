use Rattle.std.proofs.Common.{◌∙◌, ap, List, ℕ, Option, None}
use Rattle.ec_explain.specs.HistoryLines.{opening_line}
use Rattle.ec_explain.specs.RelatedLine.{base_of, declares_object, last_in, lines_of, only_after}
use Rattle.ec_explain.specs.TextLines.{text_before_line}
use Rattle.ec_explain.proofs.related_line.object_line.Goals as goal

pub returns : goal.returns
returns c =
    let n = c.args.number in
    let text = c.args.text.now in
    let found = c.last_in-found.ensures
    ∙ ap (λ (b : List ℕ). last_in (declares_object c.base_of-name.result.now) 0 None (lines_of b))
    c.text_before_line-before.ensures
    ∙ ap (λ (w : List ℕ). last_in (declares_object w) 0 None (lines_of (text_before_line n text)))
    c.base_of-name.ensures in
    c.only_after.ensures
    ∙ ap (λ (m : ℕ). only_after m c.last_in-found.result) c.opening_line.ensures
    ∙ ap (λ (l : Option ℕ). only_after (opening_line n text) l) found
