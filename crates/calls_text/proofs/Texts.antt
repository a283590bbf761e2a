-- A history is read from its own text.
use Rattle.std.proofs.Common.{◌≡◌, ℕ, ◌+◌, sym, List, ◌++◌, length, ap, ◌∙◌}
use Rattle.std.specs.List.{join_with_byte}
use Rattle.ec_heading.specs.Spelling.{lines_text}
use Rattle.calls_text.specs.Reading.{Opening}
use Rattle.calls_text.specs.Outcomes.{OneRead}
use Rattle.calls_text.specs.Grammar.{history_lines, history_text}
use Rattle.calls_text.specs.Laws.{IsSpelled, ReadIsSpelled}
use Rattle.calls_text.proofs.TextParts.{IsRead, is_read, parts_joined}
use Rattle.calls_text.proofs.Histories.{IsHistory, history_back}

spelled : (bytes : List ℕ) (n : ℕ) (read : OneRead) → IsRead bytes n Opening read
    → IsSpelled bytes n read
unfolding history_text
spelled bytes n read r =
    let h : IsHistory r.lines read.recorded = history_back r.lines read.recorded r.leads in
    let same : r.lines ≡ history_lines read.recorded = h.spelled in
    record {
      keeps = h.keeps;
      rest = r.rest;
      text = r.text ∙ ap (λ (ls : List (List ℕ)). lines_text ls ++ r.rest) same;
      left = r.left;
      same = λ others is. sym (parts_joined others) ∙ ap (join_with_byte 10) (sym is ∙ r.left)
          ∙ parts_joined r.rest;
      number = r.number ∙ ap (λ (ls : List (List ℕ)). n + length ls) same;
    }

pub read_is_spelled : ReadIsSpelled
read_is_spelled bytes n read is = spelled bytes n read (is_read bytes n Opening read is)
