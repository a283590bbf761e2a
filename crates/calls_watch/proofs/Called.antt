-- Where in a text a cell, a database or a buffer is called.
use Rattle.std.proofs.Common.{◌≡◌, ◌≤◌, ℕ, ◌+◌, List, [], ◌∷◌, ◌++◌, length}
use Rattle.std.proofs.Common.{Ok, refl, ap, sym, ◌∙◌, subst, arith, append_assoc, length-append}
use Rattle.std.specs.List.{AllByRecursion, join_with_byte}
use Rattle.std.proofs.lemmas.List.Concat.{flat_map-append}
use Rattle.ec_heading.specs.Spelling.{lines_text, ended_line}
use Rattle.calls_text.specs.Recordings.{RecordingModel}
use Rattle.calls_text.specs.Reading.{Stage, Opening, Ended}
use Rattle.calls_text.specs.Outcomes.{OneRead, parse_from, lines_of_text}
use Rattle.calls_text.specs.Following.{IsReached}
use Rattle.calls_text.proofs.TextParts.{IsPart, parts_line, parts_joined, is_read, IsRead, has_first, HasFirst}
use Rattle.calls_watch.specs.Watches.{HasCalls}
use Rattle.calls_watch.specs.Laws.{AreRead}

-- WHAT IS LEFT OF A TEXT

-- these parts are those of bytes, which are no more than so many
pub record AreLeft (qs : List (List ℕ)) (most : ℕ) : Type 0 where
  pub bytes : List ℕ
  pub are : qs ≡ lines_of_text bytes
  pub within : length bytes ≤ most

within_rest : (lines rest bytes : List ℕ) (most : ℕ) → bytes ≡ lines ++ rest → length bytes ≤ most
    → length rest ≤ most
within_rest lines rest bytes most is within =
    let a : length bytes ≡ length lines + length rest = ap length is ∙ length-append lines rest in
    omega (arith, a, within)

left_of_one : (n : ℕ) (ps : List (List ℕ)) (most : ℕ) (o : OneRead) → AreLeft ps most
    → parse_from n Opening ps ≡ Ok o → AreLeft o.rest most
left_of_one n ps most o left is =
    let read : IsRead left.bytes n Opening o =
    is_read left.bytes n Opening o (ap (parse_from n Opening) (sym left.are) ∙ is) in
    record {
      bytes = read.rest;
      are = read.left;
      within = within_rest (lines_text read.lines) read.rest left.bytes most read.text left.within;
    }

left_of : (n : ℕ) (ps : List (List ℕ)) (reads : List OneRead) (m : ℕ) (qs : List (List ℕ))
    (most : ℕ) → AreLeft ps most → AreRead n ps reads m qs → AreLeft qs most
left_of n ps [] m qs most left are = subst (λ (k : List (List ℕ)). AreLeft k most) are.1 left
left_of n ps (r ∷ reads) m qs most left are =
    left_of r.number r.rest reads m qs most (left_of_one n ps most r left are.0) are.1

pub left_in : (text : List ℕ) (reads : List OneRead) (m : ℕ) (qs : List (List ℕ))
    → AreRead 1 (lines_of_text text) reads m qs → AreLeft qs (length text)
left_in text reads m qs are =
    left_of 1 (lines_of_text text) reads m qs (length text)
    (record { bytes = text; are = refl; within = omega arith }) are

-- A WHOLE HISTORY

parts_apart : (lines : List (List ℕ)) (more : List ℕ) → AllByRecursion IsPart lines
    → lines_of_text (lines_text lines ++ more) ≡ lines ++ lines_of_text more
parts_apart [] more each = refl
parts_apart (line ∷ lines) more each =
    ap lines_of_text (append_assoc (ended_line line) (lines_text lines) more
    ∙ append_assoc line (10 ∷ []) (lines_text lines ++ more))
    ∙ parts_line line (lines_text lines ++ more) each.0
    ∙ ap (λ (ls : List (List ℕ)). line ∷ ls) (parts_apart lines more each.1)

pub whole_has_calls : (These : RecordingModel → Type 0) (text : List ℕ) (reads : List OneRead) (m : ℕ) (qs : List (List ℕ))
    (o : OneRead) → AreRead 1 (lines_of_text text) reads m qs → parse_from m Opening qs ≡ Ok o
    → These o.recorded → HasCalls These m qs
whole_has_calls These text reads m qs o are is calls =
    let left : AreLeft qs (length text) = left_in text reads m qs are in
    let read : IsRead left.bytes m Opening o =
    is_read left.bytes m Opening o (ap (parse_from m Opening) (sym left.are) ∙ is) in
    let f : HasFirst read.rest = has_first read.rest in
    record {
      stage = Ended o.recorded;
      number = o.number;
      next = f.first;
      left = f.others;
      reached = record {
        lines = read.lines;
        are = left.are ∙ ap lines_of_text read.text ∙ parts_apart read.lines read.rest read.each
            ∙ ap (λ (ls : List (List ℕ)). read.lines ++ ls) f.is;
        leads = read.leads;
        number = read.number;
      };
      recorded = o.recorded;
      is = refl;
      calls = calls;
    }

-- HOW LONG LINES ARE

joined_length : (p : List ℕ) (ps : List (List ℕ))
    → length (lines_text (p ∷ ps)) ≡ length (join_with_byte 10 (p ∷ ps)) + 1
joined_length p [] =
    let a : length (lines_text (p ∷ [])) ≡ length (ended_line p) + 0 =
    length-append (ended_line p) [] in
    let b : length (ended_line p) ≡ length p + 1 = length-append p (10 ∷ []) in
    let c : length (join_with_byte 10 (p ∷ [])) ≡ length p = refl in
    omega (arith, a, b, c)
joined_length p (q ∷ ps) =
    let a : length (lines_text (p ∷ q ∷ ps)) ≡ length (ended_line p) + length (lines_text (q ∷ ps)) =
    length-append (ended_line p) (lines_text (q ∷ ps)) in
    let b : length (ended_line p) ≡ length p + 1 = length-append p (10 ∷ []) in
    let rest : List ℕ = join_with_byte 10 (q ∷ ps) in
    let c : length (join_with_byte 10 (p ∷ q ∷ ps)) ≡ length p + length (10 ∷ rest) =
    length-append p (10 ∷ rest) in
    let d : length (10 ∷ rest) ≡ length rest + 1 = omega arith in
    let e : length (lines_text (q ∷ ps)) ≡ length rest + 1 = joined_length q ps in
    omega (arith, a, b, c, d, e)

parts_length : (bytes : List ℕ) → length (lines_text (lines_of_text bytes)) ≡ length bytes + 1
parts_length bytes =
    let f : HasFirst bytes = has_first bytes in
    ap (λ (ps : List (List ℕ)). length (lines_text ps)) f.is ∙ joined_length f.first f.others
    ∙ ap (λ (ps : List (List ℕ)). length (join_with_byte 10 ps) + 1) (sym f.is)
    ∙ ap (λ (bs : List ℕ). length bs + 1) (parts_joined bytes)

-- the lines that were read have no more bytes than the text
pub lines_within : (text : List ℕ) (reads : List OneRead) (m : ℕ) (qs : List (List ℕ)) (s : Stage)
    (k : ℕ) (next : List ℕ) (rest : List (List ℕ)) → AreRead 1 (lines_of_text text) reads m qs
    → (at : IsReached m qs s k (next ∷ rest)) → length (lines_text at.lines) ≤ length text
lines_within text reads m qs s k next rest are at =
    let left : AreLeft qs (length text) = left_in text reads m qs are in
    let all : lines_of_text left.bytes ≡ at.lines ++ next ∷ rest = sym left.are ∙ at.are in
    let whole : length (lines_text (at.lines ++ next ∷ rest)) ≡ length left.bytes + 1 =
    sym (ap (λ (ps : List (List ℕ)). length (lines_text ps)) all) ∙ parts_length left.bytes in
    let apart : length (lines_text (at.lines ++ next ∷ rest))
    ≡ length (lines_text at.lines) + length (lines_text (next ∷ rest)) =
    ap length (flat_map-append ended_line at.lines (next ∷ rest))
    ∙ length-append (lines_text at.lines) (lines_text (next ∷ rest)) in
    let one : length (lines_text (next ∷ rest)) ≡ length (ended_line next) + length (lines_text rest) =
    length-append (ended_line next) (lines_text rest) in
    let lf : length (ended_line next) ≡ length next + 1 = length-append next (10 ∷ []) in
    let within : length left.bytes ≤ length text = left.within in
    omega (arith, whole, apart, one, lf, within)
