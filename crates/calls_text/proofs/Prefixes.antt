-- A history is read from its text, and from no proper prefix of it.
use Rattle.std.proofs.Common.{◌≡◌, ◌≢◌, ◌⊎◌, inl, inr, ℕ, ◌+◌, List, [], ◌∷◌, ◌++◌, length, false}
use Rattle.std.proofs.Common.{eqb, Result, Ok, Err, refl, sym, ap, ap₂, ◌∙◌, subst, arith}
use Rattle.std.proofs.Common.{append_assoc, length-append}
use Rattle.std.specs.Prelude.{count_by}
use Rattle.std.specs.List.{AllByRecursion, join_with_byte}
use Rattle.std.proofs.lemmas.List.Splits.{length-slice_split}
use Rattle.std.proofs.lemmas.List.Elements.{recursion_from_All, All-from_recursion}
use Rattle.ec_heading.specs.Spelling.{lines_text, ended_line}
use Rattle.calls_text.specs.declared.fault.FaultKind.{FaultKind}
use Rattle.calls_text.specs.declared.fault.FaultKind.TheVariants as kinds
use Rattle.calls_text.specs.Recordings.{RecordingModel}
use Rattle.calls_text.specs.Reading.{Stage, Opening, Limiting, Declaring, Running, Ended, step}
use Rattle.calls_text.specs.Reading.{is_ended}
use Rattle.calls_text.specs.Outcomes.{OneRead, ParseResult, lines_of_text, parse_from, after_line, parse_end, fault_in}
use Rattle.calls_text.specs.Grammar.{history_lines, history_text}
use Rattle.calls_text.specs.kept.Leading.{Leads}
use Rattle.calls_text.specs.Laws.{SpelledIsRead, TextsArePrefixFree, PrefixIsRefused}
use Rattle.calls_text.specs.Rules.{KeepsRules}
use Rattle.calls_text.proofs.Rules.{Lead, all_taken}
use Rattle.calls_text.proofs.TextParts.{IsPart, parts_alone, parts_line, parts_joined, by_line}
use Rattle.calls_text.proofs.TextParts.{by_rest, HasFirst, has_first}
use Rattle.calls_text.proofs.Histories.{lines_back}

-- LINES THAT ARE READ

-- a stage that takes a line is not over
pub is_open : (s t : Stage) (line : List ℕ) → step s line ≡ Ok t → is_ended s ≡ false
unfolding step is_ended
is_open Opening t line is = refl
is_open Limiting t line is = refl
is_open (Declaring d) t line is = refl
is_open (Running r) t line is = refl
is_open (Ended r) t line is = cc

goes_line : (n : ℕ) (s t : Stage) (line more : List ℕ) → IsPart line → step s line ≡ Ok t
    → parse_from n s (lines_of_text (line ++ 10 ∷ more)) ≡ parse_from (n + 1) t (lines_of_text more)
goes_line n s t line more part is =
    let f : HasFirst more = has_first more in
    ap (parse_from n s) (parts_line line more part ∙ ap (λ (ps : List (List ℕ)). line ∷ ps) f.is)
    ∙ by_line n s line f.first f.others (is_open s t line is)
    ∙ ap (λ r. after_line n line r (λ u. parse_from (n + 1) u (f.first ∷ f.others))) is
    ∙ ap (parse_from (n + 1) t) (sym f.is)

-- lines that lead to a stage are read, whatever follows
pub goes_lines : (n : ℕ) (s t : Stage) (lines : List (List ℕ)) (more : List ℕ)
    → AllByRecursion IsPart lines → Leads s lines t
    → parse_from n s (lines_of_text (lines_text lines ++ more))
    ≡ parse_from (n + length lines) t (lines_of_text more)
goes_lines n s t [] more each leads =
    ap (λ (k : ℕ). parse_from k s (lines_of_text more)) (omega arith)
    ∙ ap (λ (k : Stage). parse_from (n + 0) k (lines_of_text more)) leads
goes_lines n s t (line ∷ lines) more each (next, is, leads) =
    let grouped : (ended_line line ++ lines_text lines) ++ more
    ≡ line ++ 10 ∷ (lines_text lines ++ more) =
    append_assoc (ended_line line) (lines_text lines) more
    ∙ append_assoc line (10 ∷ []) (lines_text lines ++ more) in
    let count : n + 1 + length lines ≡ n + length (line ∷ lines) = omega arith in
    ap (λ (bytes : List ℕ). parse_from n s (lines_of_text bytes)) grouped
    ∙ goes_line n s next line (lines_text lines ++ more) each.0 is
    ∙ goes_lines (n + 1) next t lines more each.1 leads
    ∙ ap (λ (k : ℕ). parse_from k t (lines_of_text more)) count

pub goes_ended : (n : ℕ) (r : RecordingModel) (parts : List (List ℕ))
    → parse_from n (Ended r) parts ≡ Ok (record { recorded = r; number = n; rest = parts })
unfolding parse_from
goes_ended n r parts = refl

-- its lines lead to the history, and have no LF
pub record IsLed (r : RecordingModel) : Type 0 where
  pub each : AllByRecursion IsPart (history_lines r)
  pub leads : Leads Opening (history_lines r) (Ended r)

led_by : (r : RecordingModel) (lines : List (List ℕ)) → lines ≡ history_lines r
    → AllByRecursion IsPart lines → Leads Opening lines (Ended r) → IsLed r
led_by r lines same each leads = record {
  each = subst (AllByRecursion IsPart) same each;
  leads = subst (λ (ls : List (List ℕ)). Leads Opening ls (Ended r)) same leads;
}

pub is_led : (r : RecordingModel) → KeepsRules r → IsLed r
is_led r keeps =
    let l : Lead Opening (Ended r) = all_taken r keeps in
    led_by r l.lines (lines_back l.lines r l.taken.leads) l.taken.each l.taken.leads

-- THE TEXT OF A HISTORY IS READ

pub led_is_read : (r : RecordingModel) (n : ℕ) (rest : List ℕ) → IsLed r
    → parse_from n Opening (lines_of_text (history_text r ++ rest))
    ≡ Ok (record { recorded = r; number = n + length (history_lines r); rest = lines_of_text rest })
unfolding history_text
led_is_read r n rest led =
    goes_lines n Opening (Ended r) (history_lines r) rest led.each led.leads
    ∙ goes_ended (n + length (history_lines r)) r (lines_of_text rest)

pub spelled_is_read : SpelledIsRead
spelled_is_read r n rest keeps = led_is_read r n rest (is_led r keeps)

-- NO TEXT IS A PROPER PREFIX OF ANOTHER

one_read : (r s : RecordingModel) (m n : ℕ) (x y : List (List ℕ))
    → ◌≡◌ {A = ParseResult} (Ok (record { recorded = r; number = m; rest = x }))
    (Ok (record { recorded = s; number = n; rest = y })) → (r ≡ s) × (x ≡ y)
one_read r s m n x y is =
    let same : record { recorded = r; number = m; rest = x }
    ≡ record { recorded = s; number = n; rest = y } = cc in
    (ap (λ (o : OneRead). o.recorded) same, ap (λ (o : OneRead). o.rest) same)

pub texts_are_prefix_free : TextsArePrefixFree
texts_are_prefix_free r s x y one other same =
    let both = one_read r s (1 + length (history_lines r)) (1 + length (history_lines s))
    (lines_of_text x) (lines_of_text y)
    (sym (spelled_is_read r 1 x one)
    ∙ ap (λ (bytes : List ℕ). parse_from 1 Opening (lines_of_text bytes)) same
    ∙ spelled_is_read s 1 y other) in
    (both.0, sym (parts_joined x) ∙ ap (join_with_byte 10) both.1 ∙ parts_joined y)

-- WHERE A TEXT IS CUT

-- of two prefixes of one list, one is a prefix of the other
append_cases : (xs ys zs ws : List ℕ) → xs ++ ys ≡ zs ++ ws
    → ((t : List ℕ) × (zs ≡ xs ++ t) × (ys ≡ t ++ ws))
    ⊎ ((t : List ℕ) × (xs ≡ zs ++ t) × (ws ≡ t ++ ys) × (t ≢ []))
append_cases [] ys zs ws is = inl (zs, refl, is)
append_cases (x ∷ xs) ys [] ws is = inr (x ∷ xs, refl, sym is, λ none. (cc))
append_cases (x ∷ xs) ys (z ∷ zs) ws is =
    let head : x ≡ z = cc in
    let tail : xs ++ ys ≡ zs ++ ws = cc in
    elim (append_cases xs ys zs ws tail) [
      | inl longer ↦
          inl (longer.0, ap₂ (λ (a : ℕ) (bs : List ℕ). a ∷ bs) (sym head) longer.1, longer.2)
      | inr shorter ↦
          inr (
            shorter.0,
            ap₂ (λ (a : ℕ) (bs : List ℕ). a ∷ bs) head shorter.1,
            shorter.2,
            shorter.3,
          )
    ]

-- a proper prefix of a line with its LF is a prefix of the line
short_of : (line prefix t : List ℕ) → line ++ 10 ∷ [] ≡ prefix ++ t → t ≢ []
    → (tail : List ℕ) × (line ≡ prefix ++ tail)
short_of line [] t is some = (line, refl)
short_of [] (b ∷ []) t is some = absurd (some (cc))
short_of [] (b ∷ c ∷ prefix) t is some = cc
short_of (a ∷ line) (b ∷ prefix) t is some =
    let head : a ≡ b = cc in
    let tail : line ++ 10 ∷ [] ≡ prefix ++ t = cc in
    let k = short_of line prefix t tail some in
    (k.0, ap₂ (λ (x : ℕ) (xs : List ℕ). x ∷ xs) head k.1)

-- whole lines, and a prefix of the next one
record IsCut (lines : List (List ℕ)) (prefix : List ℕ) : Type 0 where
  whole : List (List ℕ)
  line : List ℕ
  others : List (List ℕ)
  part : List ℕ
  tail : List ℕ
  are : lines ≡ whole ++ line ∷ others
  text : prefix ≡ lines_text whole ++ part
  begins : line ≡ part ++ tail

cut_after : (line : List ℕ) (lines : List (List ℕ)) (prefix t : List ℕ)
    → prefix ≡ ended_line line ++ t → IsCut lines t → IsCut (line ∷ lines) prefix
cut_after line lines prefix t is c = record {
  whole = line ∷ c.whole;
  line = c.line;
  others = c.others;
  part = c.part;
  tail = c.tail;
  are = ap (λ (ls : List (List ℕ)). line ∷ ls) c.are;
  text = is ∙ ap (λ (bytes : List ℕ). ended_line line ++ bytes) c.text
      ∙ sym (append_assoc (ended_line line) (lines_text c.whole) c.part);
  begins = c.begins;
}

cut : (lines : List (List ℕ)) (prefix more : List ℕ) → lines_text lines ≡ prefix ++ more → more ≢ []
    → IsCut lines prefix
cut [] [] more is some = absurd (some (sym is))
cut [] (b ∷ prefix) more is some = cc
cut (line ∷ lines) prefix more is some =
    elim (append_cases (ended_line line) (lines_text lines) prefix more is) [
      | inl longer ↦
          cut_after line lines prefix longer.0 longer.1 (cut lines longer.0 more longer.2 some)
      | inr shorter ↦
          (let k = short_of line prefix shorter.0 shorter.1 shorter.3 in
          record {
            whole = [];
            line = line;
            others = lines;
            part = prefix;
            tail = k.0;
            are = refl;
            text = refl;
            begins = k.1;
          })
    ]

-- THE FAULT OF A PREFIX

lead_parts : (s u : Stage) (xs ys : List (List ℕ)) → Leads s (xs ++ ys) u
    → (t : Stage) × Leads s xs t × Leads t ys u
lead_parts s u [] ys leads = (s, refl, leads)
lead_parts s u (x ∷ xs) ys (next, is, leads) =
    let k = lead_parts next u xs ys leads in
    (k.0, (next, is, k.1), k.2)

part_front : (xs ys : List ℕ) → AllByRecursion (λ b. eqb b 10 ≡ false) (xs ++ ys)
    → AllByRecursion (λ b. eqb b 10 ≡ false) xs
part_front [] ys all = tt
part_front (x ∷ xs) ys all = (all.0, part_front xs ys all.1)

part_begins : (line part tail : List ℕ) → line ≡ part ++ tail → IsPart line → IsPart part
part_begins line part tail is all =
    All-from_recursion (λ b. eqb b 10 ≡ false) part
    (part_front part tail (subst (AllByRecursion (λ b. eqb b 10 ≡ false)) is
    (recursion_from_All (λ b. eqb b 10 ≡ false) line all)))

each_front : (xs ys : List (List ℕ)) → AllByRecursion IsPart (xs ++ ys) → AllByRecursion IsPart xs
each_front [] ys all = tt
each_front (x ∷ xs) ys all = (all.0, each_front xs ys all.1)

each_there : (xs : List (List ℕ)) (y : List ℕ) (ys : List (List ℕ))
    → AllByRecursion IsPart (xs ++ y ∷ ys) → IsPart y
each_there [] y ys all = all.0
each_there (x ∷ xs) y ys all = each_there xs y ys all.1

-- the bytes after the last LF are at fault, as unfinished if there are none
taken_refused : (n : ℕ) (line : List ℕ) (r : Result Stage FaultKind)
    → (kind : FaultKind)
    × (after_line n line r (λ t. fault_in n kinds.Unfinished line) ≡ fault_in n kind line)
taken_refused n line (Ok t) = (kinds.Unfinished, refl)
taken_refused n line (Err kind) = (kind, refl)

end_refused : (n : ℕ) (s : Stage) (part : List ℕ)
    → (kind : FaultKind) × (parse_end n s part ≡ fault_in n kind part)
    × (part ≡ [] → kind ≡ kinds.Unfinished)
end_refused n s [] = (kinds.Unfinished, refl, λ none. refl)
end_refused n s (b ∷ bs) =
    let k = taken_refused n (b ∷ bs) (step s (b ∷ bs)) in
    (k.0, k.1, λ none. (cc))

-- LFS

parts_lines : (lines : List (List ℕ)) (part : List ℕ) → AllByRecursion IsPart lines → IsPart part
    → lines_of_text (lines_text lines ++ part) ≡ lines ++ part ∷ []
parts_lines [] part each none = parts_alone part none
parts_lines (line ∷ lines) part each none =
    ap lines_of_text (append_assoc (ended_line line) (lines_text lines) part
    ∙ append_assoc line (10 ∷ []) (lines_text lines ++ part))
    ∙ parts_line line (lines_text lines ++ part) each.0
    ∙ ap (λ (ps : List (List ℕ)). line ∷ ps) (parts_lines lines part each.1 none)

lfs : (lines : List (List ℕ)) (part : List ℕ) → AllByRecursion IsPart lines → IsPart part
    → count_by (λ b. eqb b 10) (lines_text lines ++ part) ≡ length lines
lfs lines part each none =
    omega (
      arith,
      length-slice_split (λ b. eqb b 10) (lines_text lines ++ part),
      ap length (parts_lines lines part each none),
      length-append lines (part ∷ []),
    )

-- A PROPER PREFIX

cut_refused : (n : ℕ) (s t : Stage) (prefix line : List ℕ) (whole others : List (List ℕ))
    (part tail : List ℕ) (u : Stage) → prefix ≡ lines_text whole ++ part → line ≡ part ++ tail
    → AllByRecursion IsPart (whole ++ line ∷ others) → Leads s whole t → step t line ≡ Ok u
    → (kind : FaultKind)
    × (parse_from n s (lines_of_text prefix)
    ≡ fault_in (n + count_by (λ b. eqb b 10) prefix) kind part)
    × (part ≡ [] → kind ≡ kinds.Unfinished)
cut_refused n s t prefix line whole others part tail u text begins each leads is =
    let before : AllByRecursion IsPart whole = each_front whole (line ∷ others) each in
    let none : IsPart part =
    part_begins line part tail begins (each_there whole line others each) in
    let e = end_refused (n + length whole) t part in
    let count : length whole ≡ count_by (λ b. eqb b 10) prefix =
    sym (lfs whole part before none) ∙ ap (count_by (λ b. eqb b 10)) (sym text) in
    let reads : parse_from n s (lines_of_text prefix) ≡ fault_in (n + length whole) e.0 part =
    ap (λ (bytes : List ℕ). parse_from n s (lines_of_text bytes)) text
    ∙ goes_lines n s t whole part before leads
    ∙ ap (parse_from (n + length whole) t) (parts_alone part none)
    ∙ by_rest (n + length whole) t part (is_open t u line is) ∙ e.1 in
    (e.0, reads ∙ ap (λ (k : ℕ). fault_in (n + k) e.0 part) count, e.2)

pub prefix_is_refused : PrefixIsRefused
unfolding history_text
prefix_is_refused r n prefix more keeps is some =
    let led : IsLed r = is_led r keeps in
    let c : IsCut (history_lines r) prefix = cut (history_lines r) prefix more is some in
    let k = lead_parts Opening (Ended r) c.whole (c.line ∷ c.others)
    (subst (λ (ls : List (List ℕ)). Leads Opening ls (Ended r)) c.are led.leads) in
    let f = cut_refused n Opening k.0 prefix c.line c.whole c.others c.part c.tail k.2.0 c.text
    c.begins (subst (AllByRecursion IsPart) c.are led.each) k.1 k.2.1 in
    record {
      line = c.part;
      kind = f.0;
      refused = f.1;
      ends = (lines_text c.whole, c.text);
      whole = f.2;
    }
