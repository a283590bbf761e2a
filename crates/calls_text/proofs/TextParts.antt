-- The parts of a text: the lines that were read, and what is left.
use Rattle.std.proofs.Common.{◌≡◌, ℕ, ◌+◌, List, [], ◌∷◌, ◌++◌, length, Bool, true, false, cond}
use Rattle.std.proofs.Common.{eqb, Result, Ok, Err, refl, sym, ap, ◌∙◌, subst, arith, append_assoc}
use Rattle.std.specs.List.{All, AllByRecursion, join_with_byte, onto_first}
use Rattle.std.proofs.lemmas.List.Elements.{All-nil, All-cons}
use Rattle.std.proofs.lemmas.List.Splits.{slice_split_at, slice_split_none}
use Rattle.std.proofs.lemmas.List.Splits.{join_with_byte-slice_split}
use Rattle.ec_heading.specs.Spelling.{lines_text, ended_line}
use Rattle.calls_text.specs.declared.fault.FaultKind.{FaultKind}
use Rattle.calls_text.specs.declared.fault.FaultKind.TheVariants as kinds
use Rattle.calls_text.specs.Recordings.{RecordingModel}
use Rattle.calls_text.specs.Reading.{Stage, Opening, Limiting, Declaring, Running, Ended, step}
use Rattle.calls_text.specs.Reading.{is_ended}
use Rattle.calls_text.specs.Outcomes.{OneRead, ParseResult, lines_of_text, parse_from, after_line, parse_end, fault_in}
use Rattle.calls_text.specs.kept.Leading.{Leads}
use Rattle.ec_text.proofs.shared.WordLemmas.{onto_has}

-- JOINING AND SPLITTING

abbrev pub IsPart : List ℕ → Type 0
IsPart part = All (λ b. eqb b 10 ≡ false) part

onto_parts : (b : ℕ) (ps : List (List ℕ)) → eqb b 10 ≡ false → AllByRecursion IsPart ps
    → AllByRecursion IsPart (onto_first b ps)
onto_parts b [] apart all =
    (All-cons (λ x. eqb x 10 ≡ false) b [] apart (All-nil (λ x. eqb x 10 ≡ false)), tt)
onto_parts b (p ∷ ps) apart all = (All-cons (λ x. eqb x 10 ≡ false) b p apart all.0, all.1)

part_step : (t : Bool) (b : ℕ) (ps : List (List ℕ)) → eqb b 10 ≡ t → AllByRecursion IsPart ps
    → AllByRecursion IsPart (cond t ([] ∷ ps) (onto_first b ps))
part_step true b ps is all = (All-nil (λ x. eqb x 10 ≡ false), all)
part_step false b ps is all = onto_parts b ps is all

are_parts : (bytes : List ℕ) → AllByRecursion IsPart (lines_of_text bytes)
are_parts [] = (All-nil (λ x. eqb x 10 ≡ false), tt)
are_parts (b ∷ bytes) = part_step (eqb b 10) b (lines_of_text bytes) refl (are_parts bytes)

parts_join : (p : List ℕ) (ps : List (List ℕ)) → AllByRecursion IsPart (p ∷ ps)
    → lines_of_text (join_with_byte 10 (p ∷ ps)) ≡ p ∷ ps
parts_join p [] all = slice_split_none (λ b. eqb b 10) p all.0
parts_join p (q ∷ ps) all =
    slice_split_at (λ b. eqb b 10) p 10 (join_with_byte 10 (q ∷ ps)) all.0 refl
    ∙ ap (λ (r : List (List ℕ)). p ∷ r) (parts_join q ps all.1)

-- lines, each with its LF, and what is left
joined : (lines : List (List ℕ)) (p : List ℕ) (ps : List (List ℕ))
    → join_with_byte 10 (lines ++ p ∷ ps) ≡ lines_text lines ++ join_with_byte 10 (p ∷ ps)
joined [] p ps = refl
joined (line ∷ []) p ps =
    sym (append_assoc (ended_line line) [] (join_with_byte 10 (p ∷ ps))
    ∙ append_assoc line (10 ∷ []) (join_with_byte 10 (p ∷ ps)))
joined (line ∷ next ∷ lines) p ps =
    ap (λ (r : List ℕ). line ++ 10 ∷ r) (joined (next ∷ lines) p ps)
    ∙ sym (append_assoc (ended_line line) (lines_text (next ∷ lines)) (join_with_byte 10 (p ∷ ps))
    ∙ append_assoc line (10 ∷ []) (lines_text (next ∷ lines) ++ join_with_byte 10 (p ∷ ps)))

later_parts : (lines ps : List (List ℕ)) → AllByRecursion IsPart (lines ++ ps)
    → AllByRecursion IsPart ps
later_parts [] ps all = all
later_parts (line ∷ lines) ps all = later_parts lines ps all.1

earlier_parts : (lines ps : List (List ℕ)) → AllByRecursion IsPart (lines ++ ps)
    → AllByRecursion IsPart lines
earlier_parts [] ps all = tt
earlier_parts (line ∷ lines) ps all = (all.0, earlier_parts lines ps all.1)

-- bytes without an LF are one part
pub parts_alone : (part : List ℕ) → IsPart part → lines_of_text part ≡ part ∷ []
parts_alone part none = slice_split_none (λ b. eqb b 10) part none

pub parts_line : (line more : List ℕ) → IsPart line
    → lines_of_text (line ++ 10 ∷ more) ≡ line ∷ lines_of_text more
parts_line line more none = slice_split_at (λ b. eqb b 10) line 10 more none refl

-- the parts of bytes, joined, are the bytes
pub parts_joined : (bytes : List ℕ) → join_with_byte 10 (lines_of_text bytes) ≡ bytes
parts_joined bytes = join_with_byte-slice_split 10 bytes

-- WHAT WAS READ

-- lines that lead to the history, and what is left
pub record Reads (n : ℕ) (s : Stage) (parts : List (List ℕ)) (read : OneRead) : Type 0 where
  pub lines : List (List ℕ)
  pub first : List ℕ
  pub others : List (List ℕ)
  pub parts_are : parts ≡ lines ++ first ∷ others
  pub left : read.rest ≡ first ∷ others
  pub number : read.number ≡ n + length lines
  pub leads : Leads s lines (Ended read.recorded)

pub by_line : (n : ℕ) (s : Stage) (line next : List ℕ) (others : List (List ℕ)) → is_ended s ≡ false
    → parse_from n s (line ∷ next ∷ others)
    ≡ after_line n line (step s line) (λ t. parse_from (n + 1) t (next ∷ others))
unfolding parse_from is_ended
by_line n Opening line next others going = refl
by_line n Limiting line next others going = refl
by_line n (Declaring d) line next others going = refl
by_line n (Running r) line next others going = refl
by_line n (Ended r) line next others going = cc

pub by_rest : (n : ℕ) (s : Stage) (rest : List ℕ) → is_ended s ≡ false
    → parse_from n s (rest ∷ []) ≡ parse_end n s rest
unfolding parse_from is_ended
by_rest n Opening rest going = refl
by_rest n Limiting rest going = refl
by_rest n (Declaring d) rest going = refl
by_rest n (Running r) rest going = refl
by_rest n (Ended r) rest going = cc

was_taken : (n : ℕ) (line : List ℕ) (r : Result Stage FaultKind) (others : Stage → ParseResult)
    (read : OneRead) → after_line n line r others ≡ Ok read
    → (t : Stage) × (r ≡ Ok t) × (others t ≡ Ok read)
was_taken n line (Ok t) others read is = (t, refl, is)
was_taken n line (Err kind) others read is = cc

-- what stands after the last LF ends no history
pub not_at_end : (n : ℕ) (s : Stage) (rest : List ℕ) (read : OneRead) → parse_end n s rest ≡ Ok read
    → ⊥
not_at_end n s [] read is = cc
not_at_end n s (b ∷ bs) read is =
    let t = was_taken n (b ∷ bs) (step s (b ∷ bs)) (λ t. fault_in n kinds.Unfinished (b ∷ bs)) read
    is in
    let none : fault_in n kinds.Unfinished (b ∷ bs) ≡ Ok read = t.2 in
    cc

over : (n : ℕ) (r : RecordingModel) (first : List ℕ) (others : List (List ℕ)) (read : OneRead)
    → parse_from n (Ended r) (first ∷ others) ≡ Ok read → Reads n (Ended r) (first ∷ others) read
unfolding parse_from
over n r first others read is =
    let same : record { recorded = r; number = n; rest = first ∷ others } ≡ read = cc in
    subst (Reads n (Ended r) (first ∷ others)) same (record {
      lines = [];
      first = first;
      others = others;
      parts_are = refl;
      left = refl;
      number = omega arith;
      leads = refl;
    })

line_read : (n : ℕ) (s t : Stage) (line : List ℕ) (parts : List (List ℕ)) (read : OneRead)
    → step s line ≡ Ok t → Reads (n + 1) t parts read → Reads n s (line ∷ parts) read
line_read n s t line parts read is rest = record {
  lines = line ∷ rest.lines;
  first = rest.first;
  others = rest.others;
  parts_are = ap (λ (ps : List (List ℕ)). line ∷ ps) rest.parts_are;
  left = rest.left;
  number = omega (arith, rest.number);
  leads = (t, is, rest.leads);
}

-- a stage that has ended, or one that has not
ended_or_not : (P : Stage → Type 0) → ((r : RecordingModel) → P (Ended r))
    → ((s : Stage) → is_ended s ≡ false → P s) → (s : Stage) → P s
unfolding is_ended
ended_or_not P over_is open_is Opening = open_is Opening refl
ended_or_not P over_is open_is Limiting = open_is Limiting refl
ended_or_not P over_is open_is (Declaring d) = open_is (Declaring d) refl
ended_or_not P over_is open_is (Running r) = open_is (Running r) refl
ended_or_not P over_is open_is (Ended r) = over_is r

reads : (n : ℕ) (s : Stage) (first : List ℕ) (others : List (List ℕ)) (read : OneRead)
    → parse_from n s (first ∷ others) ≡ Ok read → Reads n s (first ∷ others) read
reads n s first [] read is =
    ended_or_not (λ t. parse_from n t (first ∷ []) ≡ Ok read → Reads n t (first ∷ []) read)
    (λ r e. over n r first [] read e)
    (λ t going e. absurd (not_at_end n t first read (sym (by_rest n t first going) ∙ e)))
    s is
reads n s line (next ∷ others) read is =
    ended_or_not (λ t. parse_from n t (line ∷ next ∷ others) ≡ Ok read
    → Reads n t (line ∷ next ∷ others) read)
    (λ r e. over n r line (next ∷ others) read e)
    (λ t going e. (let k =
    was_taken n line (step t line) (λ u. parse_from (n + 1) u (next ∷ others)) read
    (sym (by_line n t line next others going) ∙ e) in
    line_read n t k.0 line (next ∷ others) read k.1
    (reads (n + 1) k.0 next others read k.2)))
    s is

-- OF BYTES

pub record HasFirst (bytes : List ℕ) : Type 0 where
  pub first : List ℕ
  pub others : List (List ℕ)
  pub is : lines_of_text bytes ≡ first ∷ others

pub has_first : (bytes : List ℕ) → HasFirst bytes
has_first [] = record { first = []; others = []; is = refl }
has_first (b ∷ bytes) =
    let P : Bool → Type 0 =
    λ t. (first : List ℕ) × (others : List (List ℕ)) ×
    (cond t ([] ∷ lines_of_text bytes) (onto_first b (lines_of_text bytes)) ≡ first ∷ others) in
    let w : P (eqb b 10) = elim (eqb b 10) as P [
      | true ↦ ([], lines_of_text bytes, refl)
      | false ↦ onto_has b (lines_of_text bytes)
    ] in
    record { first = w.0; others = w.1; is = w.2 }

-- lines that lead to the history, each with its LF, and the bytes that are left
pub record IsRead (bytes : List ℕ) (n : ℕ) (s : Stage) (read : OneRead) : Type 0 where
  pub lines : List (List ℕ)
  pub rest : List ℕ
  pub text : bytes ≡ lines_text lines ++ rest
  pub left : read.rest ≡ lines_of_text rest
  pub number : read.number ≡ n + length lines
  pub each : AllByRecursion IsPart lines
  pub leads : Leads s lines (Ended read.recorded)

of_parts : (bytes : List ℕ) (n : ℕ) (s : Stage) (read : OneRead)
    → Reads n s (lines_of_text bytes) read
    → IsRead bytes n s read
of_parts bytes n s read r =
    let all : AllByRecursion IsPart (r.lines ++ r.first ∷ r.others) =
    subst (AllByRecursion IsPart) r.parts_are (are_parts bytes) in
    record {
      lines = r.lines;
      rest = join_with_byte 10 (r.first ∷ r.others);
      text = sym (join_with_byte-slice_split 10 bytes) ∙ ap (join_with_byte 10) r.parts_are
          ∙ joined r.lines r.first r.others;
      left = r.left ∙ sym (parts_join r.first r.others
          (later_parts r.lines (r.first ∷ r.others) all));
      number = r.number;
      each = earlier_parts r.lines (r.first ∷ r.others) all;
      leads = r.leads;
    }

pub is_read : (bytes : List ℕ) (n : ℕ) (s : Stage) (read : OneRead)
    → parse_from n s (lines_of_text bytes) ≡ Ok read → IsRead bytes n s read
is_read bytes n s read is =
    let f : HasFirst bytes = has_first bytes in
    of_parts bytes n s read (subst (λ (ps : List (List ℕ)). Reads n s ps read) (sym f.is)
    (reads n s f.first f.others read (ap (parse_from n s) (sym f.is) ∙ is)))
