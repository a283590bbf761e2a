-- How reading goes on from the line in progress.
use Rattle.std.proofs.Common.{◌≡◌, ◌≢◌, ℕ, ◌+◌, ◌<◌, ◌≤◌, List, [], ◌∷◌, ◌++◌, length, cond, Bool, true, false, eqb, ltb, refl, sym, ap, ◌∙◌, arith, rules, Ok, Err, length-append, append_assoc, append-nil, lt-ltb, le-ltb, ◌&&◌, ◌||◌, inl, inr}
use Rattle.std.specs.List.{onto_first, All, AllByRecursion}
use Rattle.std.proofs.lemmas.List.Splits.{slice_split-cons_no}
use Rattle.std.proofs.lemmas.List.Elements.{recursion_from_All, All-append, All-nil, All-cons}
use Rattle.ec_trace.specs.Stages.{Stage, Opening, Limiting, Declaring, Running, Ended}
use Rattle.ec_trace.specs.Step.{step, is_ended}
use Rattle.ec_trace.specs.Outcome.{lines_of_text, parse_from, after_line}
use Rattle.ec_trace.specs.declared.fault.LineFault.TheVariants as line_fault
use Rattle.std.proofs.lemmas.Bool.{cases_eq, cond-true, cond_both, or_right, and_from}
use Rattle.ec_trace.specs.declared.fault.TraceFault.TheVariants.{BadLine}
use Rattle.ec_text.proofs.shared.WordLemmas.{onto_has}

goes_long_first : (n : ℕ) (s : Stage) (line : List ℕ) (others : List (List ℕ)) → ltb 8192 (length line) ≡ true → parse_from n s (line ∷ others) ≡ Err (BadLine n)
unfolding parse_from
goes_long_first n s line [] long = rw long refl
goes_long_first n s line (next ∷ others) long = rw long refl

-- a list of parts has a first
pub record HasFirst (bytes : List ℕ) : Type 0 where
  pub first : List ℕ
  pub others : List (List ℕ)
  pub is : lines_of_text bytes ≡ first ∷ others

pub has_first : (bytes : List ℕ) → HasFirst bytes
has_first [] = record { first = []; others = []; is = refl }
has_first (b ∷ bytes) =
    let P : Bool → Type 0 = λ t. (first : List ℕ) × (others : List (List ℕ)) × (cond t ([] ∷ lines_of_text bytes) (onto_first b (lines_of_text bytes)) ≡ first ∷ others) in
    let w : P (eqb b 10) = elim (eqb b 10) as P [ true ↦ ([], lines_of_text bytes, refl) | false ↦ onto_has b (lines_of_text bytes) ] in
    record { first = w.0; others = w.1; is = w.2 }

-- bytes with no LF are added before the first part
pub onto_part : (part more : List ℕ) (first : List ℕ) (others : List (List ℕ)) → AllByRecursion (λ b. b ≢ 10) part → lines_of_text more ≡ first ∷ others → lines_of_text (part ++ more) ≡ (part ++ first) ∷ others
onto_part [] more first others none is = is
onto_part (b ∷ part) more first others none is =
    let no : eqb b 10 ≡ false = search (rules, none.0) in
    slice_split-cons_no (λ b. eqb b 10) b (part ++ more) no ∙ ap (onto_first b) (onto_part part more first others none.1 is)

no_lf : (part : List ℕ) → All (λ b. b ≢ 10) part → AllByRecursion (λ b. b ≢ 10) part
no_lf part none = recursion_from_All (λ b. b ≢ 10) part none

-- a line, and then the rest
pub goes_line : (n : ℕ) (s : Stage) (part more : List ℕ) → All (λ b. b ≢ 10) part → parse_from n s (lines_of_text (part ++ 10 ∷ more)) ≡ cond (ltb 8192 (length part)) (Err (BadLine n)) (after_line n (step s part) (λ t. parse_from (n + 1) t (lines_of_text more)))
unfolding parse_from
goes_line n s part more none =
    let f : HasFirst more = has_first more in
    let e : lines_of_text (part ++ 10 ∷ more) ≡ part ∷ lines_of_text more =
    onto_part part (10 ∷ more) [] (lines_of_text more) (no_lf part none) refl ∙ ap (λ (x : List ℕ). x ∷ lines_of_text more) (append-nil part) in
    rw (e, f.is) refl

-- a line that is too long, whatever follows
pub goes_long : (n : ℕ) (s : Stage) (part more : List ℕ) → All (λ b. b ≢ 10) part → 8192 < length part → parse_from n s (lines_of_text (part ++ more)) ≡ Err (BadLine n)
goes_long n s part more none long =
    let f : HasFirst more = has_first more in
    let e : lines_of_text (part ++ more) ≡ (part ++ f.first) ∷ f.others = onto_part part more f.first f.others (no_lf part none) f.is in
    let l : ltb 8192 (length (part ++ f.first)) ≡ true = lt-ltb _ _ (omega (arith, length-append part f.first)) in
    ap (parse_from n s) e ∙ goes_long_first n s (part ++ f.first) f.others l

-- a line with bytes that make it too long
pub goes_held : (n : ℕ) (s : Stage) (part bytes more : List ℕ) → All (λ b. b ≢ 10) part → All (λ b. b ≢ 10) bytes → 8192 < length part + length bytes → parse_from n s (lines_of_text (part ++ (bytes ++ more))) ≡ Err (BadLine n)
goes_held n s part bytes more none plain full =
    ap (λ (text : List ℕ). parse_from n s (lines_of_text text)) (sym (append_assoc part bytes more)) ∙
    goes_long n s (part ++ bytes) more (All-append (λ b. b ≢ 10) part bytes none plain) (omega (arith, length-append part bytes))

-- the text ends in the line in progress
pub goes_rest : (n : ℕ) (s : Stage) (part : List ℕ) → All (λ b. b ≢ 10) part → length part ≤ 8192 → parse_from n s (lines_of_text (part ++ [])) ≡ cond (is_ended s && ltb 0 (length part)) (Err (BadLine n)) (Ok (record { stage = s; number = n; part = part }))
unfolding parse_from
goes_rest n s part none short =
    let e : lines_of_text (part ++ []) ≡ part ∷ [] = onto_part part [] [] [] (no_lf part none) refl ∙ ap (λ (x : List ℕ). x ∷ []) (append-nil part) in
    let l : ltb 8192 (length part) ≡ false = le-ltb _ _ short in
    rw e (rw l refl)

after_end : (s : Stage) (line : List ℕ) → is_ended s ≡ true → step s line ≡ Err line_fault.Bad
unfolding step is_ended
after_end Opening line ended = cc
after_end (Limiting v) line ended = cc
after_end (Declaring h) line ended = cc
after_end (Running t) line ended = cc
after_end (Ended t) line ended = refl

goes_after_end_parts : (n : ℕ) (s : Stage) (line : List ℕ) (others : List (List ℕ)) → is_ended s ≡ true → 0 < length line → parse_from n s (line ∷ others) ≡ Err (BadLine n)
unfolding parse_from
goes_after_end_parts n s line [] ended some =
    let l : ltb 0 (length line) ≡ true = lt-ltb _ _ some in
    cond-true (ltb 8192 (length line) || (is_ended s && ltb 0 (length line))) _ _ (or_right _ _ (and_from _ _ ended l))
goes_after_end_parts n s line (next ∷ others) ended some =
    let e : after_line n (step s line) (λ t. parse_from (n + 1) t (next ∷ others)) ≡ Err (BadLine n) = rw (after_end s line ended) refl in
    cond_both (ltb 8192 (length line)) (Err (BadLine n)) (after_line n (step s line) (λ t. parse_from (n + 1) t (next ∷ others))) (λ r. r ≡ Err (BadLine n)) (λ _. refl) (λ _. e)

-- bytes after the last line, whatever follows
pub goes_after_end : (n : ℕ) (s : Stage) (part more : List ℕ) → All (λ b. b ≢ 10) part → is_ended s ≡ true → 0 < length part → parse_from n s (lines_of_text (part ++ more)) ≡ Err (BadLine n)
goes_after_end n s part more none ended some =
    let f : HasFirst more = has_first more in
    let e : lines_of_text (part ++ more) ≡ (part ++ f.first) ∷ f.others = onto_part part more f.first f.others (no_lf part none) f.is in
    ap (parse_from n s) e ∙ goes_after_end_parts n s (part ++ f.first) f.others ended (omega (arith, length-append part f.first))

-- nothing may follow the last line
pub goes_ended : (n : ℕ) (s : Stage) (b : ℕ) (more : List ℕ) → is_ended s ≡ true → parse_from n s (lines_of_text (b ∷ more)) ≡ Err (BadLine n)
goes_ended n s b more ended = elim (cases_eq b 10) [
  | inl lf ↦ ap (λ (c : ℕ). parse_from n s (lines_of_text (c ∷ more))) lf ∙ goes_line n s [] more (All-nil (λ b. b ≢ 10)) ∙ rw (after_end s [] ended) refl
  | inr other ↦ goes_after_end n s (b ∷ []) more (All-cons (λ b. b ≢ 10) b [] other (All-nil (λ b. b ≢ 10))) ended (omega arith)
]
