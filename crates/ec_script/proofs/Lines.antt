-- The lines of a text.
use Rattle.std.proofs.Common.{◌≡◌, ◌≢◌, ℕ, ◌+◌, List, [], ◌∷◌, ◌++◌, cond, Bool, true, false, eqb, refl, ap, ◌∙◌, ne_eqb}
use Rattle.std.specs.List.{onto_first, All}
use Rattle.std.proofs.lemmas.List.Splits.{slice_split_at, slice_split_none}
use Rattle.std.proofs.lemmas.List.Elements.{All-weaker}
use Rattle.ec_script.specs.declared.stage.Stage.{Stage}
use Rattle.ec_script.specs.Reading.{step}
use Rattle.ec_script.specs.Outcome.{lines_of_text, parse_from, after_line, parse_end, first_or_empty}
use Rattle.ec_text.proofs.shared.WordLemmas.{onto_has}

-- a list of parts has a first
pub record HasFirst (bytes : List ℕ) : Type 0 where
  pub first : List ℕ
  pub others : List (List ℕ)
  pub is : lines_of_text bytes ≡ first ∷ others

pub has_first : (bytes : List ℕ) → HasFirst bytes
has_first [] = record { first = []; others = []; is = refl }
has_first (b ∷ bytes) =
    let P : Bool → Type 0 = λ t. (first : List ℕ) × (others : List (List ℕ)) × (cond t ([] ∷ lines_of_text bytes) (onto_first b (lines_of_text bytes)) ≡ first ∷ others) in
    let w : P (eqb b 10) = elim (eqb b 10) as P [ true ↦ ([], lines_of_text bytes, refl) | false ↦ onto_has b (lines_of_text bytes) ] in
    record { first = w.0; others = w.1; is = w.2 }

pub no_lf : (bytes : List ℕ) → All (λ b. b ≢ 10) bytes → All (λ b. eqb b 10 ≡ false) bytes
no_lf bytes none = All-weaker (λ b. b ≢ 10) (λ b. eqb b 10 ≡ false) (λ b apart. ne_eqb b 10 apart) bytes none

-- a line, and then the rest
pub parts_line : (line more : List ℕ) → All (λ b. eqb b 10 ≡ false) line → lines_of_text (line ++ 10 ∷ more) ≡ line ∷ lines_of_text more
parts_line line more none = slice_split_at (λ b. eqb b 10) line 10 more none refl

pub parts_rest : (rest : List ℕ) → All (λ b. eqb b 10 ≡ false) rest → lines_of_text rest ≡ rest ∷ []
parts_rest rest none = slice_split_none (λ b. eqb b 10) rest none

pub first_line : (bytes line more : List ℕ) → All (λ b. b ≢ 10) line → bytes ≡ line ++ 10 ∷ more → first_or_empty (lines_of_text bytes) ≡ line
first_line bytes line more none is = ap (λ bs. first_or_empty (lines_of_text bs)) is ∙ ap first_or_empty (parts_line line more (no_lf line none))

pub first_rest : (rest : List ℕ) → All (λ b. b ≢ 10) rest
    → first_or_empty (lines_of_text rest) ≡ rest
first_rest rest none = ap first_or_empty (parts_rest rest (no_lf rest none))

pub ruleset first_lines = (first_line, first_rest)

-- the text goes on after a line
pub goes_line : (n : ℕ) (s : Stage) (line more : List ℕ) → All (λ b. eqb b 10 ≡ false) line → parse_from n s (lines_of_text (line ++ 10 ∷ more)) ≡ after_line n (step s line) (λ t. parse_from (n + 1) t (lines_of_text more))
unfolding parse_from
goes_line n s line more none =
    let f : HasFirst more = has_first more in
    rw (parts_line line more none, f.is) refl

-- the text ends in a line
pub goes_rest : (n : ℕ) (s : Stage) (rest : List ℕ) → All (λ b. eqb b 10 ≡ false) rest → parse_from n s (lines_of_text rest) ≡ parse_end n s rest
unfolding parse_from
goes_rest n s rest none = rw (parts_rest rest none) refl
