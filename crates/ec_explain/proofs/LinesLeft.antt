-- The lines of a text that are left after one of them.
use Rattle.std.proofs.Common.{◌≡◌, ◌≢◌, ◌≤◌, ℕ, ◌+◌, List, [], ◌∷◌, ◌++◌, length, cond}
use Rattle.std.proofs.Common.{if◌then◌else◌, Bool, true, false, eqb, Option, Some, refl, ap}
use Rattle.std.proofs.Common.{◌∙◌, ne_eqb, arith, length-append}
use Rattle.std.specs.List.{onto_first, All}
use Rattle.std.proofs.lemmas.List.Splits.{slice_split_at, slice_split_none}
use Rattle.std.proofs.lemmas.List.Elements.{All-weaker}
use Rattle.ec_explain.specs.RelatedLine.{last_in, lines_of}
use Rattle.ec_text.proofs.shared.WordLemmas.{onto_has}

-- a list of lines has a first
record HasFirst (bytes : List ℕ) : Type 0 where
  first : List ℕ
  others : List (List ℕ)
  is : lines_of bytes ≡ first ∷ others

has_first : (bytes : List ℕ) → HasFirst bytes
has_first [] = record { first = []; others = []; is = refl }
has_first (b ∷ bytes) =
    let P : Bool → Type 0 = λ t. (first : List ℕ) × (others : List (List ℕ))
    × (cond t ([] ∷ lines_of bytes) (onto_first b (lines_of bytes)) ≡ first ∷ others) in
    let w : P (eqb b 10) = elim (eqb b 10) as
    P [ true ↦ ([], lines_of bytes, refl) | false ↦ onto_has b (lines_of bytes) ] in
    record { first = w.0; others = w.1; is = w.2 }

no_lf : (bytes : List ℕ) → All (λ b. b ≢ 10) bytes → All (λ b. eqb b 10 ≡ false) bytes
no_lf bytes none = All-weaker (λ b. b ≢ 10) (λ b. eqb b 10 ≡ false) (λ b apart. ne_eqb b 10 apart)
    bytes none

goes_on : (p : List ℕ → Bool) (k : ℕ) (found : Option ℕ) (line : List ℕ)
    (lines first : List (List ℕ)) (next : List ℕ) → lines ≡ next ∷ first
    → last_in p (k + 1) (if p line then Some (k + 1) else found) lines
    ≡ last_in p k found (line ∷ lines)
goes_on p k found line lines first next is = rw is refl

-- one more line, which was tested
pub lasts_line : (p : List ℕ → Bool) (k m : ℕ) (found now : Option ℕ) (line more rest : List ℕ)
    → All (λ b. b ≢ 10) line → rest ≡ line ++ 10 ∷ more
    → m ≡ k + 1 → now ≡ (if p line then Some m else found) → last_in p m now (lines_of more)
    ≡ last_in p k found (lines_of rest)
lasts_line p k m found now line more rest none is next asked =
    let f : HasFirst more = has_first more in
    let cut : lines_of rest ≡ line ∷ lines_of more = ap lines_of is
    ∙ slice_split_at (λ b. eqb b 10) line 10 more (no_lf line none) refl in
    rw (asked, next, cut) (goes_on p k found line (lines_of more) f.others f.first f.is)

-- nothing is left
pub lasts_end : (p : List ℕ → Bool) (k : ℕ) (found : Option ℕ) (rest : List ℕ)
    → All (λ b. b ≢ 10) rest → last_in p k found (lines_of rest) ≡ found
lasts_end p k found rest none =
    let whole : lines_of rest ≡ rest ∷ [] =
    slice_split_none (λ b. eqb b 10) rest (no_lf rest none) in
    rw whole refl

-- a line and its LF have a byte at least
pub one_left : (line more rest : List ℕ) → rest ≡ line ++ 10 ∷ more → length more + 1 ≤ length rest
one_left line more rest is = omega (arith, ap length is, length-append line (10 ∷ more))
