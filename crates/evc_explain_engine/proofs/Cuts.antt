-- Where the lines of a text are.
use Rattle.std.proofs.Common.{◌≡◌, ◌≢◌, ◌≤◌, ℕ, zero, suc, ◌+◌, ◌-◌, List, [], ◌∷◌, ◌++◌, length}
use Rattle.std.proofs.Common.{take, drop, cond, true, false, eqb, ltb, Option, Some, None, refl, ap}
use Rattle.std.proofs.Common.{◌∙◌, ne_eqb, lt-ltb, arith, length-append, append_assoc, length-take}
use Rattle.std.specs.Prelude.{unwrap_or}
use Rattle.std.specs.List.{AllByRecursion, position_from, flat_map}
use Rattle.ec_explain.specs.TextLines.{position_or_end, text_after_line, text_after_lines, first_line, line_at, text_before_line}
use Rattle.ec_heading.specs.Spelling.{ended_line as ended}

-- a line without an LF
abbrev pub IsPlain : List ℕ → Type 0
IsPlain line = AllByRecursion (λ b. b ≢ 10) line

take_here : (xs ys : List ℕ) → take (length xs) (xs ++ ys) ≡ xs
take_here [] ys = refl
take_here (x ∷ xs) ys = ap (λ zs. x ∷ zs) (take_here xs ys)

drop_past : (xs ys : List ℕ) (y : ℕ) → drop (suc (length xs)) (xs ++ y ∷ ys) ≡ ys
drop_past [] ys y = refl
drop_past (x ∷ xs) ys y = drop_past xs ys y

drop_here : (xs ys : List ℕ) (y : ℕ) → drop (length xs + 1) (xs ++ y ∷ ys) ≡ ys
drop_here xs ys y =
    let next : length xs + 1 ≡ suc (length xs) = omega arith in
    ap (λ n. drop n (xs ++ y ∷ ys)) next ∙ drop_past xs ys y

-- the LF after a line is found from the line on
passes : (line more : List ℕ) (k : ℕ) → IsPlain line
    → position_from (λ b. eqb b 10) k (line ++ more)
    ≡ position_from (λ b. eqb b 10) (k + length line) more
passes [] more k plain = ap (λ n. position_from (λ b. eqb b 10) n more) (omega arith)
passes (b ∷ line) more k plain =
    let other : eqb b 10 ≡ false = ne_eqb b 10 plain.0 in
    let count : (k + 1) + length line ≡ k + length (b ∷ line) = omega arith in
    rw other (passes line more (k + 1) plain.1
    ∙ ap (λ n. position_from (λ b. eqb b 10) n more) count)

-- from the first index on
from_first : (line more : List ℕ) → IsPlain line
    → position_from (λ b. eqb b 10) 0 (line ++ more)
    ≡ position_from (λ b. eqb b 10) (length line) more
from_first line more plain =
    let count : 0 + length line ≡ length line = omega arith in
    passes line more 0 plain ∙ ap (λ n. position_from (λ b. eqb b 10) n more) count

place_here : (line more : List ℕ) → IsPlain line
    → position_or_end 10 (line ++ 10 ∷ more) ≡ length line
place_here line more plain =
    ap (λ o. unwrap_or o (length (line ++ 10 ∷ more))) (from_first line (10 ∷ more) plain)

-- what a line has before its LF
pub first_here : (line more : List ℕ) → IsPlain line → first_line (line ++ 10 ∷ more) ≡ line
first_here line more plain =
    ap (λ n. take n (line ++ 10 ∷ more)) (place_here line more plain) ∙ take_here line (10 ∷ more)

behind_here : (line more : List ℕ) → IsPlain line → text_after_line (line ++ 10 ∷ more) ≡ more
behind_here line more plain =
    let here : position_or_end 10 (line ++ 10 ∷ more) ≡ length line = place_here line more plain in
    let within : ltb (length line) (length (line ++ 10 ∷ more)) ≡ true =
    lt-ltb _ _ (omega (arith, length-append line (10 ∷ more))) in
    rw (here, within) (drop_here line more 10)

behind_first : (n : ℕ) (xs : List ℕ)
    → text_after_lines (suc n) xs ≡ text_after_lines n (text_after_line xs)
unfolding text_after_lines
behind_first zero xs = refl
behind_first (suc n) xs = ap text_after_line (behind_first n xs)

-- behind some lines
pub behind_lines : (before : List (List ℕ)) (rest : List ℕ) → AllByRecursion IsPlain before
    → text_after_lines (length before) (flat_map ended before ++ rest) ≡ rest
unfolding text_after_lines
behind_lines [] rest plain = refl
behind_lines (line ∷ before) rest plain =
    let grouped : (ended line ++ flat_map ended before) ++ rest
    ≡ line ++ 10 ∷ (flat_map ended before ++ rest) =
    append_assoc (ended line) (flat_map ended before) rest
    ∙ append_assoc line (10 ∷ []) (flat_map ended before ++ rest) in
    behind_first (length before) ((ended line ++ flat_map ended before) ++ rest)
    ∙ ap (λ xs. text_after_lines (length before) (text_after_line xs)) grouped
    ∙ ap (text_after_lines (length before)) (behind_here line (flat_map ended before
    ++ rest) plain.0)
    ∙ behind_lines before rest plain.1

-- the lines before a line
pub before_here : (n : ℕ) (before : List (List ℕ)) (rest : List ℕ) → AllByRecursion IsPlain before
    → length before + 1 ≡ n
    → text_before_line n (flat_map ended before ++ rest) ≡ flat_map ended before
before_here n before rest plain number =
    let text : List ℕ = flat_map ended before ++ rest in
    let count : n - 1 ≡ length before = omega (arith, number) in
    let left : text_after_lines (n - 1) text ≡ rest =
    ap (λ m. text_after_lines m text) count ∙ behind_lines before rest plain in
    let size : length text - length (text_after_lines (n - 1) text)
    ≡ length (flat_map ended before) =
    omega (arith, ap length left, length-append (flat_map ended before) rest) in
    ap (λ m. take m text) size ∙ take_here (flat_map ended before) rest

-- and the line
pub line_here : (n : ℕ) (before : List (List ℕ)) (rest : List ℕ) → AllByRecursion IsPlain before
    → length before + 1 ≡ n → line_at n (flat_map ended before ++ rest) ≡ first_line rest
line_here n before rest plain number =
    let count : n - 1 ≡ length before = omega (arith, number) in
    ap (λ m. first_line (text_after_lines m (flat_map ended before ++ rest))) count
    ∙ ap first_line (behind_lines before rest plain)

position_low : (k j : ℕ) (xs : List ℕ) → position_from (λ b. eqb b 10) k xs ≡ Some j → k ≤ j
position_low k j [] is = cc
position_low k j (x ∷ xs) is =
    elim (eqb x 10) as (λ b. cond b (Some k) (position_from (λ b. eqb b 10) (k + 1) xs) ≡ Some j
    → k ≤ j) [
      | true ↦ λ e. (let same : k ≡ j = cc in omega (arith, same))
      | false ↦ λ e. omega (arith, position_low (k + 1) j xs e)
    ] is

-- a line is at least as long as a prefix of the text without an LF
pub first_long : (line more : List ℕ) → IsPlain line
    → length line ≤ length (first_line (line ++ more))
first_long line more plain =
    let found : Option ℕ = position_from (λ b. eqb b 10) (length line) more in
    let place : position_or_end 10 (line ++ more) ≡ unwrap_or found (length (line ++ more)) =
    ap (λ o. unwrap_or o (length (line ++ more))) (from_first line more plain) in
    let far : length line ≤ unwrap_or found (length (line ++ more)) =
    elim found as (λ o. found ≡ o → length line ≤ unwrap_or o (length (line ++ more))) [
      | None ↦ λ e. omega (arith, length-append line more)
      | Some j ↦ λ e. position_low (length line) j more e
    ] refl in
    omega (
      arith,
      far,
      place,
      length-append line more,
      length-take (position_or_end 10 (line ++ more)) (line ++ more),
    )
