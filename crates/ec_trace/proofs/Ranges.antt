-- Parts of a piece.
use Rattle.std.proofs.Common.{◌≡◌, ℕ, ◌+◌, ◌-◌, ◌<◌, ◌≤◌, List, [], ◌∷◌, ◌++◌, length, take, drop, slice_range, sym, ap, ◌∙◌, arith, append_assoc, length-append, length-drop, length-take, take-append-drop, drop-drop}
use Rattle.std.proofs.Math.Seq.{take-append_seam, drop-append-add}
use Rattle.ec_trace.specs.Reading.{IsSound}
use Rattle.ec_trace.specs.declared.read.TheConstants.{TRACE_MAX}

pub length_range : (xs : List ℕ) (i j : ℕ) → i ≤ j → j ≤ length xs → length (slice_range xs i j) ≡ j - i
length_range xs i j ordered fits = simp (length-take, length-drop) (omega arith)

pub empty_at : (xs : List ℕ) (i j : ℕ) → j ≤ i → slice_range xs i j ≡ []
empty_at xs i j none = let none : j - i ≡ 0 = omega arith in ap (λ (n : ℕ). take n (drop i xs)) none

-- the rest after an index, in two parts
range_front : (xs : List ℕ) (i j : ℕ) → i ≤ j → drop i xs ≡ slice_range xs i j ++ drop j xs
range_front xs i j ordered =
    let sum : i + (j - i) ≡ j = omega arith in
    sym (take-append-drop (j - i) (drop i xs)) ∙ ap (λ (r : List ℕ). slice_range xs i j ++ r) (drop-drop (j - i) i xs ∙ ap (λ (n : ℕ). drop n xs) sum)

-- a part that begins with a line and its LF: where the line is, and what follows it
pub record IsCut (xs : List ℕ) (i j : ℕ) (line rest : List ℕ) : Type 0 where
  pub before : slice_range xs i (i + length line) ≡ line
  pub behind : slice_range xs (i + length line + 1) j ≡ rest
  pub within : i + length line + 1 ≤ j

pub range_cut : (xs : List ℕ) (i j : ℕ) (line rest : List ℕ) → i ≤ j → j ≤ length xs → slice_range xs i j ≡ line ++ 10 ∷ rest → IsCut xs i j line rest
range_cut xs i j line rest ordered fits cut =
    let plus : length line + length (10 ∷ rest) ≡ length line + (1 + length rest) = omega arith in
    let size : j - i ≡ length line + (1 + length rest) = sym (length_range xs i j ordered fits) ∙ ap length cut ∙ length-append line (10 ∷ rest) ∙ plus in
    let first : (i + length line) - i ≡ length line = omega arith in
    let last : j - (i + length line + 1) ≡ length rest = omega arith in
    let place : i + length line + 1 ≡ i + (length line + 1) = omega arith in
    let whole : drop i xs ≡ (line ++ 10 ∷ rest) ++ drop j xs = range_front xs i j ordered ∙ ap (λ (r : List ℕ). r ++ drop j xs) cut in
    let prefix : drop i xs ≡ line ++ (10 ∷ rest ++ drop j xs) = whole ∙ append_assoc line (10 ∷ rest) (drop j xs) in
    let behind : drop (i + length line + 1) xs ≡ rest ++ drop j xs =
    ap (λ (n : ℕ). drop n xs) place ∙ sym (drop-drop (length line + 1) i xs) ∙ ap (drop (length line + 1)) prefix ∙ drop-append-add line (10 ∷ (rest ++ drop j xs)) 1 in
    record {
      before = ap (λ (n : ℕ). take n (drop i xs)) first ∙ ap (take (length line)) prefix ∙ take-append_seam line (10 ∷ (rest ++ drop j xs));
      behind = ap (λ (n : ℕ). take n (drop (i + length line + 1) xs)) last ∙ ap (take (length rest)) behind ∙ take-append_seam rest (drop j xs);
      within = omega arith;
    }

-- two parts that follow one another
pub range_joined : (xs : List ℕ) (i j k : ℕ) → i ≤ j → j ≤ k → k ≤ length xs → slice_range xs i j ++ slice_range xs j k ≡ slice_range xs i k
range_joined xs i j k first second fits =
    let size : k - i ≡ length (slice_range xs i j ++ slice_range xs j k) = omega (arith, length-append (slice_range xs i j) (slice_range xs j k), length_range xs i j first (omega arith), length_range xs j k second fits) in
    let whole : drop i xs ≡ (slice_range xs i j ++ slice_range xs j k) ++ drop k xs =
    range_front xs i j first ∙ ap (λ (r : List ℕ). slice_range xs i j ++ r) (range_front xs j k second) ∙ sym (append_assoc (slice_range xs i j) (slice_range xs j k) (drop k xs)) in
    sym (ap (λ (m : ℕ). take m (drop i xs)) size ∙ ap (take (length (slice_range xs i j ++ slice_range xs j k))) whole ∙ take-append_seam (slice_range xs i j ++ slice_range xs j k) (drop k xs))

-- WHAT IS TRUE OF A SOUND PIECE

pub record Holds (piece : List ℕ) (from end read before : ℕ) : Type 0 where
  pub behind : length (slice_range piece from end) ≡ end - from
  pub over : length (slice_range piece end read) ≡ read - end
  pub within : before + from + length (slice_range piece from end) ≤ TRACE_MAX
  pub full : 0 < length (slice_range piece end read) → before + from + length (slice_range piece from end) ≡ TRACE_MAX

pub holds : (piece : List ℕ) (from end read before number first last : ℕ) (apart : List ℕ) → IsSound piece from end read before number first last apart → Holds piece from end read before
holds piece from end read before number first last apart s =
    let b : length (slice_range piece from end) ≡ end - from = length_range piece from end s.taken (omega (arith, s.room, s.within, s.came)) in
    let o : length (slice_range piece end read) ≡ read - end = length_range piece end read s.within (omega (arith, s.room, s.came)) in
    record {
      behind = b;
      over = o;
      within = omega (arith, s.taken, s.bound, b);
      full = λ some. (let e : before + end ≡ TRACE_MAX = s.full (omega (arith, o, some)) in omega (arith, s.taken, b, e));
    }
