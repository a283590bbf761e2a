-- The words of a key contain all bytes of its text.
use Rattle.std.proofs.Common.{◌≡◌, ℕ, suc, ◌+◌, ◌-◌, ◌<◌, ◌≤◌, List, [], ◌∷◌, ◌++◌, length, take, drop, get_or, min, refl, sym, ap, ◌∙◌, arith, drop-cons, length-take, length-drop, lt-ltb, le-ltb, inl, inr}
use Rattle.std.proofs.lemmas.List.{take-append-drop, take-take, drop-take, drop-drop, take_all, get_or-take, get_or-drop, get_or_past}
use Rattle.std.proofs.lemmas.Bool.{cases_lt}
use Rattle.std.proofs.lemmas.Nat.{le_bytes_4, le_bytes_8}
use Rattle.std.specs.Int.{w32, w64, from_le_bytes}
use Rattle.ec_trace.specs.kept.PackedBytes.{eight_of, four_of, key_bytes}
use Rattle.ec_trace.specs.declared.packed_bytes.PackedBytes.{PackedBytes}

-- a byte, and those after it
one_on : (xs rest : List ℕ) (from next n : ℕ) → next ≡ suc from → from < length xs → take n (drop next xs) ≡ rest → take (suc n) (drop from xs) ≡ get_or xs from 0 ∷ rest
one_on xs rest from next n is within behind =
    ap (take (suc n)) (drop-cons xs from 0 within) ∙ ap (λ (k : ℕ). get_or xs from 0 ∷ take n (drop k xs)) (sym is) ∙ ap (λ (r : List ℕ). get_or xs from 0 ∷ r) behind

four_read : (xs : List ℕ) (from : ℕ) → from + 4 ≤ length xs → take 4 (drop from xs) ≡ get_or xs from 0 ∷ get_or xs (from + 1) 0 ∷ get_or xs (from + 2) 0 ∷ get_or xs (from + 3) 0 ∷ []
four_read xs from within =
    one_on xs _ from (from + 1) 3 (omega arith) (omega arith) (one_on xs _ (from + 1) (from + 2) 2 (omega arith) (omega arith)
    (one_on xs _ (from + 2) (from + 3) 1 (omega arith) (omega arith) (one_on xs _ (from + 3) (from + 4) 0 (omega arith) (omega arith) refl)))

eight_read : (xs : List ℕ) (from : ℕ) → from + 8 ≤ length xs
    → take 8 (drop from xs) ≡ get_or xs from 0 ∷ get_or xs (from + 1) 0 ∷ get_or xs (from + 2) 0 ∷ get_or xs (from + 3) 0 ∷ get_or xs (from + 4) 0 ∷ get_or xs (from + 5) 0 ∷ get_or xs (from + 6) 0 ∷ get_or xs (from + 7) 0 ∷ []
eight_read xs from within =
    one_on xs _ from (from + 1) 7 (omega arith) (omega arith) (one_on xs _ (from + 1) (from + 2) 6 (omega arith) (omega arith)
    (one_on xs _ (from + 2) (from + 3) 5 (omega arith) (omega arith) (one_on xs _ (from + 3) (from + 4) 4 (omega arith) (omega arith)
    (one_on xs _ (from + 4) (from + 5) 3 (omega arith) (omega arith) (one_on xs _ (from + 5) (from + 6) 2 (omega arith) (omega arith)
    (one_on xs _ (from + 6) (from + 7) 1 (omega arith) (omega arith) (one_on xs _ (from + 7) (from + 8) 0 (omega arith) (omega arith) refl)))))))

small_part : (xs : List ℕ) (from n : ℕ) → ((i : ℕ) → get_or xs i 0 < 256) → (i : ℕ) → get_or (take n (drop from xs)) i 0 < 256
small_part xs from n small i = elim (cases_lt i n) [
  | inl below ↦ rw (get_or-take n (drop from xs) i 0 below, get_or-drop from xs i 0) (small (from + i))
  | inr above ↦ rw (get_or_past (take n (drop from xs)) i 0 (omega (arith, length-take n (drop from xs)))) (omega arith)
]

part_length : (xs : List ℕ) (from n : ℕ) → from + n ≤ length xs → length (take n (drop from xs)) ≡ n
part_length xs from n within = omega (arith, length-take n (drop from xs), length-drop from xs)

-- what the code reads as one number
pub four_held : (xs : List ℕ) (from word : ℕ) → from + 4 ≤ length xs → ((i : ℕ) → get_or xs i 0 < 256)
    → word ≡ from_le_bytes w32 (get_or xs from 0 ∷ get_or xs (from + 1) 0 ∷ get_or xs (from + 2) 0 ∷ get_or xs (from + 3) 0 ∷ []) → four_of word ≡ take 4 (drop from xs)
unfolding four_of
four_held xs from word within small is =
    le_bytes_4 (take 4 (drop from xs)) word (part_length xs from 4 within) (small_part xs from 4 small) (is ∙ ap (from_le_bytes w32) (sym (four_read xs from within)))

pub eight_held : (xs : List ℕ) (from word : ℕ) → from + 8 ≤ length xs → ((i : ℕ) → get_or xs i 0 < 256)
    → word ≡ from_le_bytes w64 (get_or xs from 0 ∷ get_or xs (from + 1) 0 ∷ get_or xs (from + 2) 0 ∷ get_or xs (from + 3) 0 ∷ get_or xs (from + 4) 0 ∷ get_or xs (from + 5) 0 ∷ get_or xs (from + 6) 0 ∷ get_or xs (from + 7) 0 ∷ []) → eight_of word ≡ take 8 (drop from xs)
unfolding eight_of
eight_held xs from word within small is =
    le_bytes_8 (take 8 (drop from xs)) word (part_length xs from 8 within) (small_part xs from 8 small) (is ∙ ap (from_le_bytes w64) (sym (eight_read xs from within)))

-- a part, and the part after it
taken_on : (n m : ℕ) (xs : List ℕ) → take n xs ++ take m (drop n xs) ≡ take (n + m) xs
taken_on n m xs =
    ap (λ (r : List ℕ). r ++ take m (drop n xs)) (sym (take-take n (n + m) xs (omega arith))) ∙ ap (λ (r : List ℕ). take n (take (n + m) xs) ++ r) (sym (drop-take n m xs)) ∙ take-append-drop n (take (n + m) xs)

-- a prefix and a suffix of the same length, if that is at least half
lapped : (xs head tail : List ℕ) (m : ℕ) → m ≤ length xs → length xs ≤ m + m → head ≡ take m xs → tail ≡ drop (length xs - m) xs → head ++ drop (m + m - length xs) tail ≡ xs
lapped xs head tail m least most h t =
    let at : (length xs - m) + (m + m - length xs) ≡ m = omega arith in
    let rest : drop (m + m - length xs) tail ≡ drop m xs = ap (drop (m + m - length xs)) t ∙ drop-drop (m + m - length xs) (length xs - m) xs ∙ ap (λ (k : ℕ). drop k xs) at in
    ap (λ (r : List ℕ). r ++ drop (m + m - length xs) tail) h ∙ ap (λ (r : List ℕ). take m xs ++ r) rest ∙ take-append-drop m xs

-- the last bytes
to_end : (xs : List ℕ) (m : ℕ) → m ≤ length xs → take m (drop (length xs - m) xs) ≡ drop (length xs - m) xs
to_end xs m least = take_all m (drop (length xs - m) xs) (omega (arith, length-drop (length xs - m) xs))

two_words : (xs a b : List ℕ) (from next : ℕ) → next ≡ from + 8 → a ≡ take 8 (drop from xs) → b ≡ take 8 (drop next xs) → a ++ b ≡ take 16 (drop from xs)
two_words xs a b from next is h t =
    let back : b ≡ take 8 (drop 8 (drop from xs)) = t ∙ ap (λ (k : ℕ). take 8 (drop k xs)) is ∙ ap (take 8) (sym (drop-drop 8 from xs)) in
    ap (λ (r : List ℕ). r ++ b) h ∙ ap (λ (r : List ℕ). take 8 (drop from xs) ++ r) back ∙ taken_on 8 8 (drop from xs)

pub fours_hold : (xs : List ℕ) (k : PackedBytes) → 4 ≤ length xs → length xs < 8 → k.len ≡ length xs → four_of k.first ≡ take 4 (drop 0 xs) → four_of k.last ≡ take 4 (drop (length xs - 4) xs) → key_bytes k ≡ xs
unfolding key_bytes
fours_hold xs k least most len first last =
    let short : k.len < 8 = omega arith in
    rw (lt-ltb k.len 8 short) (rw len (lapped xs (four_of k.first) (four_of k.last) 4 least (omega arith) first (last ∙ to_end xs 4 least)))

shorter : (xs : List ℕ) (k : PackedBytes) → 8 ≤ length xs → length xs < 16 → k.len ≡ length xs → eight_of k.first ≡ take 8 (drop 0 xs) → eight_of k.last ≡ take 8 (drop (length xs - 8) xs) → key_bytes k ≡ xs
unfolding key_bytes
shorter xs k least most len first last =
    let more : 8 ≤ k.len = omega arith in
    let fewer : k.len < 16 = omega arith in
    rw (le-ltb k.len 8 more, lt-ltb k.len 16 fewer) (rw len (lapped xs (eight_of k.first) (eight_of k.last) 8 least (omega arith) first (last ∙ to_end xs 8 least)))

longer : (xs : List ℕ) (k : PackedBytes) → 16 ≤ length xs → length xs ≤ 32 → k.len ≡ length xs → eight_of k.first ≡ take 8 (drop 0 xs) → eight_of k.second ≡ take 8 (drop 8 xs)
    → eight_of k.third ≡ take 8 (drop (length xs - 16) xs) → eight_of k.last ≡ take 8 (drop (length xs - 8) xs) → key_bytes k ≡ xs
unfolding key_bytes
longer xs k least most len first second third last =
    let more : 8 ≤ k.len = omega arith in
    let most_so : 16 ≤ k.len = omega arith in
    let head : eight_of k.first ++ eight_of k.second ≡ take 16 xs = two_words xs _ _ 0 8 refl first second in
    let tail : eight_of k.third ++ eight_of k.last ≡ drop (length xs - 16) xs = two_words xs _ _ (length xs - 16) (length xs - 8) (omega arith) third last ∙ to_end xs 16 least in
    rw (le-ltb k.len 8 more, le-ltb k.len 16 most_so) (rw len (lapped xs _ _ 16 least most head tail))

pub eights_hold : (xs : List ℕ) (k : PackedBytes) → 8 ≤ length xs → length xs ≤ 32 → k.len ≡ length xs → eight_of k.first ≡ take 8 (drop 0 xs) → eight_of k.second ≡ take 8 (drop (min (length xs - 8) 8) xs)
    → eight_of k.third ≡ take 8 (drop (length xs - 16) xs) → eight_of k.last ≡ take 8 (drop (length xs - 8) xs) → key_bytes k ≡ xs
eights_hold xs k least most len first second third last = elim (cases_lt (length xs) 16) [
  | inl fewer ↦ shorter xs k least fewer len first last
  | inr more ↦ (let at : min (length xs - 8) 8 ≡ 8 = omega arith in longer xs k more most len first (second ∙ ap (λ (i : ℕ). take 8 (drop i xs)) at) third last)
]
