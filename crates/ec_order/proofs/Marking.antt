-- Marks in the bits of words.
use Rattle.std.proofs.Common.{◌≡◌, ℕ, zero, suc, ◌+◌, ◌-◌, ◌*◌, ◌/◌, ◌%◌, ◌^◌, ◌<◌, ◌≤◌, ◌==◌, Bool, true, false, nat_le, List, [], ◌∷◌, ◌++◌, length, drop, refl, ap, sym, ◌∙◌, arith, cond, append-nil, length-append}
use Rattle.std.specs.List.{flat_map}
use Rattle.std.proofs.lemmas.Grind.{flat_map-append}
use Rattle.std.proofs.lemmas.Nat.{leading_top}
use Rattle.std.proofs.Math.Nat.{div-div-eq-div-mul}
use Rattle.ec_order.specs.kept.BitVec.{low_bits, bits_below_highest, bits_of_word, bits_of_words, IsBitVec}

-- A WORD

-- the marks of a word are those below its highest bit that is one
below_low : (n l w : ℕ) → l ≤ n → 2 ^ l ≤ w → w < 2 * 2 ^ l → bits_below_highest n w ≡ low_bits l w
unfolding low_bits bits_below_highest
below_low zero zero w le ge lt = refl
below_low zero (suc l) w le ge lt = absurd (omega arith)
below_low (suc n) zero w le ge lt = (let one : nat_le w 1 ≡ true = grind arith in rw one refl)
below_low (suc n) (suc l) w le ge lt =
    let some : 0 < 2 ^ l = grind arith in
    let more : nat_le w 1 ≡ false = grind arith in
    rw (more, below_low n l (w / 2) (omega arith) (omega arith) (omega arith)) refl

-- one more, if there is room for it
more_low : (l w b : ℕ) → b < 2 → low_bits (suc l) (w * 2 + b) ≡ low_bits l w ++ (b == 1) ∷ []
unfolding low_bits
more_low l w b lt =
    let half : (w * 2 + b) / 2 ≡ w = omega arith in
    let rest : (w * 2 + b) % 2 ≡ b = omega arith in
    rw (half, rest) refl

-- the first of them
pub first_low : (l w : ℕ) → low_bits (suc l) w ≡ (w / 2 ^ l % 2 == 1) ∷ low_bits l w
unfolding low_bits
first_low zero w = (let same : w / 1 ≡ w = omega arith in rw same refl)
first_low (suc l) w =
    let halves : w / 2 / 2 ^ l ≡ w / 2 ^ suc l = div-div-eq-div-mul w 2 (2 ^ l) ∙ ap (λ n. w / n) (omega arith) in
    ap (λ xs. xs ++ (w % 2 == 1) ∷ []) (first_low l (w / 2)) ∙ ap (λ n. (n % 2 == 1) ∷ low_bits (suc l) w) halves

-- the marks of a word by its highest bit that is one
pub marks_low : (l w : ℕ) → l < 64 → 2 ^ l ≤ w → w < 2 * 2 ^ l → bits_of_word w ≡ low_bits l w
marks_low l w le ge lt = below_low 63 l w (omega arith) ge lt

-- a word with one more mark
pub marks_more : (w b : ℕ) → 0 < w → w < 2 ^ 63 → b < 2 → bits_of_word (w * 2 + b) ≡ bits_of_word w ++ (b == 1) ∷ []
marks_more w b some room lt =
    let top = leading_top 63 w some room in
    let l = top.0 in
    let le : l < 63 = omega (arith, top.1) in
    let ge : 2 ^ l ≤ w = top.2 in
    let below : w < 2 ^ suc l = top.3 in
    let ge' : 2 ^ suc l ≤ w * 2 + b = omega arith in
    let below' : w * 2 + b < 2 * 2 ^ suc l = omega arith in
    marks_low (suc l) (w * 2 + b) (omega arith) ge' below' ∙ more_low l w b lt ∙ ap (λ xs. xs ++ (b == 1) ∷ []) (sym (marks_low l w (omega arith) ge (omega arith)))

pub marks_none : bits_of_word 1 ≡ []
unfolding bits_below_highest
marks_none = refl

-- MANY WORDS

-- a full word is added to the others
pub marks_put : (words : List ℕ) (last : ℕ)
    → bits_of_words (words ++ last ∷ []) 1 ≡ bits_of_words words last
marks_put words last =
    ap (λ xs. flat_map bits_of_word (words ++ last ∷ []) ++ xs) marks_none ∙ append-nil (flat_map bits_of_word (words ++ last ∷ []))
    ∙ flat_map-append bits_of_word words (last ∷ []) ∙ ap (λ xs. flat_map bits_of_word words ++ xs) (append-nil (bits_of_word last))

-- how many there are
below_few : (n w : ℕ) → length (bits_below_highest n w) ≤ n
unfolding bits_below_highest
below_few zero w = omega arith
below_few (suc n) w =
    let rest : length (bits_below_highest n (w / 2)) ≤ n = below_few n (w / 2) in
    let more : length (bits_below_highest n (w / 2) ++ (w % 2 == 1) ∷ []) ≤ suc n = omega (arith, length-append (bits_below_highest n (w / 2)) ((w % 2 == 1) ∷ [])) in
    elim (nat_le w 1) as (λ b. length (cond b [] (bits_below_highest n (w / 2) ++ (w % 2 == 1) ∷ [])) ≤ suc n) [ true ↦ omega arith | false ↦ more ]

words_few : (words : List ℕ) → length (flat_map bits_of_word words) ≤ 63 * length words
words_few [] = omega arith
words_few (w ∷ words) =
    let first : length (bits_of_word w) ≤ 63 = below_few 63 w in
    let rest = words_few words in
    omega (arith, length-append (bits_of_word w) (flat_map bits_of_word words))

pub marks_few : (words : List ℕ) (last : ℕ) → IsBitVec words last → length (bits_of_words words last) < 2 ^ 64
marks_few words last h =
    let few = h.few in
    let most = words_few words in
    let rest : length (bits_of_word last) ≤ 63 = below_few 63 last in
    omega (arith, length-append (flat_map bits_of_word words) (bits_of_word last))

-- WHAT IS LEFT

drop_past : (words : List ℕ) (place : ℕ) → length words ≤ place → drop place words ≡ []
drop_past [] zero le = refl
drop_past [] (suc place) le = refl
drop_past (w ∷ words) zero le = absurd (omega arith)
drop_past (w ∷ words) (suc place) le = drop_past words place (omega arith)

pub left_none : (words : List ℕ) (place : ℕ) → length words ≤ place → bits_of_words (drop place words) 1 ≡ []
left_none words place le = ap (λ ws. bits_of_words ws 1) (drop_past words place le) ∙ marks_none

-- after the other words comes the last
pub left_last : (words : List ℕ) (place last : ℕ) → length words ≤ place → bits_of_words (drop place words) last ≡ bits_of_word last ++ bits_of_words (drop place words) 1
left_last words place last le =
    ap (λ ws. bits_of_words ws last) (drop_past words place le) ∙ sym (append-nil (bits_of_word last)) ∙ ap (λ ms. bits_of_word last ++ ms) (sym (left_none words place le))

-- a word is begun if the one before has no mark left
pub word_begins : (seen : List Bool) (l w l' w' : ℕ) (ms ms' : List Bool) → low_bits l w ++ ms ≡ seen → l ≡ 0 → ms ≡ bits_of_word w' ++ ms' → l' < 64 → 2 ^ l' ≤ w' → w' < 2 * 2 ^ l'
    → seen ≡ low_bits l' w' ++ ms'
unfolding low_bits
word_begins seen l w l' w' ms ms' was none is le ge lt =
    sym was ∙ ap (λ k. low_bits k w ++ ms) none ∙ is ∙ ap (λ xs. xs ++ ms') (marks_low l' w' le ge lt)

pub word_without : (l w : ℕ) (ms : List Bool) → l ≡ 0 → ms ≡ [] → low_bits l w ++ ms ≡ []
unfolding low_bits
word_without l w ms none rest = ap (λ k. low_bits k w ++ ms) none ∙ rest

-- the first mark of a word that has been begun
pub left_next : (l w : ℕ) (ms : List Bool) → 0 < l → low_bits l w ++ ms ≡ (w / 2 ^ (l - 1) % 2 == 1) ∷ (low_bits (l - 1) w ++ ms)
left_next zero w ms some = absurd (omega arith)
left_next (suc l) w ms some = (let less : suc l - 1 ≡ l = omega arith in rw less (ap (λ xs. xs ++ ms) (first_low l w)))
