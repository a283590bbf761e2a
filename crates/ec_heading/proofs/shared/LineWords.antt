-- The words of a line that joins them are found again.
use Rattle.std.proofs.Common.{◌≡◌, ℕ, ◌+◌, ◌*◌, ◌≤◌, List, [], ◌∷◌, ◌++◌, length, false, true, eqb, ltb, refl, ap, ◌∙◌, arith, length-append, All, zero-le}
use Rattle.std.specs.List.{list_any, AllByRecursion, join_with_byte}
use Rattle.std.proofs.lemmas.Bool.{or_from, le-ltb, cond-false}
use Rattle.ec_text.specs.Words.{words_of, IsWord, AreWords}
use Rattle.ec_text.proofs.shared.WordLemmas.{words_join}
use Rattle.ec_count.specs.Reserved.{is_name}
use Rattle.ec_heading.specs.HeadingModel.{HeadingModel}
use Rattle.ec_heading.specs.Heading.{head_step, words_step, is_no_line}
use Rattle.ec_heading.specs.Spelling.{list_words}
use Rattle.ec_heading.proofs.shared.NameWords.{IsNamed, named, name_is_word, name_not_empty}
use Rattle.ec_heading.proofs.shared.Listed.{AreBelow}

-- a word that may be in a line
pub record IsFit (w : List ℕ) : Type 0 where
  pub word : IsWord w
  pub some : eqb (length w) 0 ≡ false

-- each of the words may be in a line
abbrev pub AreFit : List (List ℕ) → Type 0
AreFit ws = AllByRecursion IsFit ws

pub fit-append : (vs ws : List (List ℕ)) → AreFit vs → AreFit ws → AreFit (vs ++ ws)
fit-append [] ws h k = k
fit-append (v ∷ vs) ws h k = (h.0, fit-append vs ws h.1 k)

pub fit_words : (ws : List (List ℕ)) → AreFit ws → AreWords ws
fit_words [] h = tt
fit_words (w ∷ ws) h = (h.0.word, fit_words ws h.1)

pub none_empty : (ws : List (List ℕ)) → AreFit ws → list_any (λ w. eqb (length w) 0) ws ≡ false
none_empty [] h = refl
none_empty (w ∷ ws) h = or_from _ _ h.0.some (none_empty ws h.1)

-- how many bytes the words have, each with a space
abbrev pub letters : List (List ℕ) → ℕ
letters [] = 0
letters (w ∷ ws) = length w + 1 + letters ws

pub letters-append : (vs ws : List (List ℕ)) → letters (vs ++ ws) ≡ letters vs + letters ws
letters-append [] ws = omega arith
letters-append (v ∷ vs) ws = omega (arith, letters-append vs ws)

pub join_length : (ws : List (List ℕ)) → length (join_with_byte 32 ws) ≤ letters ws
join_length [] = zero-le
join_length (w ∷ []) = omega arith
join_length (w ∷ v ∷ ws) = omega (arith, length-append w (32 ∷ join_with_byte 32 (v ∷ ws)), join_length (v ∷ ws))

-- the step of a line that joins fit words is the step of these words
pub line_read : (h : HeadingModel) (w : List ℕ) (ws : List (List ℕ)) → AreFit (w ∷ ws) → letters (w ∷ ws) ≤ 8192 → head_step h (join_with_byte 32 (w ∷ ws)) ≡ words_step h (w ∷ ws)
unfolding head_step
line_read h w ws fit short =
    let line : List ℕ = join_with_byte 32 (w ∷ ws) in
    let words : words_of (join_with_byte 32 (w ∷ ws)) ≡ w ∷ ws = words_join w ws (fit_words (w ∷ ws) fit) in
    let long : ltb 8192 (length (join_with_byte 32 (w ∷ ws))) ≡ false = le-ltb 8192 (length (join_with_byte 32 (w ∷ ws))) (omega (arith, short, join_length (w ∷ ws))) in
    let full : list_any (λ v. eqb (length v) 0) (words_of (join_with_byte 32 (w ∷ ws))) ≡ false = ap (list_any (λ v. eqb (length v) 0)) words ∙ none_empty (w ∷ ws) fit in
    let is : is_no_line (join_with_byte 32 (w ∷ ws)) ≡ false = or_from _ _ long full in
    cond-false _ _ _ is ∙ ap (words_step h) words

-- NAMES

-- each of the words is a name
abbrev pub AreNamed : List (List ℕ) → Type 0
AreNamed ws = AllByRecursion (λ w. is_name w ≡ true) ws

-- names may be in a line
pub names_fit : (ws : List (List ℕ)) → AreNamed ws → AreFit ws
names_fit [] h = tt
names_fit (w ∷ ws) h = (record { word = name_is_word w h.0; some = name_not_empty w h.0 }, names_fit ws h.1)

-- names, each with a space, have at most 17 bytes apiece
pub names_letters : (ws : List (List ℕ)) → AreNamed ws → letters ws ≤ 17 * length ws
names_letters [] h = zero-le
names_letters (w ∷ ws) h = (let n : IsNamed w = named w h.0 in omega (arith, n.short, names_letters ws h.1))

-- the names of workers in a list are names
pub listed_named : (ws : List (List ℕ)) (ids : List ℕ) → All (λ w. is_name w ≡ true) ws → AreBelow (length ws) ids → AreNamed (list_words ws ids)
listed_named ws [] h below = tt
listed_named ws (i ∷ ids) h below = (h i [] below.0, listed_named ws ids h below.1)

-- a list of workers has as many names as numbers
pub listed_length : (ws : List (List ℕ)) (ids : List ℕ) → length (list_words ws ids) ≡ length ids
listed_length ws [] = refl
listed_length ws (i ∷ ids) = omega (arith, listed_length ws ids)
