-- Words of a line: where the first ends, and that joining and splitting undo one another.
use Rattle.std.proofs.Common.{◌≡◌, ℕ, ◌+◌, ◌<◌, ◌≤◌, List, [], ◌∷◌, ◌++◌, length, take, drop, get_or, Bool, true, false, cond, eqb, not, refl, sym, ap, ◌∙◌, arith, length-take, length-drop, ◌-◌, ne_eqb, eq-eqb, add-one, drop-cons, true≢false}
use Rattle.std.proofs.lemmas.List.Sums.{prefix_len-le-length, prefix_len_passes}
use Rattle.std.specs.List.{position_or_len, slice_split, All, onto_first, join_with_byte, list_all}
use Rattle.std.proofs.lemmas.List.Splits.{slice_split_at, slice_split_none, join_with_byte-slice_split}
use Rattle.std.proofs.lemmas.List.{take-append-drop, take_all}
use Rattle.std.proofs.lemmas.List.Elements.{All-from_get_or, All-nil, All-cons}
use Rattle.std.proofs.lemmas.List.{get_or-take}
use Rattle.std.proofs.lemmas.Bool.{and_parts, not-true}
use Rattle.ec_text.specs.Words.{words_of, IsWord, AreWords}

no_space : (line : List ℕ) (i : ℕ) → i ≤ length line → ((k : ℕ) → k < i → get_or line k 0 ≡ 32 → ⊥) → All (λ b. eqb b 32 ≡ false) (take i line)
no_space line i within none = All-from_get_or (λ b. eqb b 32 ≡ false) (take i line) 0 (λ k h.
    let small : k < i = omega (arith, length-take i line) in
    let same : get_or (take i line) k 0 ≡ get_or line k 0 = get_or-take i line k 0 small in
    ne_eqb _ _ (λ e. none k small (sym same ∙ e)))

pub words_cut : (line : List ℕ) (i : ℕ) → i < length line → ((k : ℕ) → k < i → get_or line k 0 ≡ 32 → ⊥) → get_or line i 0 ≡ 32 → words_of line ≡ take i line ∷ words_of (drop (i + 1) line)
words_cut line i within none at =
    let e : line ≡ take i line ++ get_or line i 0 ∷ drop (i + 1) line =
    sym (take-append-drop i line) ∙ ap (λ (r : List ℕ). take i line ++ r) (rw (add-one, drop-cons line i 0) refl) in
    ap (slice_split (λ b. eqb b 32)) e ∙ slice_split_at (λ b. eqb b 32) (take i line) (get_or line i 0) (drop (i + 1) line) (no_space line i (omega arith) none) (eq-eqb _ _ at)

-- as the code's `&line[i + 1..]` says it
pub words_cut_slice : (line : List ℕ) (i : ℕ) → i < length line → ((k : ℕ) → k < i → get_or line k 0 ≡ 32 → ⊥) → get_or line i 0 ≡ 32 → words_of line ≡ take i line ∷ words_of (take (length line - (i + 1)) (drop (i + 1) line))
words_cut_slice line i within none at =
    let e : take (length line - (i + 1)) (drop (i + 1) line) ≡ drop (i + 1) line = take_all _ _ (omega (arith, length-drop (i + 1) line)) in
    words_cut line i within none at ∙ ap (λ (r : List ℕ). take i line ∷ words_of r) (sym e)

pub words_none : (line : List ℕ) → ((k : ℕ) → k < length line → get_or line k 0 ≡ 32 → ⊥) → words_of line ≡ line ∷ []
words_none line none = slice_split_none (λ b. eqb b 32) line (All-from_get_or (λ b. eqb b 32 ≡ false) line 0 (λ k h. ne_eqb _ _ (none k h)))

pub ruleset cuts = (words_cut_slice, words_none)

-- a count of the bytes before the first space, among the first ones, is at most the length of the line
pub front_within : (line : List ℕ) (m n : ℕ) → n ≡ position_or_len (λ b. eqb b 32) (take m line) → n ≤ length line
front_within line m n is = omega (arith, prefix_len-le-length (λ b. not (eqb b 32)) (take m line), length-take m line)

pub front_none : (line : List ℕ) (m n : ℕ) → n ≡ position_or_len (λ b. eqb b 32) (take m line) → (k : ℕ) → k < n → get_or line k 0 ≡ 32 → ⊥
front_none line m n is k before at =
    let passes = prefix_len_passes (λ b. not (eqb b 32)) (take m line) k 0 (omega arith) in
    let small : k < m = omega (arith, prefix_len-le-length (λ b. not (eqb b 32)) (take m line), length-take m line) in
    let same : get_or (take m line) k 0 ≡ get_or line k 0 = get_or-take m line k 0 small in
    let e : eqb (get_or (take m line) k 0) 32 ≡ true = eq-eqb _ _ (same ∙ at) in
    absurd (true≢false (sym e ∙ not-true _ passes))

pub ruleset fronts = (front_within, front_none)

-- a line has a first word
pub record HasFirst (line : List ℕ) : Type 0 where
  pub first : List ℕ
  pub others : List (List ℕ)
  pub is : words_of line ≡ first ∷ others

pub onto_has : (b : ℕ) (parts : List (List ℕ)) → (first : List ℕ) × (others : List (List ℕ)) × (onto_first b parts ≡ first ∷ others)
onto_has b [] = (b ∷ [], [], refl)
onto_has b (part ∷ parts) = (b ∷ part, parts, refl)

-- every line has a first word, if only an empty one
pub has_first : (line : List ℕ) → HasFirst line
has_first [] = record { first = []; others = []; is = refl }
has_first (b ∷ line) =
    let P : Bool → Type 0 = λ t. (first : List ℕ) × (others : List (List ℕ)) × (cond t ([] ∷ words_of line) (onto_first b (words_of line)) ≡ first ∷ others) in
    let w : P (eqb b 32) = elim (eqb b 32) as P [ true ↦ ([], words_of line, refl) | false ↦ onto_has b (words_of line) ] in
    record { first = w.0; others = w.1; is = w.2 }

-- words that are joined by single spaces are found again
pub words_join : (w : List ℕ) (ws : List (List ℕ)) → AreWords (w ∷ ws) → words_of (join_with_byte 32 (w ∷ ws)) ≡ w ∷ ws
words_join w [] all = slice_split_none (λ b. eqb b 32) w all.0
words_join w (v ∷ ws) all =
    slice_split_at (λ b. eqb b 32) w 32 (join_with_byte 32 (v ∷ ws)) all.0 refl ∙ ap (λ (r : List (List ℕ)). w ∷ r) (words_join v ws all.1)

-- the words of a line, joined by single spaces, are the line
pub split_join : (line : List ℕ) → join_with_byte 32 (words_of line) ≡ line
split_join line = join_with_byte-slice_split 32 line

onto_words : (b : ℕ) (ws : List (List ℕ)) → eqb b 32 ≡ false → AreWords ws → AreWords (onto_first b ws)
onto_words b [] apart all = (All-cons (λ x. eqb x 32 ≡ false) b [] apart (All-nil (λ x. eqb x 32 ≡ false)), tt)
onto_words b (w ∷ ws) apart all = (All-cons (λ x. eqb x 32 ≡ false) b w apart all.0, all.1)

word_step : (t : Bool) (b : ℕ) (ws : List (List ℕ)) → eqb b 32 ≡ t → AreWords ws → AreWords (cond t ([] ∷ ws) (onto_first b ws))
word_step true b ws is all = (All-nil (λ x. eqb x 32 ≡ false), all)
word_step false b ws is all = onto_words b ws is all

-- no word of a line has a space in it
pub are_words : (line : List ℕ) → AreWords (words_of line)
are_words [] = (All-nil (λ x. eqb x 32 ≡ false), tt)
are_words (b ∷ line) = word_step (eqb b 32) b (words_of line) refl (are_words line)

-- bytes that are seen to have no space are a word, as in `literal_word (codes "read") refl`
pub literal_word : (w : List ℕ) → list_all (λ b. not (eqb b 32)) w ≡ true → IsWord w
literal_word [] is = All-nil (λ x. eqb x 32 ≡ false)
literal_word (b ∷ w) is =
    let p = and_parts (not (eqb b 32)) (list_all (λ c. not (eqb c 32)) w) is in
    All-cons (λ x. eqb x 32 ≡ false) b w (not-true _ p.0) (literal_word w p.1)

-- the words of a word, a space and more are that word and the words of what is after the space
pub words_at : (w rest : List ℕ) → IsWord w → words_of (w ++ 32 ∷ rest) ≡ w ∷ words_of rest
words_at w rest is = slice_split_at (λ b. eqb b 32) w 32 rest is refl

-- a word without a space is a line of one word
pub words_alone : (w : List ℕ) → IsWord w → words_of w ≡ w ∷ []
words_alone w is = slice_split_none (λ b. eqb b 32) w is
