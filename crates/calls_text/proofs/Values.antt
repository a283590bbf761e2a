-- Words that are read as numbers are their digits, and a list is found by its number.
use Rattle.std.proofs.Common.{◌≡◌, ℕ, suc, ◌+◌, ◌-◌, List, [], ◌∷◌, ◌++◌, length, map, Bool, true}
use Rattle.std.proofs.Common.{false, cond, eqb, not, ◌||◌, Option, Some, None, refl, sym, ap, ◌∙◌}
use Rattle.std.proofs.Common.{arith, decimal, replicate, get_or, append-nil, ap₂}
use Rattle.std.specs.Prelude.{bytes_eq, is_none, unwrap_or}
use Rattle.std.specs.Option.{option_map_or}
use Rattle.std.specs.List.{list_any, position_or_len, join_with_byte}
use Rattle.std.proofs.lemmas.Bool.{and_parts, or_parts, eqb-true, ne_eqb}
use Rattle.std.proofs.lemmas.Slice.Eq.{bytes_eq-Decides}
use Rattle.ec_text.specs.Words.{number_in_word}
use Rattle.ec_text.proofs.shared.NumberLemmas.{number_takes}
use Rattle.ec_heading.specs.Recalled.{with_spaces as spaced_words}
use Rattle.calls_text.specs.Forms.{only_in}
use Rattle.calls_text.specs.Lists.{is_zeros, list_number, lists_after}
use Rattle.calls_text.specs.Reading.{is_no_number, number_or_0, only_number, numbers_in}
use Rattle.calls_text.specs.Spelling.{numbers_of_list, numbers_after_spaces}

-- WORDS AND NUMBERS

some_number : (w : List ℕ) (o : Option ℕ) → number_in_word w ≡ o → is_none o ≡ false
    → w ≡ decimal (unwrap_or o 0)
some_number w None is some = cc
some_number w (Some n) is some = (number_takes w n is).0

-- a word that spells a number is its digits
pub word_number : (w : List ℕ) → is_no_number w ≡ false → w ≡ decimal (number_or_0 w)
word_number w some = some_number w (number_in_word w) refl some

-- words that spell numbers are the digits of each
pub words_numbers : (ws : List (List ℕ)) → list_any is_no_number ws ≡ false
    → ws ≡ map decimal (numbers_in ws)
words_numbers [] all = refl
words_numbers (w ∷ ws) all =
    let n = or_parts (is_no_number w) (list_any is_no_number ws) all in
    ap₂ (λ (x : List ℕ) (xs : List (List ℕ)). x ∷ xs) (word_number w n.0) (words_numbers ws n.1)

-- the digits of each number, each after a space
pub spaced_numbers : (ns : List ℕ) → spaced_words (map decimal ns) ≡ numbers_after_spaces ns
spaced_numbers [] = refl
spaced_numbers (n ∷ ns) = ap (λ (r : List ℕ). (32 ∷ decimal n) ++ r) (spaced_numbers ns)

pub words_spaced : (ws : List (List ℕ)) → list_any is_no_number ws ≡ false
    → spaced_words ws ≡ numbers_after_spaces (numbers_in ws)
words_spaced ws all = ap spaced_words (words_numbers ws all) ∙ spaced_numbers (numbers_in ws)

-- the only word, after a space
pub one_spaced : (ws : List (List ℕ)) → length ws ≡ 1
    → option_map_or is_no_number (only_in ws) false ≡ false
    → spaced_words ws ≡ numbers_after_spaces (only_number ws ∷ [])
one_spaced [] one some = absurd (omega (arith, one))
one_spaced (w ∷ []) one some =
    ap (λ (x : List ℕ). (32 ∷ x) ++ []) (word_number w some)
one_spaced (w ∷ v ∷ ws) one some = absurd (omega (arith, one))

-- words after the first one
pub join_spaced : (w : List ℕ) (ws : List (List ℕ))
    → join_with_byte 32 (w ∷ ws) ≡ w ++ spaced_words ws
join_spaced w [] = sym (append-nil w)
join_spaced w (v ∷ ws) = ap (λ (r : List ℕ). w ++ 32 ∷ r) (join_spaced v ws)

-- LISTS

zeros_are : (l : List ℕ) → is_zeros l ≡ true → replicate (length l) 0 ≡ l
zeros_are [] all = refl
zeros_are (n ∷ l) all =
    let p = and_parts (eqb n 0) (is_zeros l) all in
    ap₂ (λ (x : ℕ) (xs : List ℕ). x ∷ xs) (sym (eqb-true n 0 p.0)) (zeros_are l p.1)

next_at : {A : Type 0} (x : A) (xs : List A) (i : ℕ) (d : A)
    → get_or (x ∷ xs) (1 + i) d ≡ get_or xs i d
next_at x xs i d = let next : 1 + i ≡ suc i = omega arith in ap (λ j. get_or (x ∷ xs) j d) next

-- a stored list is found at its index, whatever lists are added
there_at : (l : List ℕ) (lists more : List (List ℕ)) → list_any (bytes_eq l) lists ≡ true
    → get_or (lists ++ more) (position_or_len (bytes_eq l) lists) [] ≡ l
there_at l [] more there = cc
there_at l (x ∷ lists) more there =
    elim (bytes_eq l x) as (λ b. bytes_eq l x ≡ b
    → (b || list_any (bytes_eq l) lists) ≡ true
    → get_or (x ∷ lists ++ more) (cond (not b) (1 + position_or_len (bytes_eq l) lists) 0) []
    ≡ l) [
      | true ↦ λ q g. sym ((bytes_eq-Decides l x).0 q)
      | false ↦ λ q g.
          next_at x (lists ++ more) (position_or_len (bytes_eq l) lists) []
          ∙ there_at l lists more g
    ] refl there

-- a new list is found at its index once it is added
new_at : (l : List ℕ) (lists more : List (List ℕ)) → list_any (bytes_eq l) lists ≡ false
    → get_or ((lists ++ l ∷ []) ++ more) (position_or_len (bytes_eq l) lists) [] ≡ l
new_at l [] more none = refl
new_at l (x ∷ lists) more none =
    let n = or_parts (bytes_eq l x) (list_any (bytes_eq l) lists) none in
    ap (λ (b : Bool). get_or (x ∷ (lists ++ l ∷ []) ++ more)
    (cond (not b) (1 + position_or_len (bytes_eq l) lists) 0) []) n.0
    ∙ next_at x ((lists ++ l ∷ []) ++ more) (position_or_len (bytes_eq l) lists) []
    ∙ new_at l lists more n.1

placed : (l : List ℕ) (lists more : List (List ℕ)) (b : Bool)
    → list_any (bytes_eq l) lists ≡ b
    → get_or (cond b lists (lists ++ l ∷ []) ++ more) (position_or_len (bytes_eq l) lists) [] ≡ l
placed l lists more true is = there_at l lists more is
placed l lists more false is = new_at l lists more is

numbered : (cells i : ℕ) (lists : List (List ℕ))
    → numbers_of_list lists cells (i + 1) ≡ get_or lists i []
numbered cells i lists =
    let some : eqb (i + 1) 0 ≡ false = ne_eqb (i + 1) 0 (λ e. (omega (arith, e))) in
    let one : i + 1 - 1 ≡ i = omega arith in
    rw (some, one) refl

found : (l : List ℕ) (cells : ℕ) (lists more : List (List ℕ)) (b : Bool) → is_zeros l ≡ b
    → length l ≡ cells
    → numbers_of_list (cond b lists (cond (list_any (bytes_eq l) lists) lists (lists ++ l ∷ []))
    ++ more)
    cells (cond b 0 (position_or_len (bytes_eq l) lists + 1)) ≡ l
found l cells lists more true is long =
    ap (λ (n : ℕ). replicate n 0) (sym long) ∙ zeros_are l is
found l cells lists more false is long =
    numbered cells (position_or_len (bytes_eq l) lists)
    (cond (list_any (bytes_eq l) lists) lists (lists ++ l ∷ []) ++ more)
    ∙ placed l lists more (list_any (bytes_eq l) lists) refl

-- a list is found by its number, whatever lists are added after it
pub list_found : (l : List ℕ) (cells : ℕ) (lists more : List (List ℕ)) → length l ≡ cells
    → numbers_of_list (lists_after lists l ++ more) cells (list_number lists l) ≡ l
list_found l cells lists more long = found l cells lists more (is_zeros l) refl long
