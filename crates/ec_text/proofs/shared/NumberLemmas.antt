-- Numbers and their digits.
use Rattle.std.proofs.Common.{◌≡◌, ℕ, ◌+◌, ◌*◌, ◌-◌, ◌<◌, ◌≤◌, ◌^◌, List, [], ◌∷◌, length, drop, get_or, cond, Bool, true, false, ltb, eqb, not, ◌&&◌, Option, None, Some, refl, sym, ap, ◌∙◌, arith, rules, add-one, drop-cons, decimal, lt-ltb, ltb-true, suc, inl, inr}
use Rattle.std.specs.Char.{is_ascii_digit}
use Rattle.std.specs.List.{list_all}
use Rattle.std.specs.Prelude.{IsSome, ◌↔◌, bytes_eq}
use Rattle.std.specs.Str.{all_ascii_digits}
use Rattle.std.proofs.lemmas.Str.Parse.{IsNumeralModel, numerals_by_fold, not_in_digits}
use Rattle.std.proofs.lemmas.Fmt.{decimal-digits_value, digits_decimal, digits_value-decimal, first_decimal, decimal_nonempty, decimal_digit, length-decimal-le}
use Rattle.std.proofs.lemmas.Bool.{cond-true, and_parts, and_from, or_cases, or_right, eqb-true, eqb-false, ne_eqb, not-true, not_from_false, cases_lt, false_from_ne_true}
use Rattle.std.proofs.lemmas.List.Elements.{All-from_get_or}
use Rattle.std.proofs.lemmas.Slice.Eq.{bytes_eq-Decides}
use Rattle.std.proofs.lemmas.List.{drop_all}
use Rattle.std.proofs.Math.Nat.{pow-succ', pow-le-pow_right}
use Rattle.ec_text.specs.Words.{digits_from, number_in_word, has_form, is_number_form, value_from, IsWord}

pub digits_from_step : (n i : ℕ) (word : List ℕ) → i < length word → digits_from n (drop i word) ≡ cond (is_ascii_digit (get_or word i 0) && ltb n 100000000000000000) (digits_from (10 * n + (get_or word i 0 - 48)) (drop (i + 1) word)) None
unfolding digits_from
digits_from_step n i word h =
    let e : drop i word ≡ get_or word i 0 ∷ drop (i + 1) word = rw (add-one, drop-cons word i 0) refl in
    rw e refl

pub digits_from_end : (n i : ℕ) (word : List ℕ) → length word ≤ i → digits_from n (drop i word) ≡ Some n
unfolding digits_from
digits_from_end n i word h = let e : drop i word ≡ [] = drop_all i word h in rw e refl

pub ruleset digits_steps = (digits_from_step, digits_from_end)

-- an option under a test has a value only if the test holds, and it is the value without the test
pub guarded : {X : Type 0} (b : Bool) (x : Option X) (m : X) → cond b x None ≡ Some m → (b ≡ true) × (x ≡ Some m)
guarded true x m e = (refl, e)
guarded false x m e = cc

-- the test whether all bytes are digits, and the number that they spell, are those of std
pub own : IsNumeralModel (λ ds. all_ascii_digits ds ≡ true) (value_from 0)
own = numerals_by_fold _ (search rules) value_from (search rules)

value_from-ge : (n : ℕ) (w : List ℕ) → n ≤ value_from n w
value_from-ge n [] = omega arith
value_from-ge n (c ∷ w) = omega (arith, value_from-ge (10 * n + (c - 48)) w)

-- what is read is digits that spell it
pub reads : (n m : ℕ) (w : List ℕ) → n < 1000000000000000000 → digits_from n w ≡ Some m → (all_ascii_digits w ≡ true) × (m ≡ value_from n w) × (m < 1000000000000000000)
unfolding digits_from
reads n m [] small e = let same : m ≡ n = cc in (refl, same, omega arith)
reads n m (c ∷ w) small e =
    let g = guarded (is_ascii_digit c && ltb n 100000000000000000) _ m e in
    let p = and_parts (is_ascii_digit c) (ltb n 100000000000000000) g.0 in
    let low : n < 100000000000000000 = ltb-true _ _ p.1 in
    let digit : c ≤ 57 = search (rules, p.0) in
    let r = reads (10 * n + (c - 48)) m w (omega arith) g.1 in
    (and_from _ _ p.0 r.0, r.1, r.2)

-- digits that spell a number below 10 ^ 18 are read as it
pub spelled : (n : ℕ) (w : List ℕ) → all_ascii_digits w ≡ true → value_from n w < 1000000000000000000 → digits_from n w ≡ Some (value_from n w)
unfolding digits_from
spelled n [] d small = refl
spelled n (c ∷ w) d small =
    let p = and_parts (is_ascii_digit c) (all_ascii_digits w) d in
    let l : ltb n 100000000000000000 ≡ true = lt-ltb _ _ (omega (arith, value_from-ge (10 * n + (c - 48)) w)) in
    rw (p.0, l) (spelled (10 * n + (c - 48)) w p.1 small)

has_form_parts : (w : List ℕ) → has_form w ≡ true → (0 < length w) × (get_or w 0 0 ≡ 48 → length w ≡ 1)
has_form_parts w e = elim (or_cases (eqb (length w) 1) (ltb 0 (length w) && not (eqb (get_or w 0 0) 48)) e) [
  | inl one ↦ let l : length w ≡ 1 = eqb-true _ _ one in (omega arith, λ _. l)
  | inr two ↦
      let p = and_parts (ltb 0 (length w)) (not (eqb (get_or w 0 0) 48)) two in
      let other : get_or w 0 0 ≡ 48 → ⊥ = eqb-false _ _ (not-true _ p.1) in
      (ltb-true _ _ p.0, λ is. absurd (other is))
]

-- a word that is read as a number is the digits of that number, which is below 10 ^ 18
pub number_takes : (w : List ℕ) (n : ℕ) → number_in_word w ≡ Some n → (w ≡ decimal n) × (n < 1000000000000000000)
number_takes w n e =
    let g = guarded (has_form w) _ n e in
    let r = reads 0 n w (omega arith) g.1 in
    let f = has_form_parts w g.0 in
    let small : value_from 0 w < 2 ^ 64 = omega (arith, r.1, r.2) in
    let d : decimal (value_from 0 w) ≡ w = decimal-digits_value own w r.0 f.0 f.1 small in
    (sym d ∙ ap decimal (sym r.1), r.2)

has_form_decimal : (n : ℕ) → n < 1000000000000000000 → has_form (decimal n) ≡ true
has_form_decimal n small = elim (cases_lt 0 n) [
  | inl some ↦
      let head : 48 < get_or (decimal n) 0 0 = first_decimal n some (omega arith) in
      let long : ltb 0 (length (decimal n)) ≡ true = lt-ltb _ _ (decimal_nonempty n (omega arith)) in
      let other : not (eqb (get_or (decimal n) 0 0) 48) ≡ true = not_from_false _ (ne_eqb _ _ (λ is. omega arith)) in
      or_right _ _ (and_from _ _ long other)
  | inr none ↦
      let zero : n ≡ 0 = omega arith in
      let d : decimal n ≡ 48 ∷ [] = ap decimal zero ∙ decimal_digit 0 (omega arith) in
      ap has_form d
]

-- the digits of a number below 10 ^ 18 are read as that number
pub number_again : (n : ℕ) → n < 1000000000000000000 → number_in_word (decimal n) ≡ Some n
number_again n small =
    let d : all_ascii_digits (decimal n) ≡ true = digits_decimal own n (omega arith) in
    let v : value_from 0 (decimal n) ≡ n = digits_value-decimal own n (omega arith) in
    cond-true _ _ _ (has_form_decimal n small) ∙ spelled 0 (decimal n) d (omega (arith, v)) ∙ ap Some v

all_digits-list_all : (w : List ℕ) → all_ascii_digits w ≡ list_all is_ascii_digit w
all_digits-list_all [] = refl
all_digits-list_all (c ∷ w) = ap (λ (b : Bool). is_ascii_digit c && b) (all_digits-list_all w)

-- a word that is read as a number has the form of one, and at most 18 digits
pub number_is_form : (w : List ℕ) (n : ℕ) → number_in_word w ≡ Some n → (is_number_form w ≡ true) × (length w ≤ 18)
number_is_form w n e =
    let g = guarded (has_form w) _ n e in
    let r = reads 0 n w (omega arith) g.1 in
    let t = number_takes w n e in
    let d : list_all is_ascii_digit w ≡ true = sym (all_digits-list_all w) ∙ r.0 in
    (and_from _ _ g.0 d, omega (arith, length-decimal-le 18 n (omega arith) t.1 (omega arith), ap length t.0))

power_below : (m : ℕ) → m + 1 ≤ 18 → 10 ^ m ≤ 10 ^ 17
power_below m within = let low : m ≤ 17 = omega arith in pow-le-pow_right {n = 10} (omega arith) {i = m} {j = 17} low

-- up to 18 digits are read
digits_fit : (m n : ℕ) (w : List ℕ) → all_ascii_digits w ≡ true → n < 10 ^ m → m + length w ≤ 18 → IsSome (digits_from n w)
unfolding digits_from
digits_fit m n [] d small within = search rules
digits_fit m n (c ∷ w) d small within =
    let p = and_parts (is_ascii_digit c) (all_ascii_digits w) d in
    let b : 10 ^ m ≤ 10 ^ 17 = power_below m (omega arith) in
    let l : ltb n 100000000000000000 ≡ true = lt-ltb _ _ (omega arith) in
    let digit : c ≤ 57 = search (rules, p.0) in
    let next : 10 ^ suc m ≡ 10 * 10 ^ m = pow-succ' 10 m in
    rw (p.0, l) (digits_fit (suc m) (10 * n + (c - 48)) w p.1 (omega (arith, next)) (omega arith))

pub form_is_number : (w : List ℕ) → is_number_form w ≡ true → length w ≤ 18
    → IsSome (number_in_word w)
form_is_number w form short =
    let p = and_parts (has_form w) (list_all is_ascii_digit w) form in
    rw p.0 (digits_fit 0 0 w (all_digits-list_all w ∙ p.1) (omega arith) (omega arith))

some_number : (w : List ℕ) (o : Option ℕ) → number_in_word w ≡ o → IsSome o → (is_number_form w ≡ true) × (length w ≤ 18)
some_number w None e some = absurd (search rules)
some_number w (Some n) e some = number_is_form w n e

-- a word is a number exactly if it has the form and at most 18 digits
pub numbers_short : (w : List ℕ) → IsSome (number_in_word w) ↔ ((is_number_form w ≡ true) × (length w ≤ 18))
numbers_short w =
    (λ some. some_number w (number_in_word w) refl some, λ p. form_is_number w p.0 p.1)

first_digit : (w : List ℕ) → 0 < length w → all_ascii_digits w ≡ true → is_ascii_digit (get_or w 0 0) ≡ true
first_digit [] some d = absurd (omega arith)
first_digit (c ∷ w) some d = (and_parts (is_ascii_digit c) (all_ascii_digits w) d).0

always_none : (b : Bool) → let none : Option ℕ = None in cond b none none ≡ none
always_none true = refl
always_none false = refl

-- a number has no space
pub number_word : (n : ℕ) → n < 1000000000000000000 → IsWord (decimal n)
number_word n small =
    All-from_get_or (λ b. eqb b 32 ≡ false) (decimal n) 0 (λ i h. ne_eqb _ _ (not_in_digits own (decimal n) 32 (digits_decimal own n (omega arith)) (λ r. omega arith) i h))

-- a word that doesn't begin with a digit, as `codes "done"`, is not the digits of a number
pub number_is_other : (n : ℕ) (w : List ℕ) → n < 1000000000000000000 → is_ascii_digit (get_or w 0 0) ≡ false → bytes_eq (decimal n) w ≡ false
number_is_other n w small other = false_from_ne_true _ (λ e.
    let same : decimal n ≡ w = (bytes_eq-Decides (decimal n) w).0 e in
    let digit : is_ascii_digit (get_or (decimal n) 0 0) ≡ true = first_digit (decimal n) (decimal_nonempty n (omega arith)) (digits_decimal own n (omega arith)) in
    let both : true ≡ false = sym digit ∙ ap (λ (x : List ℕ). is_ascii_digit (get_or x 0 0)) same ∙ other in
    cc)

-- a word that doesn't begin with a digit is not read as a number
pub no_number : (w : List ℕ) → is_ascii_digit (get_or w 0 0) ≡ false → number_in_word w ≡ None
unfolding digits_from
no_number [] other = refl
no_number (c ∷ w) other = rw other (always_none (has_form (c ∷ w)))
