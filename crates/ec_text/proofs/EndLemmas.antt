-- Numbers that are read from the end of a text.
use Rattle.std.proofs.Common.{◌≡◌, ℕ, zero, suc, ◌+◌, ◌*◌, ◌-◌, ◌<◌, ◌≤◌, ◌^◌, List, [], ◌∷◌, ◌++◌, length, take, drop, get_or, true, false, eqb, Some, refl, sym, ap, ◌∙◌, arith, rules, add-one, drop-cons, length-drop, length-append, length-take, true≢false, ne_eqb, inl, inr}
use Rattle.std.specs.Char.{is_ascii_digit}
use Rattle.std.specs.Str.{all_ascii_digits}
use Rattle.std.proofs.lemmas.Bool.{and_parts, and_from, cond-true, cases_lt}
use Rattle.std.proofs.lemmas.List.{take-append-drop, take_all, get_or-drop}
use Rattle.std.proofs.lemmas.List.Elements.{All-from_get_or}
use Rattle.std.proofs.Math.Nat.{pow-succ', pow-le-pow_right, mul-le-mul_right}
use Rattle.ec_text.specs.Words.{number_in_word, has_form, value_from, IsWord, EndsInNumber, AreDigits}
use Rattle.ec_text.proofs.shared.NumberLemmas.{guarded, reads, spelled, number_is_form}

-- digits after a number multiply it by a power of 10, and add their own number
value_more : (n : ℕ) (w : List ℕ) → value_from n w ≡ n * 10 ^ length w + value_from 0 w
value_more n [] = omega arith
value_more n (c ∷ w) =
    let a = value_more (10 * n + (c - 48)) w in
    let b = value_more (10 * 0 + (c - 48)) w in
    omega (arith, a, b, ap (λ (x : ℕ). n * x) (pow-succ' 10 (length w)))

value_below : (w : List ℕ) → all_ascii_digits w ≡ true → value_from 0 w < 10 ^ length w
value_below [] d = omega arith
value_below (c ∷ w) d =
    let p = and_parts (is_ascii_digit c) (all_ascii_digits w) d in
    let digit : c ≤ 57 = search (rules, p.0) in
    let rest = value_below w p.1 in
    let a = value_more (10 * 0 + (c - 48)) w in
    let few : c - 48 ≤ 9 = omega arith in
    let most : (c - 48) * 10 ^ length w ≤ 9 * 10 ^ length w = mul-le-mul_right (10 ^ length w) few in
    omega (arith, a, rest, most, pow-succ' 10 (length w))

-- no digits
pub no_digits : (text : List ℕ) → AreDigits (drop (length text) text) 0
no_digits text = rw (drop_none text) (record { digits = refl; value = refl })
  where
    drop_none : (xs : List ℕ) → drop (length xs) xs ≡ []
    drop_none [] = refl
    drop_none (x ∷ xs) = drop_none xs

power_small : (m : ℕ) → m ≤ 18 → 10 ^ m ≤ 1000000000000000000
power_small m within = pow-le-pow_right {n = 10} (omega arith) {i = m} {j = 18} within

digits_small : (text : List ℕ) (i n : ℕ) → length text < i + 19 → AreDigits (drop i text) n → n < 1000000000000000000
digits_small text i n short are =
    let below = value_below (drop i text) are.digits in
    let p = power_small (length (drop i text)) (omega (arith, length-drop i text)) in
    omega (arith, are.value)

-- one more digit before up to 18 others: all numbers are small, and the digits are one more
pub record IsRead (text : List ℕ) (i n weight d : ℕ) : Type 0 where
  pub number_small : n < 1000000000000000000
  pub weight_small : weight ≤ 1000000000000000000
  pub digit_small : d * weight ≤ 9000000000000000000
  pub digits : AreDigits (drop (i - 1) text) (n + d * weight)
  pub weight_more : weight * 10 ≡ 10 ^ (length text - (i - 1))

digits_more : (text : List ℕ) (i j n weight : ℕ) → i ≡ suc j → j < length text → AreDigits (drop i text) n → weight ≡ 10 ^ (length text - i) → is_ascii_digit (get_or text j 0) ≡ true
    → AreDigits (drop j text) (n + (get_or text j 0 - 48) * weight)
digits_more text i j n weight next within are is digit =
    let e : drop j text ≡ get_or text j 0 ∷ drop i text = drop-cons text j 0 within ∙ ap (λ (k : ℕ). get_or text j 0 ∷ drop k text) (sym next) in
    let more = value_more (10 * 0 + (get_or text j 0 - 48)) (drop i text) in
    let w : weight ≡ 10 ^ length (drop i text) = is ∙ ap (λ (k : ℕ). 10 ^ k) (sym (length-drop i text)) in
    rw e (record { digits = and_from _ _ digit are.digits; value = rw w (omega (arith, more, are.value)) })

pub is_read : (text : List ℕ) (i n weight d : ℕ) → 0 < i → i ≤ length text → length text < i + 19 → AreDigits (drop i text) n → weight ≡ 10 ^ (length text - i) → is_ascii_digit (get_or text (i - 1) 0) ≡ true
    → d ≡ get_or text (i - 1) 0 - 48 → IsRead text i n weight d
is_read text i n weight d some within short are is digit value =
    let at : length text - (i - 1) ≡ suc (length text - i) = omega arith in
    let byte : get_or text (i - 1) 0 ≤ 57 = search (rules, digit) in
    let few : d ≤ 9 = omega arith in
    let small : weight ≤ 1000000000000000000 = rw is (power_small (length text - i) (omega arith)) in
    let most : d * weight ≤ 9 * weight = mul-le-mul_right weight few in
    record {
      number_small = digits_small text i n short are;
      weight_small = small;
      digit_small = omega arith;
      digits = rw value (digits_more text i (i - 1) n weight (omega arith) (omega arith) are is digit);
      weight_more = rw (at, pow-succ' 10 (length text - i), is) (omega arith);
    }

-- ---- where a text ends in a number

digit_in : (w : List ℕ) (k : ℕ) → all_ascii_digits w ≡ true → k < length w → is_ascii_digit (get_or w k 0) ≡ true
digit_in [] k d within = absurd (omega arith)
digit_in (c ∷ w) zero d within = (and_parts (is_ascii_digit c) (all_ascii_digits w) d).0
digit_in (c ∷ w) (suc k) d within = digit_in w k (and_parts (is_ascii_digit c) (all_ascii_digits w) d).1 (omega arith)

digit_at : (text : List ℕ) (i k : ℕ) → all_ascii_digits (drop i text) ≡ true → i ≤ k → k < length text → is_ascii_digit (get_or text k 0) ≡ true
digit_at text i k d from within =
    let at : i + (k - i) ≡ k = omega arith in
    ap is_ascii_digit (ap (λ (j : ℕ). get_or text j 0) (sym at) ∙ sym (get_or-drop i text (k - i) 0)) ∙ digit_in (drop i text) (k - i) d (omega (arith, length-drop i text))

digit_no_space : (b : ℕ) → is_ascii_digit b ≡ true → b ≡ 32 → ⊥
digit_no_space b is space = (let no : is_ascii_digit 32 ≡ true = sym (ap is_ascii_digit space) ∙ is in cc)

digits_word : (w : List ℕ) → all_ascii_digits w ≡ true → IsWord w
digits_word w d = All-from_get_or (λ b. eqb b 32 ≡ false) w 0 (λ k h. ne_eqb _ _ (digit_no_space _ (digit_in w k d h)))

-- as the code's `&text[i + 1..]` says what is after the space
behind_all : (text : List ℕ) (i : ℕ) → take (length text - (i + 1)) (drop (i + 1) text) ≡ drop (i + 1) text
behind_all text i = take_all _ _ (omega (arith, length-drop (i + 1) text))

whole : (text : List ℕ) (i : ℕ) → i < length text → get_or text i 0 ≡ 32 → text ≡ take i text ++ 32 ∷ drop (i + 1) text
whole text i within at =
    let f : drop i text ≡ 32 ∷ drop (i + 1) text = rw (add-one, drop-cons text i 0) (rw at) in
    sym (take-append-drop i text) ∙ ap (λ (r : List ℕ). take i text ++ r) f

-- a space, and digits in the form of a number
pub ends_so : (text : List ℕ) (i n : ℕ) → i < length text → length text < i + 20 → AreDigits (drop (i + 1) text) n → get_or text i 0 ≡ 32 → has_form (take (length text - (i + 1)) (drop (i + 1) text)) ≡ true → EndsInNumber text i n
ends_so text i n within short are at form =
    let small = digits_small text (i + 1) n (omega arith) are in
    let f : has_form (drop (i + 1) text) ≡ true = ap has_form (sym (behind_all text i)) ∙ form in (
      (whole text i within at, digits_word _ are.digits),
      cond-true _ _ _ f ∙ spelled 0 (drop (i + 1) text) are.digits (omega (arith, are.value)) ∙ ap Some (sym are.value),
    )

place_within : (text : List ℕ) (q : ℕ) → text ≡ take q text ++ 32 ∷ drop (q + 1) text → q < length text
place_within text q is = omega (arith, ap length is, length-append (take q text) (32 ∷ drop (q + 1) text), length-take q text, length-drop (q + 1) text)

read_seam : (a b : List ℕ) (x : ℕ) → get_or (a ++ x ∷ b) (length a) 0 ≡ x
read_seam [] b x = refl
read_seam (c ∷ a) b x = read_seam a b x

place_space : (text : List ℕ) (q : ℕ) → text ≡ take q text ++ 32 ∷ drop (q + 1) text → get_or text q 0 ≡ 32
place_space text q is =
    let long : length (take q text) ≡ q = omega (arith, length-take q text, place_within text q is) in
    ap (λ (t : List ℕ). get_or t q 0) is ∙ ap (λ (k : ℕ). get_or (take q text ++ 32 ∷ drop (q + 1) text) k 0) (sym long) ∙ read_seam (take q text) (drop (q + 1) text) 32

number_digits : (w : List ℕ) (n : ℕ) → number_in_word w ≡ Some n → (all_ascii_digits w ≡ true) × (has_form w ≡ true)
number_digits w n h = (let g = guarded (has_form w) _ n h in ((reads 0 n w (omega arith) g.1).0, g.0))

-- a text that ends in a number has its space where the digits begin
ends_there : (text : List ℕ) (i n q m : ℕ) → i < length text → AreDigits (drop (i + 1) text) n → is_ascii_digit (get_or text i 0) ≡ false → EndsInNumber text q m → q ≡ i
ends_there text i n q m within are other ends =
    let d = number_digits (drop (q + 1) text) m ends.1 in
    elim (cases_lt q i) [
      | inl less ↦ absurd (true≢false (sym (digit_at text (q + 1) i d.0 (omega arith) within) ∙ other))
      | inr more ↦ elim (cases_lt i q) [
        | inl greater ↦ absurd (digit_no_space _ (digit_at text (i + 1) q are.digits (omega arith) (place_within text q ends.0.0)) (place_space text q ends.0.0))
        | inr same ↦ omega arith
      ]
    ]

pub ends_not : (text : List ℕ) (i n q m : ℕ) → i < length text → AreDigits (drop (i + 1) text) n → is_ascii_digit (get_or text i 0) ≡ false → EndsInNumber text q m
    → (get_or text i 0 ≡ 32) × (has_form (take (length text - (i + 1)) (drop (i + 1) text)) ≡ true)
ends_not text i n q m within are other ends =
    let same = ends_there text i n q m within are other ends in
    let d = number_digits (drop (q + 1) text) m ends.1 in (
      ap (λ (k : ℕ). get_or text k 0) (sym same) ∙ place_space text q ends.0.0,
      ap has_form (behind_all text i) ∙ ap (λ (k : ℕ). has_form (drop (k + 1) text)) (sym same) ∙ d.1,
    )

-- a text of only digits, or with 19 digits at its end, ends in no number
pub only_digits : (text : List ℕ) (i n q m : ℕ) → i ≤ length text - 19 → AreDigits (drop i text) n → EndsInNumber text q m → ⊥
only_digits text i n q m from are ends =
    let short : length (drop (q + 1) text) ≤ 18 = (number_is_form (drop (q + 1) text) m ends.1).1 in
    let within = place_within text q ends.0.0 in
    let here : i ≤ q = omega (arith, length-drop (q + 1) text) in
    digit_no_space _ (digit_at text i q are.digits here within) (place_space text q ends.0.0)

pub ruleset by_digit = (no_digits, only_digits)
