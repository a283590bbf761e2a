-- What the table of kinds of declarations says, kind by kind.
use Rattle.std.proofs.Common.{◌≡◌, ℕ, ◌≤◌, List, [], ◌∷◌, length, Bool, true, false, not, ◌&&◌, eqb, nat_le, nat_lt, cond, Option, Some, None, refl, sym, ap, subst, ◌∙◌, arith, bytes_eq, ne_eqb, lit≤}
use Rattle.std.specs.List.{list_all, AllByRecursion}
use Rattle.std.proofs.lemmas.Bool.{true≢false, and_parts, and_from, leb-true, le-leb, ltb-true}
use Rattle.std.proofs.lemmas.Bool.Decides.{nat_tests}
use Rattle.std.proofs.lemmas.Slice.Eq.{bytes_eq-Decides}
use Rattle.std.specs.Char.{is_ascii_alphabetic}
use Rattle.ec_count.specs.Reserved.{is_name, is_name_byte, is_reserved}
use Rattle.ec_heading.specs.DeclKinds.{sort_word, has_name, has_number, least, greatest, is_in_range, is_called, opener, second_opener}
use Rattle.ec_heading.specs.declared.decl_kind.DeclKind.{DeclKind}
use Rattle.ec_heading.specs.declared.decl_kind.DeclKind.TheVariants as sorts

-- whether a byte is a small letter
abbrev pub is_letter : ℕ → Bool
is_letter b = nat_le 97 b && nat_le b 122

-- whether a word is 1 to 10 small letters, as those of the table are
abbrev pub is_literal : List ℕ → Bool
is_literal w = list_all is_letter w && nat_lt 0 (length w) && nat_le (length w) 10

-- whether a word, if there is one, is 1 to 10 small letters, and no name
abbrev pub is_stop : Option (List ℕ) → Bool
is_stop None = true
is_stop (Some w) = is_literal w && is_reserved w

-- the words of a kind are 1 to 10 small letters, and the one before the second list is no name
words_literal : (s : DeclKind) → (is_literal (sort_word s) ≡ true) × (is_literal (opener s) ≡ true) × (is_stop (second_opener s) ≡ true)
words_literal sorts.EventCount = (refl, refl, refl)
words_literal sorts.Sequencer = (refl, refl, refl)
words_literal sorts.Cells = (refl, refl, refl)
words_literal sorts.Buffer = (refl, refl, refl)
words_literal sorts.Database = (refl, refl, refl)
words_literal sorts.Semaphore = (refl, refl, refl)
words_literal sorts.Both = (refl, refl, refl)

pub sort_literal : (s : DeclKind) → is_literal (sort_word s) ≡ true
sort_literal s = (words_literal s).0

pub opener_literal : (s : DeclKind) → is_literal (opener s) ≡ true
opener_literal s = (words_literal s).1

pub other_stop : (s : DeclKind) → is_stop (second_opener s) ≡ true
other_stop s = (words_literal s).2

-- numbers are small, and 0 if there are none
pub greatest_small : (s : DeclKind) → greatest s ≤ 1000000
greatest_small sorts.EventCount = lit≤ tt
greatest_small sorts.Sequencer = lit≤ tt
greatest_small sorts.Cells = lit≤ tt
greatest_small sorts.Buffer = lit≤ tt
greatest_small sorts.Database = lit≤ tt
greatest_small sorts.Semaphore = lit≤ tt
greatest_small sorts.Both = lit≤ tt

pub unnumbered : (s : DeclKind) → has_number s ≡ false → (least s ≡ 0) × (greatest s ≡ 0)
unnumbered sorts.EventCount h = (refl, refl)
unnumbered sorts.Sequencer h = (refl, refl)
unnumbered sorts.Cells h = absurd (true≢false h)
unnumbered sorts.Buffer h = absurd (true≢false h)
unnumbered sorts.Database h = absurd (true≢false h)
unnumbered sorts.Semaphore h = absurd (true≢false h)
unnumbered sorts.Both h = (refl, refl)

-- the number of a declaration is at most 1000000
pub number_small : (s : DeclKind) (n : ℕ) → is_in_range s n ≡ true → n ≤ 1000000
number_small s n h =
    let p = and_parts (nat_le (least s) n) (nat_le n (greatest s)) h in
    let high : n ≤ greatest s = leb-true n (greatest s) p.1 in
    omega (arith, greatest_small s)

pub number_none : (s : DeclKind) (n : ℕ) → has_number s ≡ false → is_in_range s n ≡ true → n ≡ 0
number_none s n none h =
    let p = and_parts (nat_le (least s) n) (nat_le n (greatest s)) h in
    let high : n ≤ greatest s = leb-true n (greatest s) p.1 in
    omega (arith, (unnumbered s none).1)

pub zero_in_range : (s : DeclKind) → has_number s ≡ false → is_in_range s 0 ≡ true
zero_in_range s none =
    let u = unnumbered s none in
    and_from _ _ (le-leb (least s) 0 (omega (arith, u.0))) (le-leb 0 (greatest s) (omega (arith, u.1)))

-- WHAT A LITERAL IS

pub record IsLiteral (w : List ℕ) : Type 0 where
  pub letters : AllByRecursion (λ b. is_letter b ≡ true) w
  pub some : eqb (length w) 0 ≡ false
  pub short : length w ≤ 10

all_letters : (w : List ℕ) → list_all is_letter w ≡ true → AllByRecursion (λ b. is_letter b ≡ true) w
all_letters [] h = tt
all_letters (b ∷ w) h = (let p = and_parts (is_letter b) (list_all is_letter w) h in (p.0, all_letters w p.1))

-- what passes the test is 1 to 10 small letters
pub literal : (w : List ℕ) → is_literal w ≡ true → IsLiteral w
literal w h =
    let p = and_parts (list_all is_letter w && nat_lt 0 (length w)) (nat_le (length w) 10) h in
    let q = and_parts (list_all is_letter w) (nat_lt 0 (length w)) p.0 in
    record {
      letters = all_letters w q.0;
      some = ne_eqb _ _ (λ e. (let pos = ltb-true 0 (length w) q.1 in omega arith));
      short = leb-true (length w) 10 p.1;
    }

-- a byte that is no small letter is in no word of small letters
pub literal_lacks : (c : ℕ) (w : List ℕ) → is_letter c ≡ false → AllByRecursion (λ b. is_letter b ≡ true) w → AllByRecursion (λ b. eqb b c ≡ false) w
literal_lacks c [] off h = tt
literal_lacks c (b ∷ w) off h = (ne_eqb b c (λ same. true≢false (sym h.0 ∙ ap is_letter same ∙ off)), literal_lacks c w off h.1)

-- WHAT A DECLARATION IS CALLED

-- 1 to 16 bytes that names may have
pub record IsCalled (name : List ℕ) : Type 0 where
  pub bytes : AllByRecursion (λ b. is_name_byte b ≡ true) name
  pub some : 1 ≤ length name
  pub short : length name ≤ 16

pub letter_byte : (b : ℕ) → is_letter b ≡ true → is_name_byte b ≡ true
letter_byte b h = grind (arith, nat_tests)

alphabetic_byte : (b : ℕ) → is_ascii_alphabetic b ≡ true → is_name_byte b ≡ true
alphabetic_byte b h = grind (arith, nat_tests)

all_bytes : (w : List ℕ) → list_all is_name_byte w ≡ true → AllByRecursion (λ b. is_name_byte b ≡ true) w
all_bytes [] h = tt
all_bytes (b ∷ w) h = (let p = and_parts (is_name_byte b) (list_all is_name_byte w) h in (p.0, all_bytes w p.1))

letter_bytes : (w : List ℕ) → AllByRecursion (λ b. is_letter b ≡ true) w → AllByRecursion (λ b. is_name_byte b ≡ true) w
letter_bytes [] h = tt
letter_bytes (b ∷ w) h = (letter_byte b h.0, letter_bytes w h.1)

-- a name has 1 to 16 bytes that names may have
pub name_called : (w : List ℕ) → is_name w ≡ true → IsCalled w
unfolding is_name
name_called [] h = absurd (true≢false (sym h))
name_called (b ∷ bs) h =
    let p = and_parts (is_ascii_alphabetic b && nat_le (length bs) 15 && list_all is_name_byte bs) (not (is_reserved (b ∷ bs))) h in
    let q = and_parts (is_ascii_alphabetic b && nat_le (length bs) 15) (list_all is_name_byte bs) p.0 in
    let r = and_parts (is_ascii_alphabetic b) (nat_le (length bs) 15) q.0 in
    let few : length bs ≤ 15 = leb-true (length bs) 15 r.1 in
    record { bytes = (alphabetic_byte b r.0, all_bytes bs q.1); some = omega arith; short = omega arith }

literal_called : (w : List ℕ) → is_literal w ≡ true → IsCalled w
literal_called w h =
    let l = literal w h in
    record { bytes = letter_bytes w l.letters; some = some_bytes w l.some; short = omega (arith, l.short) }
  where
    some_bytes : (w : List ℕ) → eqb (length w) 0 ≡ false → 1 ≤ length w
    some_bytes [] e = absurd (true≢false e)
    some_bytes (b ∷ w) e = omega arith

-- if the form of a kind has a name, its declaration is called by a name
pub called_name : (s : DeclKind) (name : List ℕ) → has_name s ≡ true → is_called s name ≡ true → is_name name ≡ true
called_name s name has h = sym (ap (λ b. cond b (is_name name) (bytes_eq name (sort_word s))) has) ∙ h

-- if the form of a kind has none, its declaration is called by the kind's own word
pub called_word : (s : DeclKind) (name : List ℕ) → has_name s ≡ false → is_called s name ≡ true → name ≡ sort_word s
called_word s name has h = (bytes_eq-Decides name (sort_word s)).0 (sym (ap (λ b. cond b (is_name name) (bytes_eq name (sort_word s))) has) ∙ h)

-- what a declaration may be called has 1 to 16 bytes that names may have
pub called : (s : DeclKind) (name : List ℕ) → is_called s name ≡ true → IsCalled name
called s name h =
    elim (has_name s) as (λ b. cond b (is_name name) (bytes_eq name (sort_word s)) ≡ true → IsCalled name) [
      | true ↦ λ g. name_called name g
      | false ↦ λ g. (let e : sort_word s ≡ name = sym ((bytes_eq-Decides name (sort_word s)).0 g) in subst IsCalled e (literal_called (sort_word s) (sort_literal s)))
    ] h
