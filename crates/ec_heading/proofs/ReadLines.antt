-- Encodings are read: the line of the workers, and that of a declaration.
use Rattle.std.proofs.Common.{◌≡◌, ◌≢◌, ℕ, ◌+◌, ◌*◌, ◌≤◌, List, [], ◌∷◌, ◌++◌, length, get_or, Bool, true, false, ◌&&◌, eqb, Option, Some, None, unwrap_or, Ok, refl, sym, ap, ap₂, subst, ◌∙◌, arith, append_assoc, decimal, codes, not, if◌then◌else◌, ne_eqb, eqb-true, zero-le}
use Rattle.std.specs.List.{list_all, AllByRecursion}
use Rattle.std.specs.Char.{is_ascii_digit}
use Rattle.std.specs.Str.{all_ascii_digits}
use Rattle.std.proofs.lemmas.Bool.{true≢false, and_parts, and_from, and_right, cond-false, eqb-false, ltb-false}
use Rattle.std.proofs.lemmas.Fmt.{digits_decimal, decimal_nonempty}
use Rattle.std.proofs.lemmas.List.Elements.{recursion_from_All}
use Rattle.ec_count.specs.Reserved.{is_name, is_reserved}
use Rattle.ec_text.specs.Words.{is_number_form, has_form, number_in_word}
use Rattle.ec_text.proofs.shared.WordLemmas.{literal_word}
use Rattle.ec_text.proofs.shared.NumberLemmas.{number_again, own, guarded}
use Rattle.ec_text.proofs.shared.DecimalLemmas.{at_most_20}
use Rattle.ec_heading.specs.DeclKinds.{sort_word, has_name, has_number, opener, second_opener, needs_second, is_called, is_in_range}
use Rattle.ec_heading.specs.declared.version.Version.{Version}
use Rattle.ec_heading.specs.HeadingModel.{HeadingModel}
use Rattle.ec_heading.specs.HeaderTree.{Declaration, AreWorkers, IsDeclarable, empty_heading, with_declaration, with_declarations, fits_form}
use Rattle.ec_heading.specs.Spelling.{list_words, name_words, number_words, second_words, declaration_words, declaration_line}
use Rattle.ec_heading.specs.Form.{Phrase, parts_in}
use Rattle.ec_heading.specs.Kinds.{declaration_of, declaration_fault, kind_of, size_in, second_list, is_bad_number}
use Rattle.ec_heading.specs.Lists.{ids_in, has_unknown}
use Rattle.ec_heading.specs.Heading.{head_step, fault_or, opened_by, declared_or, workers_in}
use Rattle.ec_heading.specs.HeadingLaws.{SpelledWorkersAreRead, SpelledDeclarationIsRead}
use Rattle.ec_heading.specs.declared.decl_kind.DeclKind.{DeclKind}
use Rattle.ec_heading.specs.declared.heading.HeadFault.{HeadFault}
use Rattle.ec_heading.specs.Phrased.{HasWords, IsSpelled, NameFits, NumberFits, SecondFits, HasNoStop, number_part, second_part, behind_name}
use Rattle.ec_heading.proofs.shared.Phrases.{spelled_parts}
use Rattle.ec_heading.proofs.shared.DeclKindFacts.{is_literal, IsLiteral, literal, literal_lacks, is_stop, other_stop, sort_literal, opener_literal, number_small, number_none, called_name, called_word}
use Rattle.ec_heading.proofs.shared.Listed.{Named, AreBelow, ids_again, ids_known}
use Rattle.ec_heading.proofs.shared.Declarable.{Heads, HasRoom, heads_all, heads_opened, has_room, is_clean, no_kind}
use Rattle.ec_heading.proofs.shared.NameWords.{name_is_word, name_not_empty, named, IsNamed, name_apart}
use Rattle.ec_heading.proofs.shared.LineWords.{IsFit, AreFit, AreNamed, fit-append, letters, letters-append, line_read, names_fit, names_letters, listed_named, listed_length}
use Rattle.ec_heading.proofs.WorkersLine.{no_workers_fault}

-- a word that is written out
literal_fit : (w : List ℕ) → list_all (λ b. not (eqb b 32)) w ≡ true → eqb (length w) 0 ≡ false → IsFit w
literal_fit w word some = record { word = literal_word w word; some = some }

-- THE WORKERS

are_named : (ws : List (List ℕ)) → AreWorkers ws → AreNamed ws
are_named ws are = recursion_from_All (λ w. is_name w ≡ true) ws are.each

workers_words : (version : Version) (limit : ℕ) (ws : List (List ℕ)) → AreWorkers ws → opened_by version limit (workers_in (codes "workers" ∷ ws)) ≡ Ok (empty_heading version limit ws)
workers_words version limit [] are = absurd (omega (arith, are.some))
workers_words version limit (v ∷ vs) are = ap (λ (o : Option HeadFault). fault_or o (empty_heading version limit (v ∷ vs))) (no_workers_fault (v ∷ vs) are)

pub workers_read : SpelledWorkersAreRead
workers_read version limit ws are =
    let n : AreNamed ws = are_named ws are in
    let short : letters (codes "workers" ∷ ws) ≤ 8192 = omega (arith, names_letters ws n, are.few) in
    line_read (empty_heading version limit []) (codes "workers") ws (literal_fit (codes "workers") refl refl, names_fit ws n) short
    ∙ workers_words version limit ws are

-- THE PHRASE OF A DECLARATION

number_text : DeclKind → ℕ → List ℕ
number_text s n = if has_number s then decimal n else []

second_of : List (List ℕ) → Option (List ℕ) → List ℕ → Option (List (List ℕ))
second_of ws None ids = None
second_of ws (Some stop) [] = None
second_of ws (Some stop) (i ∷ ids) = Some (list_words ws (i ∷ ids))

spelled_by : List (List ℕ) → Declaration → Phrase
spelled_by ws d = record { sort = d.sort; name = d.name; number = number_text d.sort d.number; first = list_words ws d.first; second = second_of ws (second_opener d.sort) d.second }

-- its words are the declaration's
number_same : (s : DeclKind) (n : ℕ) → number_part s (number_text s n) ≡ number_words s n
unfolding number_text
number_same s n = elim (has_number s) as (λ b. (if b then (if b then decimal n else []) ∷ [] else []) ≡ (if b then decimal n ∷ [] else [])) [ true ↦ refl | false ↦ refl ]

second_same : (ws : List (List ℕ)) (o : Option (List ℕ)) (ids : List ℕ) → second_part o (second_of ws o ids) ≡ second_words ws o ids
unfolding second_of
second_same ws None ids = refl
second_same ws (Some stop) [] = refl
second_same ws (Some stop) (i ∷ ids) = refl

words_same : (ws : List (List ℕ)) (d : Declaration) → declaration_words ws d ≡ sort_word d.sort ∷ (name_words d.sort d.name ++ behind_name d.sort (number_text d.sort d.number) (list_words ws d.first ++ second_part (second_opener d.sort) (second_of ws (second_opener d.sort) d.second)))
words_same ws d =
    append_assoc (sort_word d.sort ∷ name_words d.sort d.name ++ number_words d.sort d.number) (opener d.sort ∷ list_words ws d.first) (second_words ws (second_opener d.sort) d.second)
    ∙ append_assoc (sort_word d.sort ∷ name_words d.sort d.name) (number_words d.sort d.number) (opener d.sort ∷ (list_words ws d.first ++ second_words ws (second_opener d.sort) d.second))
    ∙ ap₂ (λ (m v : List (List ℕ)). sort_word d.sort ∷ (name_words d.sort d.name ++ (m ++ opener d.sort ∷ (list_words ws d.first ++ v)))) (sym (number_same d.sort d.number)) (sym (second_same ws (second_opener d.sort) d.second))

-- and it is well formed
form_decimal : (n : ℕ) → n ≤ 1000000 → is_number_form (decimal n) ≡ true
form_decimal n small =
    let g = guarded (has_form (decimal n)) _ n (number_again n (omega arith)) in
    let d : all_ascii_digits (decimal n) ≡ true = digits_decimal own n (omega arith) in
    and_from _ _ g.0 (all_digits (decimal n) d)
  where
    all_digits : (w : List ℕ) → all_ascii_digits w ≡ true → list_all is_ascii_digit w ≡ true
    all_digits [] e = refl
    all_digits (b ∷ w) e = (let p = and_parts (is_ascii_digit b) (all_ascii_digits w) e in and_from _ _ p.0 (all_digits w p.1))

text_if : (s : DeclKind) (n : ℕ) (b : Bool) → has_number s ≡ b → number_text s n ≡ (if b then decimal n else [])
unfolding number_text
text_if s n b e = ap (λ (c : Bool). if c then decimal n else []) e

number_fits : (s : DeclKind) (n : ℕ) → is_in_range s n ≡ true → NumberFits s (number_text s n)
number_fits s n range = record {
  none = text_if s n false;
  some = λ q. ap is_number_form (text_if s n true q) ∙ form_decimal n (number_small s n range);
}

name_fits : (s : DeclKind) (name : List ℕ) → is_called s name ≡ true → NameFits s name
name_fits s name h = λ q. called_word s name q h

some_words : (ws : List (List ℕ)) (ids : List ℕ) → eqb (length ids) 0 ≡ false → HasWords (list_words ws ids)
some_words ws [] e = absurd (eqb-false 0 0 e refl)
some_words ws (i ∷ ids) e = (get_or ws i [], list_words ws ids, refl)

second_fits : (ws : List (List ℕ)) (needs : Bool) (o : Option (List ℕ)) (ids : List ℕ) → fits_form o ids ≡ true → (needs && eqb (length ids) 0) ≡ false → SecondFits needs o (second_of ws o ids)
unfolding second_of
second_fits ws needs None [] form e = first_false needs e
  where
    first_false : (b : Bool) → (b && true) ≡ false → b ≡ false
    first_false true e = e
    first_false false e = refl
second_fits ws needs None (i ∷ ids) form e = absurd (omega (arith, eqb-true (length (i ∷ ids)) 0 form))
second_fits ws needs (Some stop) [] form e = first_false needs e
  where
    first_false : (b : Bool) → (b && true) ≡ false → b ≡ false
    first_false true e = e
    first_false false e = refl
second_fits ws needs (Some stop) (i ∷ ids) form e = (get_or ws i [], list_words ws ids, refl)

-- no name ends the first list
no_stop : (stop : List ℕ) (ws : List (List ℕ)) → is_reserved stop ≡ true → AreNamed ws → HasNoStop (Some stop) ws
no_stop stop [] taken named = tt
no_stop stop (w ∷ ws) taken named = (name_apart w stop named.0 taken, no_stop stop ws taken named.1)

ends_right : (o : Option (List ℕ)) (ws : List (List ℕ)) → is_stop o ≡ true → AreNamed ws → HasNoStop o ws
ends_right None ws good named = tt
ends_right (Some stop) ws good named = no_stop stop ws (and_parts (is_literal stop) (is_reserved stop) good).1 named

-- the phrase is read as the declaration
number_back : (s : DeclKind) (n : ℕ) → is_in_range s n ≡ true → unwrap_or (number_in_word (number_text s n)) 0 ≡ n
number_back s n range = elim (has_number s) as (λ b. has_number s ≡ b → unwrap_or (number_in_word (number_text s n)) 0 ≡ n) [
  | true ↦ λ q. ap (λ (w : List ℕ). unwrap_or (number_in_word w) 0) (text_if s n true q) ∙ ap (λ (o : Option ℕ). unwrap_or o 0) (number_again n (omega (arith, number_small s n range)))
  | false ↦ λ q. ap (λ (w : List ℕ). unwrap_or (number_in_word w) 0) (text_if s n false q) ∙ sym (number_none s n q range)
] refl

good_back : (s : DeclKind) (n : ℕ) → is_in_range s n ≡ true → is_bad_number s (number_in_word (number_text s n)) ≡ false
good_back s n range = elim (has_number s) as (λ b. has_number s ≡ b → is_bad_number s (number_in_word (number_text s n)) ≡ false) [
  | true ↦ λ q.
      ap (λ (w : List ℕ). is_bad_number s (number_in_word w)) (text_if s n true q) ∙ ap (is_bad_number s) (number_again n (omega (arith, number_small s n range)))
      ∙ and_right (has_number s) (not (is_in_range s n)) (ap not range)
  | false ↦ λ q. ap (λ (w : List ℕ). is_bad_number s (number_in_word w)) (text_if s n false q) ∙ q
] refl

second_back : (ws : List (List ℕ)) (o : Option (List ℕ)) (ids : List ℕ) → fits_form o ids ≡ true → unwrap_or (second_of ws o ids) [] ≡ list_words ws ids
unfolding second_of
second_back ws None [] form = refl
second_back ws None (i ∷ ids) form = absurd (omega (arith, eqb-true (length (i ∷ ids)) 0 form))
second_back ws (Some stop) [] form = refl
second_back ws (Some stop) (i ∷ ids) form = refl

-- A DECLARATION

same_declaration : (s : DeclKind) (name : List ℕ) (m n : ℕ) (a b c e : List ℕ) → m ≡ n → a ≡ b
    → c ≡ e
    → ◌≡◌ {A = Declaration} (record { sort = s; name = name; number = m; first = a; second = c }) (record { sort = s; name = name; number = n; first = b; second = e })
same_declaration s name m n a b c e p q r = cc

module _ (ws : List (List ℕ)) (are : AreWorkers ws) (h : HeadingModel) (heads : Heads ws h) (d : Declaration) (may : IsDeclarable h d) where
  room : HasRoom d.sort h.setup d.number d.first d.second
  room = has_room d.sort h.setup d.number d.first d.second may.form may.taken

  below_first : AreBelow (length ws) d.first
  below_first = subst (λ (n : ℕ). AreBelow n d.first) heads.count room.known_first

  below_second : AreBelow (length ws) d.second
  below_second = subst (λ (n : ℕ). AreBelow n d.second) heads.count room.known_second

  named_first : AreNamed (list_words ws d.first)
  named_first = listed_named ws d.first are.each below_first

  named_second : AreNamed (list_words ws d.second)
  named_second = listed_named ws d.second are.each below_second

  spelled : IsSpelled (declaration_words ws d) (spelled_by ws d)
  unfolding spelled_by
  spelled = record {
    words = words_same ws d;
    name = name_fits d.sort d.name may.word;
    number = number_fits d.sort d.number may.range;
    first = some_words ws d.first room.some;
    second = second_fits ws (needs_second d.sort) (second_opener d.sort) d.second may.form room.needed;
    apart = ends_right (second_opener d.sort) (list_words ws d.first) (other_stop d.sort) named_first;
  }

  parts : parts_in (declaration_words ws d) ≡ Some (spelled_by ws d)
  unfolding spelled_by
  parts = spelled_parts (declaration_words ws d) (spelled_by ws d) spelled

  again : (ids : List ℕ) → AreBelow (length ws) ids → ids_in h.words (list_words ws ids) ≡ ids
  again ids below = ap (λ (names : Named). ids_in names (list_words ws ids)) heads.words ∙ ids_again ws heads.others ids are.differ below

  known : (ids : List ℕ) → AreBelow (length ws) ids → has_unknown h.words (list_words ws ids) ≡ false
  known ids below = ap (λ (names : Named). has_unknown names (list_words ws ids)) heads.words ∙ ids_known ws heads.others ids are.differ below

  second_is : second_list (spelled_by ws d) ≡ list_words ws d.second
  unfolding spelled_by
  second_is = second_back ws (second_opener d.sort) d.second may.form

  back : declaration_of h.words (spelled_by ws d) ≡ d
  unfolding spelled_by
  back =
      let number : size_in (spelled_by ws d) ≡ d.number = number_back d.sort d.number may.range in
      let first : ids_in h.words (list_words ws d.first) ≡ d.first = again d.first below_first in
      let second : ids_in h.words (second_list (spelled_by ws d)) ≡ d.second = ap (ids_in h.words) second_is ∙ again d.second below_second in
      same_declaration d.sort d.name (size_in (spelled_by ws d)) d.number (ids_in h.words (list_words ws d.first)) d.first (ids_in h.words (second_list (spelled_by ws d))) d.second number first second

  no_fault : declaration_fault h.setup h.words (spelled_by ws d) ≡ None
  unfolding spelled_by
  no_fault =
      ap (kind_of h.setup h.words (spelled_by ws d)) back
      ∙ no_kind h.setup h.words (spelled_by ws d) d (is_clean h (spelled_by ws d) d may (good_back d.sort d.number may.range) (known d.first below_first) (ap (has_unknown h.words) second_is ∙ known d.second below_second))

  declared : declared_or h (parts_in (declaration_words ws d)) ≡ Ok (with_declaration h d)
  declared =
      ap (declared_or h) parts
      ∙ ap₂ (λ (o : Option HeadFault) (e : Declaration). fault_or o (with_declaration h e)) no_fault back

-- ITS LINE

letters_word : (w : List ℕ) → AllByRecursion (λ b. eqb b 32 ≡ false) w → list_all (λ b. not (eqb b 32)) w ≡ true
letters_word [] h = refl
letters_word (b ∷ w) h = and_from _ _ (ap not h.0) (letters_word w h.1)

-- a word of the table
text_fit : (w : List ℕ) → is_literal w ≡ true → IsFit w × (length w ≤ 10)
text_fit w h =
    let l : IsLiteral w = literal w h in
    (literal_fit w (letters_word w (literal_lacks 32 w refl l.letters)) l.some, l.short)

digits_word : (w : List ℕ) → all_ascii_digits w ≡ true → list_all (λ b. not (eqb b 32)) w ≡ true
digits_word [] e = refl
digits_word (b ∷ w) e =
    let p = and_parts (is_ascii_digit b) (all_ascii_digits w) e in
    let apart : b ≢ 32 = λ q. true≢false (sym p.0 ∙ ap is_ascii_digit q) in
    and_from _ _ (ap not (ne_eqb b 32 apart)) (digits_word w p.1)

decimal_fit : (n : ℕ) → n ≤ 1000000 → IsFit (decimal n)
decimal_fit n small = literal_fit (decimal n) (digits_word (decimal n) (digits_decimal own n (omega arith))) (ne_eqb _ _ (λ e. (omega (arith, e, decimal_nonempty n (omega arith)))))

number_fit : (s : DeclKind) (n : ℕ) → is_in_range s n ≡ true → AreFit (number_words s n) × (letters (number_words s n) ≤ 21)
number_fit s n range =
    let small : n ≤ 1000000 = number_small s n range in
    elim (has_number s) as (λ b. AreFit (if b then decimal n ∷ [] else []) × (letters (if b then decimal n ∷ [] else []) ≤ 21)) [
      | true ↦ ((decimal_fit n small, tt), omega (arith, at_most_20 n (omega arith)))
      | false ↦ (tt, zero-le)
    ]

name_fit : (s : DeclKind) (name : List ℕ) → is_called s name ≡ true → AreFit (name_words s name) × (letters (name_words s name) ≤ 17)
name_fit s name h =
    elim (has_name s) as (λ b. has_name s ≡ b → AreFit (if b then name ∷ [] else []) × (letters (if b then name ∷ [] else []) ≤ 17)) [
      | true ↦ λ q.
          let is : is_name name ≡ true = called_name s name q h in
          let n : IsNamed name = named name is in
          ((record { word = name_is_word name is; some = name_not_empty name is }, tt), omega (arith, n.short))
      | false ↦ λ q. (tt, zero-le)
    ] refl

second_fit : (o : Option (List ℕ)) (ws : List (List ℕ)) (ids : List ℕ) → is_stop o ≡ true → AreNamed (list_words ws ids) → AreFit (second_words ws o ids) × (letters (second_words ws o ids) ≤ 11 + 17 * length ids)
second_fit None ws ids good named = (tt, zero-le)
second_fit (Some stop) ws [] good named = (tt, zero-le)
second_fit (Some stop) ws (i ∷ ids) good named =
    let f = text_fit stop (and_parts (is_literal stop) (is_reserved stop) good).0 in
    ((f.0, names_fit (list_words ws (i ∷ ids)) named), omega (arith, f.1, names_letters (list_words ws (i ∷ ids)) named, listed_length ws (i ∷ ids)))

module _ (ws : List (List ℕ)) (are : AreWorkers ws) (h : HeadingModel) (heads : Heads ws h) (d : Declaration) (may : IsDeclarable h d) where
  named_a : AreNamed (list_words ws d.first)
  named_a = named_first ws are h heads d may

  named_b : AreNamed (list_words ws d.second)
  named_b = named_second ws are h heads d may

  middle_fit : AreFit (opener d.sort ∷ list_words ws d.first)
  middle_fit = ((text_fit (opener d.sort) (opener_literal d.sort)).0, names_fit (list_words ws d.first) named_a)

  head_fit : AreFit (sort_word d.sort ∷ name_words d.sort d.name)
  head_fit = ((text_fit (sort_word d.sort) (sort_literal d.sort)).0, (name_fit d.sort d.name may.word).0)

  front_fit : AreFit (sort_word d.sort ∷ name_words d.sort d.name ++ number_words d.sort d.number)
  front_fit = fit-append (sort_word d.sort ∷ name_words d.sort d.name) (number_words d.sort d.number) head_fit (number_fit d.sort d.number may.range).0

  all_fit : AreFit (declaration_words ws d)
  all_fit =
      fit-append (sort_word d.sort ∷ name_words d.sort d.name ++ number_words d.sort d.number ++ opener d.sort ∷ list_words ws d.first) (second_words ws (second_opener d.sort) d.second)
      (fit-append (sort_word d.sort ∷ name_words d.sort d.name ++ number_words d.sort d.number) (opener d.sort ∷ list_words ws d.first) front_fit middle_fit)
      (second_fit (second_opener d.sort) ws d.second (other_stop d.sort) named_b).0

  all_short : letters (declaration_words ws d) ≤ 8192
  all_short =
      let r : HasRoom d.sort h.setup d.number d.first d.second = room ws are h heads d may in
      let a : length d.first ≤ 16 = ltb-false 16 (length d.first) r.few_first in
      let b : length d.second ≤ 16 = ltb-false 16 (length d.second) r.few_second in
      let l1 = letters-append (sort_word d.sort ∷ name_words d.sort d.name ++ number_words d.sort d.number ++ opener d.sort ∷ list_words ws d.first) (second_words ws (second_opener d.sort) d.second) in
      let l2 = letters-append (sort_word d.sort ∷ name_words d.sort d.name ++ number_words d.sort d.number) (opener d.sort ∷ list_words ws d.first) in
      let l3 = letters-append (sort_word d.sort ∷ name_words d.sort d.name) (number_words d.sort d.number) in
      let m1 = names_letters (list_words ws d.first) named_a in
      let m2 = (second_fit (second_opener d.sort) ws d.second (other_stop d.sort) named_b).1 in
      let m3 = (number_fit d.sort d.number may.range).1 in
      let m4 = (name_fit d.sort d.name may.word).1 in
      let m5 = (text_fit (sort_word d.sort) (sort_literal d.sort)).1 in
      let m6 = (text_fit (opener d.sort) (opener_literal d.sort)).1 in
      omega (arith, l1, l2, l3, m1, m2, m3, m4, m5, m6, listed_length ws d.first)

  some_workers : eqb h.setup.workers 0 ≡ false
  some_workers = ne_eqb _ _ (λ e. (omega (arith, e, heads.count, are.some)))

  pub line_declared : head_step h (declaration_line ws d) ≡ Ok (with_declaration h d)
  line_declared =
      line_read h (sort_word d.sort) (name_words d.sort d.name ++ number_words d.sort d.number ++ opener d.sort ∷ list_words ws d.first ++ second_words ws (second_opener d.sort) d.second) all_fit all_short
      ∙ cond-false _ _ _ some_workers
      ∙ declared ws are h heads d may

pub declaration_read : SpelledDeclarationIsRead
declaration_read version limit ws before d are may =
    line_declared ws are (with_declarations (empty_heading version limit ws) before) (heads_all ws (empty_heading version limit ws) before (heads_opened version limit ws)) d may
