-- The words of a header: each is plain and short, no two are the same, and what comes before a dot
-- is a word too.
use Rattle.std.proofs.Common.{◌≡◌, ◌≢◌, ℕ, ◌≤◌, List, [], ◌∷◌, ◌++◌, length, zero, suc, Bool, true, false, cond, ◌||◌, ◌&&◌, ◌==◌, eqb, nat_le, Some, None, is_some, refl, sym, ap, subst, ◌∙◌, arith, bytes_eq, if◌then◌else◌, slice_get, append_assoc, length-append, ne_eqb}
use Rattle.std.specs.List.{AllByRecursion, list_all}
use Rattle.std.proofs.lemmas.Bool.{true≢false, and_parts, or_left, leb-true, false_from_ne_true}
use Rattle.std.proofs.lemmas.List.{append_cancel_left}
use Rattle.std.proofs.lemmas.Slice.Eq.{bytes_eq-Decides}
use Rattle.ec_count.proofs.shared.Named.{none_left}
use Rattle.ec_count.specs.Names.{find_name, name_of, same_target}
use Rattle.ec_count.specs.Reserved.{is_name_byte}
use Rattle.ec_count.specs.Targets.{target_is}
use Rattle.ec_count.specs.declared.target.Target.{Target}
use Rattle.ec_heading.specs.Objects.{Next, AreNew, objects_of, spelling, spelled_objects}
use Rattle.ec_heading.specs.EntryWords.{NameTable}
use Rattle.ec_heading.specs.declared.decl_kind.DeclKind.{DeclKind}
use Rattle.ec_heading.specs.declared.decl_kind.DeclKind.TheVariants as sorts
use Rattle.ec_heading.proofs.shared.Each.{each_append, each_weaker}
use Rattle.ec_heading.proofs.shared.DeclKindFacts.{is_letter, letter_byte, IsCalled}
use Rattle.ec_heading.proofs.shared.Phrases.{same_word as same_bytes, is_itself as its_bytes}

-- WORDS IN A TABLE

-- no two are the same
abbrev pub AreDistinct : NameTable → Type 0
AreDistinct [] = Unit {0}
AreDistinct (e ∷ es) = AllByRecursion (λ (d : List ℕ × Target). bytes_eq e.0 d.0 ≡ false) es × AreDistinct es

turned : (v w : List ℕ) → bytes_eq v w ≡ false → bytes_eq w v ≡ false
turned v w off = false_from_ne_true _ (λ e. true≢false (sym ((bytes_eq-Decides v w).1 (sym (same_bytes w v e))) ∙ off))

-- what holds of each word of a table holds of one that is found
pub found_word : (Q : List ℕ → Type 0) (words : NameTable) (w : List ℕ) (t : Target) → AllByRecursion (λ (e : List ℕ × Target). Q e.0) words → find_name w words ≡ Some t → Q w
found_word Q [] w t all e = cc
found_word Q (x ∷ xs) w t all e =
    elim (bytes_eq w x.0) as (λ b. bytes_eq w x.0 ≡ b → cond b (Some x.1) (find_name w xs) ≡ Some t → Q w) [
      | true ↦ λ q g. subst Q (sym (same_bytes w x.0 q)) all.0
      | false ↦ λ q g. found_word Q xs w t all.1 g
    ] refl e

pub given_word : (Q : List ℕ → Type 0) (words : NameTable) (t : Target) (w : List ℕ) → AllByRecursion (λ (e : List ℕ × Target). Q e.0) words → name_of t words ≡ Some w → Q w
given_word Q [] t w all e = cc
given_word Q (x ∷ xs) t w all e =
    elim (same_target x.1 t) as (λ b. cond b (Some x.0) (name_of t xs) ≡ Some w → Q w) [
      | true ↦ λ g. (let q : x.0 ≡ w = cc in subst Q q all.0)
      | false ↦ λ g. given_word Q xs t w all.1 g
    ] e

pub entry_word : (Q : List ℕ → Type 0) (words : NameTable) (i : ℕ) (e : List ℕ × Target) → AllByRecursion (λ (d : List ℕ × Target). Q d.0) words → slice_get words i ≡ Some e → Q e.0
entry_word Q [] i e all at = cc
entry_word Q (x ∷ xs) zero e all at = (let q : x ≡ e = cc in subst (λ (y : List ℕ × Target). Q y.0) q all.0)
entry_word Q (x ∷ xs) (suc i) e all at = entry_word Q xs i e all.1 at

-- an entry is found by its word, and so is the target that a word is given for
pub entry_found : (words : NameTable) (i : ℕ) (e : List ℕ × Target) → AreDistinct words → slice_get words i ≡ Some e → find_name e.0 words ≡ Some e.1
entry_found [] i e h at = cc
entry_found (x ∷ xs) zero e h at =
    let q : x ≡ e = cc in
    subst (λ (y : List ℕ × Target). find_name y.0 (x ∷ xs) ≡ Some y.1) q (ap (λ b. cond b (Some x.1) (find_name x.0 xs)) (its_bytes x.0))
entry_found (x ∷ xs) (suc i) e h at =
    let off : bytes_eq x.0 e.0 ≡ false = entry_word (λ w. bytes_eq x.0 w ≡ false) xs i e h.0 at in
    ap (λ b. cond b (Some x.1) (find_name e.0 xs)) (turned x.0 e.0 off) ∙ entry_found xs i e h.1 at

pub named_found : (words : NameTable) (t : Target) (w : List ℕ) → AreDistinct words → name_of t words ≡ Some w → find_name w words ≡ Some t
named_found [] t w h e = cc
named_found (x ∷ xs) t w h e =
    elim (same_target x.1 t) as (λ b. same_target x.1 t ≡ b → cond b (Some x.0) (name_of t xs) ≡ Some w → find_name w (x ∷ xs) ≡ Some t) [
      | true ↦ λ q g.
          (let is : x.0 ≡ w = cc in
          subst (λ (v : List ℕ). find_name v (x ∷ xs) ≡ Some t) is (ap (λ b. cond b (Some x.1) (find_name x.0 xs)) (its_bytes x.0) ∙ ap Some (target_is x.1 t q)))
      | false ↦ λ q g.
          (let off : bytes_eq x.0 w ≡ false = given_word (λ v. bytes_eq x.0 v ≡ false) xs t w h.0 g in
          ap (λ b. cond b (Some x.1) (find_name w xs)) (turned x.0 w off) ∙ named_found xs t w h.1 g)
    ] refl e

-- WORDS THAT ARE ADDED

-- a word that the first of two tables lacks is looked up in the second
pub find-append_none : (w : List ℕ) (xs ys : NameTable) → find_name w xs ≡ None → find_name w (xs ++ ys) ≡ find_name w ys
find-append_none w [] ys h = refl
find-append_none w (x ∷ xs) ys h =
    elim (bytes_eq w x.0) as (λ b. cond b (Some x.1) (find_name w xs) ≡ None → cond b (Some x.1) (find_name w (xs ++ ys)) ≡ find_name w ys) [
      | true ↦ λ g. (cc)
      | false ↦ λ g. find-append_none w xs ys g
    ] h

pub found-append : (w : List ℕ) (xs ys : NameTable) → is_some (find_name w xs) ≡ true → is_some (find_name w (xs ++ ys)) ≡ true
found-append w [] ys h = absurd (true≢false (sym h))
found-append w (x ∷ xs) ys h =
    elim (bytes_eq w x.0) as (λ b. is_some (cond b (Some x.1) (find_name w xs)) ≡ true → is_some (cond b (Some x.1) (find_name w (xs ++ ys))) ≡ true) [
      | true ↦ λ g. refl
      | false ↦ λ g. found-append w xs ys g
    ] h

absent_first : (x : List ℕ × Target) (xs : NameTable) (w : List ℕ) → find_name w (x ∷ xs) ≡ None → (bytes_eq x.0 w ≡ false) × (find_name w xs ≡ None)
absent_first x xs w h =
    elim (bytes_eq w x.0) as (λ b. bytes_eq w x.0 ≡ b → cond b (Some x.1) (find_name w xs) ≡ None → (bytes_eq x.0 w ≡ false) × (find_name w xs ≡ None)) [
      | true ↦ λ q g. (cc)
      | false ↦ λ q g. (turned w x.0 q, g)
    ] refl h

distinct-append : (xs ys : NameTable) → AreDistinct xs → AreDistinct ys → AllByRecursion (λ (e : List ℕ × Target). find_name e.0 xs ≡ None) ys → AreDistinct (xs ++ ys)
distinct-append [] ys h k new = k
distinct-append (x ∷ xs) ys h k new = (
  each_append (λ (d : List ℕ × Target). bytes_eq x.0 d.0 ≡ false) xs ys h.0
      (each_weaker (λ (e : List ℕ × Target). find_name e.0 (x ∷ xs) ≡ None) (λ (d : List ℕ × Target). bytes_eq x.0 d.0 ≡ false) (λ e n. (absent_first x xs e.0 n).0) ys new),
  distinct-append xs ys h.1 k
      (each_weaker (λ (e : List ℕ × Target). find_name e.0 (x ∷ xs) ≡ None) (λ (e : List ℕ × Target). find_name e.0 xs ≡ None) (λ e n. (absent_first x xs e.0 n).1) ys new),
)

-- STEMS

-- what comes before the first dot; the whole word if it has none
abbrev pub stem : List ℕ → List ℕ
stem [] = []
stem (b ∷ bs) = if b == 46 then [] else b ∷ stem bs

undotted : (b : ℕ) → is_name_byte b ≡ true → eqb b 46 ≡ false
undotted b h = ne_eqb b 46 (λ e. true≢false (sym h ∙ ap is_name_byte e))

stem_itself : (name : List ℕ) → AllByRecursion (λ b. is_name_byte b ≡ true) name → stem name ≡ name
stem_itself [] h = refl
stem_itself (b ∷ bs) h = rw (undotted b h.0) (ap (λ (r : List ℕ). b ∷ r) (stem_itself bs h.1))

stem_dotted : (name rest : List ℕ) → AllByRecursion (λ b. is_name_byte b ≡ true) name → stem (name ++ 46 ∷ rest) ≡ name
stem_dotted [] rest h = refl
stem_dotted (b ∷ bs) rest h = rw (undotted b h.0) (ap (λ (r : List ℕ). b ∷ r) (stem_dotted bs rest h.1))

pub stem_spelling : (name w : List ℕ) → IsCalled name → stem (spelling name w) ≡ name
stem_spelling name [] h = stem_itself name h.bytes
stem_spelling name (b ∷ bs) h = ap stem (append_assoc name (46 ∷ []) (b ∷ bs)) ∙ stem_dotted name (b ∷ bs) h.bytes

-- WHAT IS TRUE OF A HEADER'S WORDS

abbrev pub is_plain : ℕ → Bool
is_plain b = is_name_byte b || b == 46

-- letters, digits, underscores and dots, and not too many
pub record IsPlainWord (w : List ℕ) : Type 0 where
  pub plain : AllByRecursion (λ b. is_plain b ≡ true) w
  pub short : length w ≤ 24

-- each word is plain and short, no two are the same, and what comes before a dot is a word too
pub record AreWords (words : NameTable) : Type 0 where
  pub each : AllByRecursion (λ (e : List ℕ × Target). IsPlainWord e.0) words
  pub distinct : AreDistinct words
  pub stems : AllByRecursion (λ (e : List ℕ × Target). is_some (find_name (stem e.0) words) ≡ true) words

-- if a name is no word yet, neither is that name with a suffix
pub not_there : (words : NameTable) (name w : List ℕ) → AreWords words → IsCalled name → find_name name words ≡ None → find_name (spelling name w) words ≡ None
not_there words name w are called none =
    none_left (find_name (spelling name w) words) (λ t found.
    let there : is_some (find_name (stem (spelling name w)) words) ≡ true = found_word (λ v. is_some (find_name (stem v) words) ≡ true) words (spelling name w) t are.stems found in
    true≢false (sym there ∙ ap (λ (v : List ℕ). is_some (find_name v words)) (stem_spelling name w called) ∙ ap is_some none))

-- OBJECTS

abbrev pub is_object_word : List ℕ → Bool
is_object_word w = list_all is_letter w && nat_le (length w) 5

-- the objects of a declaration: their suffixes differ, and one of them is empty
pub record AreObjects (os : NameTable) : Type 0 where
  pub each : AllByRecursion (λ (o : List ℕ × Target). is_object_word o.0 ≡ true) os
  pub distinct : AreDistinct os
  pub itself : is_some (find_name [] os) ≡ true

pub objects_good : (s : DeclKind) (k : Next) (n : ℕ) → AreObjects (objects_of s k n)
objects_good sorts.EventCount k n = record { each = (refl, tt); distinct = (tt, tt); itself = refl }
objects_good sorts.Sequencer k n = record { each = (refl, tt); distinct = (tt, tt); itself = refl }
objects_good sorts.Cells k n = record { each = (refl, tt); distinct = (tt, tt); itself = refl }
objects_good sorts.Buffer k n = record {
  each = (refl, (refl, (refl, (refl, (refl, tt)))));
  distinct = ((refl, (refl, (refl, (refl, tt)))), ((refl, (refl, (refl, tt))), ((refl, (refl, tt)), ((refl, tt), (tt, tt)))));
  itself = refl;
}
objects_good sorts.Database k n = record {
  each = (refl, (refl, (refl, (refl, tt))));
  distinct = ((refl, (refl, (refl, tt))), ((refl, (refl, tt)), ((refl, tt), (tt, tt))));
  itself = refl;
}
objects_good sorts.Semaphore k n = record { each = (refl, (refl, (refl, tt))); distinct = ((refl, (refl, tt)), ((refl, tt), (tt, tt))); itself = refl }
objects_good sorts.Both k n = record { each = (refl, (refl, (refl, tt))); distinct = ((refl, (refl, tt)), ((refl, tt), (tt, tt))); itself = refl }

plain_name : (w : List ℕ) → AllByRecursion (λ b. is_name_byte b ≡ true) w → AllByRecursion (λ b. is_plain b ≡ true) w
plain_name w h = each_weaker (λ b. is_name_byte b ≡ true) (λ b. is_plain b ≡ true) (λ b k. or_left (is_name_byte b) (eqb b 46) k) w h

-- a name is a plain word, and its own stem
pub plain_word : (w : List ℕ) → IsCalled w → IsPlainWord w
plain_word w h = record { plain = plain_name w h.bytes; short = omega (arith, h.short) }

pub stem_name : (w : List ℕ) → IsCalled w → stem w ≡ w
stem_name w h = stem_itself w h.bytes

plain_letter : (b : ℕ) → is_letter b ≡ true → is_plain b ≡ true
plain_letter b h = or_left (is_name_byte b) (eqb b 46) (letter_byte b h)

plain_letters : (w : List ℕ) → list_all is_letter w ≡ true → AllByRecursion (λ b. is_plain b ≡ true) w
plain_letters [] h = tt
plain_letters (b ∷ w) h = (let p = and_parts (is_letter b) (list_all is_letter w) h in (plain_letter b p.0, plain_letters w p.1))

plain_spelling : (name w : List ℕ) → IsCalled name → is_object_word w ≡ true → IsPlainWord (spelling name w)
plain_spelling name [] h o = record { plain = plain_name name h.bytes; short = omega (arith, h.short) }
plain_spelling name (b ∷ bs) h o =
    let p = and_parts (list_all is_letter (b ∷ bs)) (nat_le (length (b ∷ bs)) 5) o in
    let few : length (b ∷ bs) ≤ 5 = leb-true (length (b ∷ bs)) 5 p.1 in
    record {
      plain = each_append (λ c. is_plain c ≡ true) (name ++ 46 ∷ []) (b ∷ bs) (each_append (λ c. is_plain c ≡ true) name (46 ∷ []) (plain_name name h.bytes) (refl, tt)) (plain_letters (b ∷ bs) p.0);
      short = omega (arith, h.short, length-append (name ++ 46 ∷ []) (b ∷ bs), length-append name (46 ∷ []));
    }

longer : (name : List ℕ) (b : ℕ) (bs : List ℕ) → name ≢ (name ++ 46 ∷ []) ++ b ∷ bs
longer name b bs e = (let l = ap length e in omega (arith, l, length-append (name ++ 46 ∷ []) (b ∷ bs), length-append name (46 ∷ [])))

spelling_is : (name v w : List ℕ) → spelling name v ≡ spelling name w → v ≡ w
spelling_is name [] [] e = refl
spelling_is name [] (c ∷ cs) e = absurd (longer name c cs e)
spelling_is name (b ∷ bs) [] e = absurd (longer name b bs (sym e))
spelling_is name (b ∷ bs) (c ∷ cs) e = append_cancel_left (name ++ 46 ∷ []) (b ∷ bs) (c ∷ cs) e

spelling_apart : (name v w : List ℕ) → bytes_eq v w ≡ false → bytes_eq (spelling name v) (spelling name w) ≡ false
spelling_apart name v w off = false_from_ne_true _ (λ e. true≢false (sym ((bytes_eq-Decides v w).1 (spelling_is name v w (same_bytes _ _ e))) ∙ off))

pub each_spelled : (P : List ℕ × Target → Type 0) (name : List ℕ) (os : NameTable) → AllByRecursion (λ (o : List ℕ × Target). P (spelling name o.0, o.1)) os → AllByRecursion P (spelled_objects name os)
each_spelled P name [] h = tt
each_spelled P name (o ∷ os) h = (h.0, each_spelled P name os h.1)

always : {X : Type 0} (P : X → Type 0) → ((x : X) → P x) → (xs : List X) → AllByRecursion P xs
always P f [] = tt
always P f (x ∷ xs) = (f x, always P f xs)

distinct_spelled : (name : List ℕ) (os : NameTable) → AreDistinct os → AreDistinct (spelled_objects name os)
distinct_spelled name [] h = tt
distinct_spelled name (o ∷ os) h = (
  each_spelled (λ (d : List ℕ × Target). bytes_eq (spelling name o.0) d.0 ≡ false) name os
      (each_weaker (λ (d : List ℕ × Target). bytes_eq o.0 d.0 ≡ false) (λ (d : List ℕ × Target). bytes_eq (spelling name o.0) (spelling name d.0) ≡ false) (λ d off. spelling_apart name o.0 d.0 off) os h.0),
  distinct_spelled name os h.1,
)

pub spelled_found : (name w : List ℕ) (os : NameTable) → is_some (find_name w os) ≡ true → is_some (find_name (spelling name w) (spelled_objects name os)) ≡ true
spelled_found name w [] h = absurd (true≢false (sym h))
spelled_found name w (o ∷ os) h =
    elim (bytes_eq w o.0) as (λ b. bytes_eq w o.0 ≡ b → is_some (cond b (Some o.1) (find_name w os)) ≡ true → is_some (find_name (spelling name w) (spelled_objects name (o ∷ os))) ≡ true) [
      | true ↦ λ q g.
          (let same : spelling name w ≡ spelling name o.0 = ap (spelling name) (same_bytes w o.0 q) in
          ap (λ b. is_some (cond b (Some o.1) (find_name (spelling name w) (spelled_objects name os)))) ((bytes_eq-Decides (spelling name w) (spelling name o.0)).1 same))
      | false ↦ λ q g. ap (λ b. is_some (cond b (Some o.1) (find_name (spelling name w) (spelled_objects name os)))) (spelling_apart name w o.0 q) ∙ spelled_found name w os g
    ] refl h

-- each word of a table is found
pub itself_found : (es : NameTable) → AllByRecursion (λ (e : List ℕ × Target). is_some (find_name e.0 es) ≡ true) es
itself_found [] = tt
itself_found (x ∷ xs) = (
  ap (λ b. is_some (cond b (Some x.1) (find_name x.0 xs))) (its_bytes x.0),
  each_weaker (λ (e : List ℕ × Target). is_some (find_name e.0 xs) ≡ true) (λ (e : List ℕ × Target). is_some (find_name e.0 (x ∷ xs)) ≡ true) (λ e h. one_on e h) xs (itself_found xs),
)
  where
    one_on : (e : List ℕ × Target) → is_some (find_name e.0 xs) ≡ true → is_some (find_name e.0 (x ∷ xs)) ≡ true
    one_on e h = elim (bytes_eq e.0 x.0) as (λ b. is_some (cond b (Some x.1) (find_name e.0 xs)) ≡ true) [ true ↦ refl | false ↦ h ]

-- the words once those of a new name are added
pub words_more : (words : NameTable) (name : List ℕ) (os : NameTable) → AreWords words → IsCalled name → find_name name words ≡ None → AreObjects os → AreWords (words ++ spelled_objects name os)
words_more words name os are called none good =
    let itself : is_some (find_name name (words ++ spelled_objects name os)) ≡ true = ap is_some (find-append_none name words (spelled_objects name os) none) ∙ spelled_found name [] os good.itself in
    record {
      each = each_append (λ (e : List ℕ × Target). IsPlainWord e.0) words (spelled_objects name os) are.each
          (each_spelled (λ (e : List ℕ × Target). IsPlainWord e.0) name os (each_weaker (λ (o : List ℕ × Target). is_object_word o.0 ≡ true) (λ (o : List ℕ × Target). IsPlainWord (spelling name o.0)) (λ o h. plain_spelling name o.0 called h) os good.each));
      distinct = distinct-append words (spelled_objects name os) are.distinct (distinct_spelled name os good.distinct)
          (each_spelled (λ (e : List ℕ × Target). find_name e.0 words ≡ None) name os (always (λ (o : List ℕ × Target). find_name (spelling name o.0) words ≡ None) (λ o. not_there words name o.0 are called none) os));
      stems = each_append (λ (e : List ℕ × Target). is_some (find_name (stem e.0) (words ++ spelled_objects name os)) ≡ true) words (spelled_objects name os)
          (each_weaker (λ (e : List ℕ × Target). is_some (find_name (stem e.0) words) ≡ true) (λ (e : List ℕ × Target). is_some (find_name (stem e.0) (words ++ spelled_objects name os)) ≡ true) (λ e h. found-append (stem e.0) words (spelled_objects name os) h) words are.stems)
          (each_spelled (λ (e : List ℕ × Target). is_some (find_name (stem e.0) (words ++ spelled_objects name os)) ≡ true) name os
          (always (λ (o : List ℕ × Target). is_some (find_name (stem (spelling name o.0)) (words ++ spelled_objects name os)) ≡ true) (λ o. ap (λ (v : List ℕ). is_some (find_name v (words ++ spelled_objects name os))) (stem_spelling name o.0 called) ∙ itself) os));
    }

-- each of them may be added in turn
push_none : (w v : List ℕ) (t : Target) (words : NameTable) → find_name w words ≡ None → bytes_eq v w ≡ false → find_name w (words ++ (v, t) ∷ []) ≡ None
push_none w v t words none off = find-append_none w words ((v, t) ∷ []) none ∙ ap (λ b. cond b (Some t) None) (turned v w off)

new_in_turn : (words : NameTable) (name : List ℕ) (os : NameTable) → IsCalled name → AllByRecursion (λ (o : List ℕ × Target). is_object_word o.0 ≡ true) os → AreDistinct os → AllByRecursion (λ (o : List ℕ × Target). find_name (spelling name o.0) words ≡ None) os → AreNew name words os
new_in_turn words name [] called each distinct none = tt
new_in_turn words name (o ∷ os) called each distinct none =
    let p : IsPlainWord (spelling name o.0) = plain_spelling name o.0 called each.0 in
    let apart : AllByRecursion (λ (d : List ℕ × Target). bytes_eq (spelling name o.0) (spelling name d.0) ≡ false) os =
    each_weaker (λ (d : List ℕ × Target). bytes_eq o.0 d.0 ≡ false) (λ (d : List ℕ × Target). bytes_eq (spelling name o.0) (spelling name d.0) ≡ false) (λ d off. spelling_apart name o.0 d.0 off) os distinct.0 in
    (p.short, none.0, new_in_turn (words ++ (spelling name o.0, o.1) ∷ []) name os called each.1 distinct.1 (still os none.1 apart))
  where
    still : (ds : NameTable) → AllByRecursion (λ (d : List ℕ × Target). find_name (spelling name d.0) words ≡ None) ds → AllByRecursion (λ (d : List ℕ × Target). bytes_eq (spelling name o.0) (spelling name d.0) ≡ false) ds → AllByRecursion (λ (d : List ℕ × Target). find_name (spelling name d.0) (words ++ (spelling name o.0, o.1) ∷ []) ≡ None) ds
    still [] n a = tt
    still (d ∷ ds) n a = (push_none (spelling name d.0) (spelling name o.0) o.1 words n.0 a.0, still ds n.1 a.1)

pub all_new : (words : NameTable) (name : List ℕ) (s : DeclKind) (k : Next) (n : ℕ) → AreWords words → IsCalled name → find_name name words ≡ None → AreNew name words (objects_of s k n)
all_new words name s k n are called none =
    let good : AreObjects (objects_of s k n) = objects_good s k n in
    new_in_turn words name (objects_of s k n) called good.each good.distinct (always (λ (o : List ℕ × Target). find_name (spelling name o.0) words ≡ None) (λ o. not_there words name o.0 are called none) (objects_of s k n))
