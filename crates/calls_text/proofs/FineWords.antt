-- Words that make a line.
use Rattle.std.proofs.Common.{◌≡◌, ℕ, ◌*◌, ◌<◌, ◌≤◌, List, [], ◌∷◌, ◌++◌, length, map, Bool, true}
use Rattle.std.proofs.Common.{false, eqb, leb, nat_lt, not, ◌||◌, refl, ap, ap₂, ◌∙◌, arith}
use Rattle.std.proofs.Common.{codes, decimal, length-append, le-ltb, ne_eqb}
use Rattle.std.specs.Int.{IsInRange}
use Rattle.std.specs.List.{AllByRecursion, join_with_byte, list_any, list_all}
use Rattle.std.proofs.lemmas.Bool.{and_parts, not-true, leb-true}
use Rattle.std.proofs.lemmas.Fmt.{length-decimal-le, digits_decimal, decimal_nonempty}
use Rattle.std.proofs.lemmas.List.Elements.{All-from_recursion, All-from_get_or, recursion_from_All}
use Rattle.std.proofs.lemmas.Str.Parse.{not_in_digits}
use Rattle.ec_text.specs.Words.{words_of, AreWords}
use Rattle.ec_text.proofs.shared.WordLemmas.{words_join}
use Rattle.ec_text.proofs.shared.NumberLemmas.{own}
use Rattle.ec_heading.specs.Heading.{is_no_line}
use Rattle.ec_heading.specs.Recalled.{with_spaces as spaced_words}
use Rattle.calls_text.specs.declared.verb.OpWord.{OpWord}
use Rattle.calls_text.specs.declared.verb.OpWord.TheVariants as verbs
use Rattle.calls_text.specs.Verbs.{verb_word}
use Rattle.calls_text.specs.Rules.{AreSmall}
use Rattle.calls_text.proofs.TextParts.{IsPart}
use Rattle.calls_text.proofs.Values.{join_spaced}

-- LFS AND SPACES

abbrev pub Lacks : ℕ → List ℕ → Type 0
Lacks c bs = AllByRecursion (λ b. eqb b c ≡ false) bs

pub lacks_append : (c : ℕ) (xs ys : List ℕ) → Lacks c xs → Lacks c ys → Lacks c (xs ++ ys)
lacks_append c [] ys p q = q
lacks_append c (x ∷ xs) ys p q = (p.0, lacks_append c xs ys p.1 q)

pub lacks_join : (words : List (List ℕ)) → AllByRecursion (Lacks 10) words
    → Lacks 10 (join_with_byte 32 words)
lacks_join [] all = tt
lacks_join (w ∷ []) all = all.0
lacks_join (w ∷ v ∷ words) all =
    lacks_append 10 w (32 ∷ join_with_byte 32 (v ∷ words)) all.0
    (refl, lacks_join (v ∷ words) all.1)

pub decimal_lacks : (c n : ℕ) → n < 1000000000000000000 → ¬ (IsInRange 48 57 c)
    → Lacks c (decimal n)
decimal_lacks c n small out =
    recursion_from_All (λ b. eqb b c ≡ false) (decimal n)
    (All-from_get_or (λ b. eqb b c ≡ false) (decimal n) 0
    (λ i h. ne_eqb _ _
    (not_in_digits own (decimal n) c (digits_decimal own n (omega arith)) out i h)))

pub literal_lacks : (c : ℕ) (w : List ℕ) → list_all (λ b. not (eqb b c)) w ≡ true → Lacks c w
literal_lacks c [] all = tt
literal_lacks c (b ∷ w) all =
    let p = and_parts (not (eqb b c)) (list_all (λ x. not (eqb x c)) w) all in
    (not-true _ p.0, literal_lacks c w p.1)

-- WORDS

-- a word of 1 to 64 bytes without a space or an LF
pub record IsFine (w : List ℕ) : Type 0 where
  pub word : Lacks 32 w
  pub part : Lacks 10 w
  pub some : eqb (length w) 0 ≡ false
  pub short : length w ≤ 64

pub literal_fine : (w : List ℕ) → list_all (λ b. not (eqb b 32)) w ≡ true
    → list_all (λ b. not (eqb b 10)) w ≡ true → eqb (length w) 0 ≡ false → leb (length w) 64 ≡ true
    → IsFine w
literal_fine w word part some short = record {
  word = literal_lacks 32 w word;
  part = literal_lacks 10 w part;
  some = some;
  short = leb-true _ _ short;
}

pub digits_length : (n : ℕ) → n < 1000000000000000000 → length (decimal n) ≤ 18
digits_length n small = length-decimal-le 18 n (omega arith) (omega arith) (omega arith)

pub number_fine : (n : ℕ) → n < 1000000000000000000 → IsFine (decimal n)
number_fine n small = record {
  word = decimal_lacks 32 n small (λ r. omega arith);
  part = decimal_lacks 10 n small (λ r. omega arith);
  some = ne_eqb _ _ (λ e. (omega (arith, e, decimal_nonempty n (omega arith))));
  short = omega (arith, digits_length n small);
}

pub numbers_fine : (ns : List ℕ) → AreSmall ns → AllByRecursion IsFine (map decimal ns)
numbers_fine [] small = tt
numbers_fine (n ∷ ns) small = (number_fine n small.0, numbers_fine ns small.1)

pub numbers_short : (ns : List ℕ) → AreSmall ns
    → length (spaced_words (map decimal ns)) ≤ 19 * length ns
numbers_short [] small = omega arith
numbers_short (n ∷ ns) small =
    omega (
      arith,
      digits_length n small.0,
      numbers_short ns small.1,
      length-append (32 ∷ decimal n) (spaced_words (map decimal ns)),
    )

pub verb_fine : (v : OpWord) → IsFine (verb_word v)
verb_fine verbs.Advance = literal_fine (codes "advance") refl refl refl refl
verb_fine verbs.Read = literal_fine (codes "read") refl refl refl refl
verb_fine verbs.Await = literal_fine (codes "await") refl refl refl refl
verb_fine verbs.Ticket = literal_fine (codes "ticket") refl refl refl refl
verb_fine verbs.Put = literal_fine (codes "put") refl refl refl refl
verb_fine verbs.Get = literal_fine (codes "get") refl refl refl refl
verb_fine verbs.P = literal_fine (codes "p") refl refl refl refl
verb_fine verbs.V = literal_fine (codes "v") refl refl refl refl
verb_fine verbs.PBoth = literal_fine (codes "pboth") refl refl refl refl
verb_fine verbs.Write = literal_fine (codes "write") refl refl refl refl
verb_fine verbs.Snapshot = literal_fine (codes "snapshot") refl refl refl refl
verb_fine verbs.Produce = literal_fine (codes "produce") refl refl refl refl
verb_fine verbs.Consume = literal_fine (codes "consume") refl refl refl refl

-- LINES

-- a line with these words, within the bound of a line
pub record IsLineOf (line : List ℕ) (ws : List (List ℕ)) : Type 0 where
  pub words : words_of line ≡ ws
  pub part : IsPart line
  pub good : is_no_line line ≡ false

are_words : (ws : List (List ℕ)) → AllByRecursion IsFine ws → AreWords ws
are_words [] all = tt
are_words (w ∷ ws) all =
    (All-from_recursion (λ b. eqb b 32 ≡ false) w all.0.word, are_words ws all.1)

are_parts : (ws : List (List ℕ)) → AllByRecursion IsFine ws → AllByRecursion (Lacks 10) ws
are_parts [] all = tt
are_parts (w ∷ ws) all = (all.0.part, are_parts ws all.1)

none_empty : (ws : List (List ℕ)) → AllByRecursion IsFine ws
    → list_any (λ w. eqb (length w) 0) ws ≡ false
none_empty [] all = refl
none_empty (w ∷ ws) all =
    ap (λ (b : Bool). b || list_any (λ w. eqb (length w) 0) ws) all.0.some ∙ none_empty ws all.1

pub fine_line : (w : List ℕ) (ws : List (List ℕ)) → AllByRecursion IsFine (w ∷ ws)
    → length (spaced_words ws) ≤ 8000 → IsLineOf (join_with_byte 32 (w ∷ ws)) (w ∷ ws)
fine_line w ws all long =
    let words : words_of (join_with_byte 32 (w ∷ ws)) ≡ w ∷ ws =
    words_join w ws (are_words (w ∷ ws) all) in
    let short : nat_lt 8192 (length (join_with_byte 32 (w ∷ ws))) ≡ false =
    le-ltb _ _ (omega (
      arith,
      long,
      all.0.short,
      ap length (join_spaced w ws),
      length-append w (spaced_words ws),
    )) in
    let some : list_any (λ v. eqb (length v) 0) (words_of (join_with_byte 32 (w ∷ ws))) ≡ false =
    ap (list_any (λ v. eqb (length v) 0)) words ∙ none_empty (w ∷ ws) all in
    record {
      words = words;
      part = All-from_recursion (λ b. eqb b 10 ≡ false) (join_with_byte 32 (w ∷ ws))
          (lacks_join (w ∷ ws) (are_parts (w ∷ ws) all));
      good = ap₂ (λ (a : Bool) (b : Bool). a || b) short some;
    }
