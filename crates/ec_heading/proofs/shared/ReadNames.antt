-- Names of a header: each object has one, and is found by it.
use Rattle.std.proofs.Common.{◌≡◌, ℕ, ◌+◌, ◌-◌, ◌<◌, ◌≤◌, List, [], ◌∷◌, ◌++◌, cond, Bool, true, false, eqb, ◌&&◌, ◌||◌, suc, Option, Some, unwrap_or, refl, sym, ap, subst, ◌∙◌, arith, nat_lt, nat_le, codes, decimal, slice_get}
use Rattle.std.specs.Prelude.{bytes_eq}
use Rattle.std.specs.List.{AllByRecursion, list_any}
use Rattle.std.proofs.lemmas.Bool.{true≢false, and_parts, and_from, ltb-true, lt-ltb, leb-true, le-leb, ne_eqb, eq-eqb, false_from_ne_true}
use Rattle.std.proofs.lemmas.Slice.Eq.{bytes_eq-Decides}
use Rattle.ec_count.specs.Names.{find_name, name_of, same_target}
use Rattle.ec_count.specs.declared.target.Target.{Target}
use Rattle.ec_count.specs.declared.target.Target.TheVariants.{Worker, Event, Sequencer, Cells, Group}
use Rattle.ec_heading.specs.Spelling.{target_name, cell_word, cell_in, target_index}
use Rattle.ec_heading.specs.EntryWords.{NameTable}
use Rattle.ec_heading.proofs.shared.SpelledWords.{is_plain, IsPlainWord, AreWords, entry_found, entry_word, given_word, named_found}
use Rattle.ec_heading.proofs.shared.TreeNames.{same_itself as same_self}

-- EACH OBJECT HAS ONE NAME

-- whether two targets are one, or share a cell
abbrev pub is_shared : Target → Target → Bool
is_shared (Cells x m) (Cells y n) = nat_lt x (y + n) && nat_lt y (x + m)
is_shared s t = same_target s t

-- no two targets are one, or share a cell
abbrev pub AreApart : NameTable → Type 0
AreApart [] = Unit {0}
AreApart (e ∷ es) = AllByRecursion (λ (d : List ℕ × Target). is_shared e.1 d.1 ≡ false) es × AreApart es

abbrev pub is_block : Target → Bool
is_block (Cells x n) = true
is_block _ = false

plain_same : (s t : Target) → is_block t ≡ false → is_shared s t ≡ same_target s t
plain_same (Cells x m) (Cells y n) h = absurd (true≢false h)
plain_same _ _ h = refl

-- what holds of each target holds of one that is found
pub found_all : (Q : Target → Type 0) (names : NameTable) (word : List ℕ) (t : Target) → AllByRecursion (λ (d : List ℕ × Target). Q d.1) names → find_name word names ≡ Some t → Q t
found_all Q [] word t all e = cc
found_all Q (x ∷ xs) word t all e =
    elim (bytes_eq word x.0) as (λ b. cond b (Some x.1) (find_name word xs) ≡ Some t → Q t) [
      | true ↦ λ g. (let q : x.1 ≡ t = cc in subst Q q all.0)
      | false ↦ λ g. found_all Q xs word t all.1 g
    ] e

-- a target that is found is named by the word
pub named_back : (names : NameTable) (word : List ℕ) (t : Target) → AreApart names → is_block t ≡ false → find_name word names ≡ Some t → name_of t names ≡ Some word
named_back [] word t apart plain e = cc
named_back (x ∷ xs) word t apart plain e =
    elim (bytes_eq word x.0) as (λ b. bytes_eq word x.0 ≡ b → cond b (Some x.1) (find_name word xs) ≡ Some t → cond (same_target x.1 t) (Some x.0) (name_of t xs) ≡ Some word) [
      | true ↦ λ q g.
          (let s : x.1 ≡ t = cc in
          let w : word ≡ x.0 = (bytes_eq-Decides word x.0).0 q in
          let same : same_target x.1 t ≡ true = ap (λ (y : Target). same_target y t) s ∙ same_self t in
          rw same (ap Some (sym w)))
      | false ↦ λ q g.
          (let off : same_target x.1 t ≡ false = sym (plain_same x.1 t plain) ∙ found_all (λ d. is_shared x.1 d ≡ false) xs word t apart.0 g in
          rw off (named_back xs word t apart.1 plain g))
    ] refl e

-- if targets are apart, what a word is found as has that word as its name, if it is no block of cells
pub word_back : (names : NameTable) (word : List ℕ) (t : Target) → AreApart names → is_block t ≡ false → find_name word names ≡ Some t → target_name names t ≡ word
word_back names word t apart plain e = ap (λ (o : Option (List ℕ)). unwrap_or o []) (named_back names word t apart plain e)

-- CELLS

-- the word for a cell of a block: the block's word, and the cell's number in brackets
abbrev pub bracketed : List ℕ → ℕ → List ℕ
bracketed block i = block ++ codes "[" ++ decimal i ++ codes "]"

cell_inside : (t : Target) (first n i : ℕ) → i < n → t ≡ Cells first n → (cell_in (first + i) t ≡ true) × (first + i - target_index t ≡ i)
cell_inside t first n i small is =
    let low : nat_le first (first + i) ≡ true = le-leb _ _ (omega arith) in
    let high : nat_lt (first + i) (first + n) ≡ true = lt-ltb _ _ (omega arith) in
    (ap (cell_in (first + i)) is ∙ and_from _ _ low high, ap (λ (s : Target). first + i - target_index s) is ∙ omega arith)

cell_outside : (s : Target) (first n i : ℕ) → i < n → is_shared s (Cells first n) ≡ false → cell_in (first + i) s ≡ false
cell_outside (Cells x m) first n i small off =
    false_from_ne_true _ (λ h.
    let p = and_parts (nat_le x (first + i)) (nat_lt (first + i) (x + m)) h in
    let low : x ≤ first + i = leb-true _ _ p.0 in
    let high : first + i < x + m = ltb-true _ _ p.1 in
    true≢false (sym (and_from _ _ (lt-ltb x (first + n) (omega arith)) (lt-ltb first (x + m) (omega arith))) ∙ off))
cell_outside _ first n i small off = refl

-- the word for a cell of a block that is found begins with the block's word
pub cell_back : (names : NameTable) (block : List ℕ) (first n i : ℕ) → AreApart names → i < n → find_name block names ≡ Some (Cells first n) → cell_word names (first + i) ≡ bracketed block i
unfolding cell_word
cell_back [] block first n i apart small e = cc
cell_back (x ∷ xs) block first n i apart small e =
    elim (bytes_eq block x.0) as (λ b. bytes_eq block x.0 ≡ b → cond b (Some x.1) (find_name block xs) ≡ Some (Cells first n) → cond (cell_in (first + i) x.1) (bracketed x.0 (first + i - target_index x.1)) (cell_word xs (first + i)) ≡ bracketed block i) [
      | true ↦ λ q g.
          (let s : x.1 ≡ Cells first n = cc in
          let w : block ≡ x.0 = (bytes_eq-Decides block x.0).0 q in
          let k = cell_inside x.1 first n i small s in
          rw k.0 (ap (bracketed x.0) k.1 ∙ ap (λ (y : List ℕ). bracketed y i) (sym w)))
      | false ↦ λ q g.
          (let off : cell_in (first + i) x.1 ≡ false = cell_outside x.1 first n i small (found_all (λ d. is_shared x.1 d ≡ false) xs block (Cells first n) apart.0 g) in
          rw off (cell_back xs block first n i apart.1 small g))
    ] refl e

-- WHAT IS DECLARED HAS A NAME

-- some word is the name of the target
pub record HasName (names : NameTable) (t : Target) : Type 0 where
  pub word : List ℕ
  pub is : name_of t names ≡ Some word

-- whether a cell is in some block of the table
abbrev pub is_celled : ℕ → NameTable → Bool
is_celled x names = list_any (λ (e : List ℕ × Target). cell_in x e.1) names

-- the block of a cell
pub record HasBlock (names : NameTable) (x : ℕ) : Type 0 where
  pub at : ℕ
  pub block : List ℕ
  pub first : ℕ
  pub count : ℕ
  pub there : slice_get names at ≡ Some (block, Cells first count)
  pub low : first ≤ x
  pub high : x < first + count
  pub word : cell_word names x ≡ bracketed block (x - first)

block_here : (x : ℕ) (block : List ℕ) (t : Target) (rest : NameTable) → cell_in x t ≡ true → HasBlock ((block, t) ∷ rest) x
unfolding cell_word
block_here x block (Cells first n) rest h =
    let p = and_parts (nat_le first x) (nat_lt x (first + n)) h in record {
      at = 0;
      block = block;
      first = first;
      count = n;
      there = refl;
      low = leb-true _ _ p.0;
      high = ltb-true _ _ p.1;
      word = rw h refl;
    }
block_here x block _ rest h = absurd (true≢false (sym h))

block_later : (x : ℕ) (e : List ℕ × Target) (rest : NameTable) → cell_in x e.1 ≡ false → HasBlock rest x → HasBlock (e ∷ rest) x
unfolding cell_word
block_later x e rest off b = record {
  at = suc b.at;
  block = b.block;
  first = b.first;
  count = b.count;
  there = b.there;
  low = b.low;
  high = b.high;
  word = rw off b.word;
}

-- a cell that is in a block of the table has a word
pub has_block : (names : NameTable) (x : ℕ) → is_celled x names ≡ true → HasBlock names x
has_block [] x h = absurd (true≢false (sym h))
has_block (e ∷ es) x h =
    elim (cell_in x e.1) as (λ b. cell_in x e.1 ≡ b → (b || is_celled x es) ≡ true → HasBlock (e ∷ es) x) [
      | true ↦ λ q g. block_here x e.0 e.1 es q
      | false ↦ λ q g. block_later x e es q (has_block es x g)
    ] refl h

-- THE BYTES OF WORDS

lacks : (c : ℕ) → is_plain c ≡ false → (bs : List ℕ) → AllByRecursion (λ b. is_plain b ≡ true) bs → AllByRecursion (λ b. eqb b c ≡ false) bs
lacks c off [] h = tt
lacks c off (b ∷ bs) h = (ne_eqb b c (λ same. true≢false (sym h.0 ∙ ap is_plain same ∙ off)), lacks c off bs h.1)

-- a byte that is no letter, digit, underscore or dot is in no plain word
pub word_lacks : (c : ℕ) (word : List ℕ) → is_plain c ≡ false → IsPlainWord word → AllByRecursion (λ b. eqb b c ≡ false) word
word_lacks c word off h = lacks c off word h.plain

-- the word is plain, and is found as the target
pub record IsNamedBy (words : NameTable) (t : Target) (word : List ℕ) : Type 0 where
  pub found : find_name word words ≡ Some t
  pub plain : IsPlainWord word

-- a target that has a name is found by it, and the name is plain
pub named_by : (words : NameTable) (t : Target) → AreWords words → HasName words t → IsNamedBy words t (target_name words t)
named_by words t are has =
    let word : has.word ≡ target_name words t = sym (ap (λ (o : Option (List ℕ)). unwrap_or o []) has.is) in
    subst (IsNamedBy words t) word (record {
      found = named_found words t has.word are.distinct has.is;
      plain = given_word IsPlainWord words t has.word are.each has.is;
    })

-- the block of a cell is found by its word, and the word is plain
pub block_by : (words : NameTable) (x : ℕ) → AreWords words → (b : HasBlock words x) → IsNamedBy words (Cells b.first b.count) b.block
block_by words x are b = record {
  found = entry_found words b.at (b.block, Cells b.first b.count) are.distinct b.there;
  plain = entry_word IsPlainWord words b.at (b.block, Cells b.first b.count) are.each b.there;
}
