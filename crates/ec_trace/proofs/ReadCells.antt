-- The encoding of a cell is read, and nothing else.
use Rattle.std.proofs.Common.{◌≡◌, ℕ, ◌+◌, ◌-◌, ◌<◌, List, [], ◌∷◌, ◌++◌, cond, eqb, true, false, Option, None, Some, refl, sym, ap, ◌∙◌, arith, eq-eqb, decimal, append_assoc, nat_lt}
use Rattle.std.specs.Prelude.{option_map}
use Rattle.std.specs.Option.{option_and_then}
use Rattle.std.specs.List.{AllByRecursion}
use Rattle.std.specs.Int.{IsInRange}
use Rattle.std.proofs.lemmas.Bool.{eqb-true, ne_eqb, ltb-true, lt-ltb}
use Rattle.std.proofs.lemmas.List.Elements.{All-from_get_or, recursion_from_All}
use Rattle.std.proofs.lemmas.Str.Parse.{not_in_digits}
use Rattle.std.proofs.lemmas.Fmt.{digits_decimal}
use Rattle.ec_count.specs.Names.{find_name}
use Rattle.ec_heading.proofs.shared.SpelledWords.{AreWords}
use Rattle.ec_count.specs.declared.target.Target.{Target}
use Rattle.ec_count.specs.declared.target.Target.TheVariants.{Cells}
use Rattle.ec_text.specs.Words.{number_in_word}
use Rattle.ec_text.proofs.shared.NumberLemmas.{own, number_again, number_takes, guarded}
use Rattle.ec_heading.specs.Spelling.{cell_word}
use Rattle.ec_heading.specs.EntryWords.{NameTable, cut_at, closed_number, block_of, cell_at, cell_of, cell_by, cell_in_word}
use Rattle.ec_heading.proofs.shared.ReadNames.{AreApart, bracketed, cell_back, HasBlock, block_by, IsNamedBy, word_lacks}

-- STEPS THAT MAY FAIL

pub option_back : {A B : Type 0} (f : A → Option B) (o : Option A) (y : B) → option_and_then f o ≡ Some y → (x : A) × (o ≡ Some x) × (f x ≡ Some y)
option_back f None y e = cc
option_back f (Some x) y e = (x, refl, e)

-- WHERE A WORD IS CUT

-- a word with no such byte before this one
pub cut_at-append : (c : ℕ) (prefix rest : List ℕ) → AllByRecursion (λ b. eqb b c ≡ false) prefix → cut_at c (prefix ++ c ∷ rest) ≡ Some (prefix, rest)
unfolding cut_at
cut_at-append c [] rest all = let e : eqb c c ≡ true = eq-eqb c c refl in rw e refl
cut_at-append c (b ∷ prefix) rest all = rw (all.0, cut_at-append c prefix rest all.1) refl

map_back : (b : ℕ) (o : Option (List ℕ × List ℕ)) (prefix rest : List ℕ) → option_map {U = List ℕ × List ℕ} (λ (p : List ℕ × List ℕ). (b ∷ p.0, p.1)) o ≡ Some (prefix, rest)
    → (mid : List ℕ) × (o ≡ Some (mid, rest)) × (prefix ≡ b ∷ mid)
map_back b None prefix rest e = cc
map_back b (Some p) prefix rest e = (
    let same : (b ∷ p.0, p.1) ≡ (prefix, rest) = cc in
    let tail : p.1 ≡ rest = ap (λ (q : List ℕ × List ℕ). q.1) same in
    (p.0, ap (λ (r : List ℕ). Some (p.0, r)) tail, sym (ap (λ (q : List ℕ × List ℕ). q.0) same)))

-- the pieces, with the byte between them, are the word
pub cut_at-joins : (c : ℕ) (word prefix rest : List ℕ) → cut_at c word ≡ Some (prefix, rest) → word ≡ prefix ++ c ∷ rest
unfolding cut_at
cut_at-joins c [] prefix rest e = cc
cut_at-joins c (b ∷ word) prefix rest e =
    elim (eqb b c) as (λ t. eqb b c ≡ t → cond t (Some ([], word)) (option_map {U = List ℕ × List ℕ} (λ (p : List ℕ × List ℕ). (b ∷ p.0, p.1)) (cut_at c word)) ≡ Some (prefix, rest) → b ∷ word ≡ prefix ++ c ∷ rest) [
      | true ↦ λ q g.
          (let same : ([], word) ≡ (prefix, rest) = cc in
          ap (λ (x : ℕ). x ∷ word) (eqb-true b c q) ∙ ap (λ (p : List ℕ × List ℕ). p.0 ++ c ∷ p.1) same)
      | false ↦ λ q g.
          (let k = map_back b (cut_at c word) prefix rest g in
          ap (λ (r : List ℕ). b ∷ r) (cut_at-joins c word k.0 rest k.1) ∙ ap (λ (r : List ℕ). r ++ c ∷ rest) (sym k.2))
    ] refl e

-- ENCODINGS ARE READ

pub decimal_lacks : (c n : ℕ) → n < 1000000000000000000 → ¬ (IsInRange 48 57 c) → AllByRecursion (λ b. eqb b c ≡ false) (decimal n)
decimal_lacks c n small out =
    recursion_from_All (λ b. eqb b c ≡ false) (decimal n) (All-from_get_or (λ b. eqb b c ≡ false) (decimal n) 0 (λ i h.
    ne_eqb _ _ (not_in_digits own (decimal n) c (digits_decimal own n (omega arith)) out i h)))

-- the word of a cell, whose block has this name
bracketed_read : (names : NameTable) (block : List ℕ) (first n i : ℕ) → IsNamedBy names (Cells first n) block → i < n → i < 1000000000000000000 → cell_in_word names (bracketed block i) ≡ Some (first + i)
unfolding cell_in_word
bracketed_read names block first n i by inside small =
    let shape : bracketed block i ≡ block ++ 91 ∷ (decimal i ++ 93 ∷ []) =
    append_assoc (block ++ 91 ∷ []) (decimal i) (93 ∷ []) ∙ append_assoc block (91 ∷ []) (decimal i ++ 93 ∷ []) in
    let prefix : cut_at 91 (bracketed block i) ≡ Some (block, decimal i ++ 93 ∷ []) =
    ap (cut_at 91) shape ∙ cut_at-append 91 block (decimal i ++ 93 ∷ []) (word_lacks 91 block refl by.plain) in
    let back : cut_at 93 (decimal i ++ 93 ∷ []) ≡ Some (decimal i, []) = cut_at-append 93 (decimal i) [] (decimal_lacks 93 i small (λ r. omega arith)) in
    let below : nat_lt i n ≡ true = lt-ltb _ _ inside in
    rw prefix (rw back (rw (number_again i small) (rw by.found (rw below refl))))

pub cell_again : (names : NameTable) (x : ℕ) → AreWords names → HasBlock names x → x < 1000000000000000000 → cell_in_word names (cell_word names x) ≡ Some x
cell_again names x are b small =
    ap (cell_in_word names) b.word
    ∙ bracketed_read names b.block b.first b.count (x - b.first) (block_by names x are b) (omega (arith, b.low, b.high)) (omega arith)
    ∙ ap Some (omega (arith, b.low))

-- WHAT IS READ IS AN ENCODING

block_back : (t : Target) (p : ℕ × ℕ) → block_of t ≡ Some p → t ≡ Cells p.0 p.1
block_back (Cells first n) p e = (let same : (first, n) ≡ p = cc in ap (λ (q : ℕ × ℕ). Cells q.0 q.1) same)
block_back _ p e = cc

inside_back : (i first n x : ℕ) → cell_at i (first, n) ≡ Some x → (i < n) × (first + i ≡ x)
inside_back i first n x e =
    let g = guarded (nat_lt i n) (Some (first + i)) x e in
    (ltb-true _ _ g.0, cc)

-- the number before the bracket
closed_back : (p : Option (List ℕ × List ℕ)) (i : ℕ) → closed_number p ≡ Some i → (digits : List ℕ) × (p ≡ Some (digits, [])) × (number_in_word digits ≡ Some i)
closed_back None i e = cc
closed_back (Some (digits, [])) i e = (digits, refl, e)
closed_back (Some (digits, b ∷ bs)) i e = cc

pub record IsCell (names : NameTable) (word : List ℕ) (x : ℕ) : Type 0 where
  pub block : List ℕ
  pub first : ℕ
  pub count : ℕ
  pub place : ℕ
  pub found : find_name block names ≡ Some (Cells first count)
  pub inside : place < count
  pub is : first + place ≡ x
  pub spelled : word ≡ bracketed block place

cell_parts : (names : NameTable) (word : List ℕ) (p : Option (List ℕ × List ℕ)) (x : ℕ) → cut_at 91 word ≡ p → cell_by names p ≡ Some x → IsCell names word x
cell_parts names word None x at e = cc
cell_parts names word (Some (name, rest)) x at e =
    let n = option_back (cell_of names name) (closed_number (cut_at 93 rest)) x e in
    let d = closed_back (cut_at 93 rest) n.0 n.1 in
    let b = option_back (cell_at n.0) (option_and_then block_of (find_name name names)) x n.2 in
    let t = option_back block_of (find_name name names) b.0 b.1 in
    let k = inside_back n.0 b.0.0 b.0.1 x b.2 in
    let number : d.0 ≡ decimal n.0 = (number_takes d.0 n.0 d.2).0 in
    let inner : rest ≡ decimal n.0 ++ 93 ∷ [] = cut_at-joins 93 rest d.0 [] d.1 ∙ ap (λ (r : List ℕ). r ++ 93 ∷ []) number in
    let outer : word ≡ name ++ 91 ∷ rest = cut_at-joins 91 word name rest at in record {
      block = name;
      first = b.0.0;
      count = b.0.1;
      place = n.0;
      found = t.1 ∙ ap Some (block_back t.0 b.0 t.2);
      inside = k.0;
      is = k.1;
      spelled = outer ∙ ap (λ (r : List ℕ). name ++ 91 ∷ r) inner ∙ sym (append_assoc (name ++ 91 ∷ []) (decimal n.0) (93 ∷ []) ∙ append_assoc name (91 ∷ []) (decimal n.0 ++ 93 ∷ []));
    }

pub cell_is : (names : NameTable) (word : List ℕ) (x : ℕ) → cell_in_word names word ≡ Some x → IsCell names word x
unfolding cell_in_word
cell_is names word x e = cell_parts names word (cut_at 91 word) x refl e

pub cell_spelled : (names : NameTable) (word : List ℕ) (x : ℕ) → AreApart names → cell_in_word names word ≡ Some x → cell_word names x ≡ word
cell_spelled names word x apart e =
    let c = cell_is names word x e in
    ap (cell_word names) (sym c.is) ∙ cell_back names c.block c.first c.count c.place apart c.inside c.found ∙ sym c.spelled
