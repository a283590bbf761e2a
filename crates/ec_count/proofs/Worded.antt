-- A look-up in the table of words is a look-up by bytes, and each word is short.
use Rattle.std.proofs.Common.{◌≡◌, ℕ, ◌<◌, ◌≤◌, List, [], ◌∷◌, ◌++◌, length, take, true, cond, Option, Some, None, refl, sym, ap, ◌∙◌, arith}
use Rattle.std.specs.Prelude.{bytes_eq}
use Rattle.std.specs.List.{AllByRecursion}
use Rattle.std.specs.Map.{lookup}
use Rattle.std.proofs.lemmas.Bool.{false_from_ne_true}
use Rattle.std.proofs.lemmas.Slice.Eq.{bytes_eq-Decides}
use Rattle.std.proofs.lemmas.List.{take-map}
use Rattle.std.proofs.lemmas.List.Elements.{All-push, All-take, recursion_from_All}
use Rattle.ec_count.specs.Names.{find_name}
use Rattle.ec_count.specs.kept.SymbolTable.{AreShort, by_word}
use Rattle.ec_count.specs.declared.target.Target.{Target}
use Rattle.ec_count.specs.declared.symbol_table.Word.{Word}

pub find_word : (word : List ℕ) (es : List (Word × Target)) → find_name word (by_word es) ≡ lookup (λ k. bytes_eq word k.bytes.items) es
find_word word [] = refl
find_word word (e ∷ es) = ap (λ (r : Option Target). cond (bytes_eq word e.0.bytes.items) (Some e.1) r) (find_word word es)

pub by_word-append : (es : List (Word × Target)) (k : Word) (t : Target) → by_word (es ++ (k, t) ∷ []) ≡ by_word es ++ (k.bytes.items, t) ∷ []
by_word-append [] k t = refl
by_word-append (e ∷ es) k t = ap (λ (r : List (List ℕ × Target)). (e.0.bytes.items, e.1) ∷ r) (by_word-append es k t)

pub by_word-take : (n : ℕ) (es : List (Word × Target)) → by_word (take n es) ≡ take n (by_word es)
by_word-take n es = sym (take-map (λ (e : Word × Target). (e.0.bytes.items, e.1)) n es)

-- a long word is not in the table
none_long : (word : List ℕ) (names : List (List ℕ × Target)) → 24 < length word → AllByRecursion (λ e. length e.0 ≤ 24) names → find_name word names ≡ None
none_long word [] long short = refl
none_long word (e ∷ es) long short =
    let other : bytes_eq word e.0 ≡ true → ⊥ = λ q. (let same : length word ≡ length e.0 = ap length ((bytes_eq-Decides word e.0).0 q) in let few : length e.0 ≤ 24 = short.0 in omega arith) in
    ap (λ b. cond b (Some e.1) (find_name word es)) (false_from_ne_true (bytes_eq word e.0) other) ∙ none_long word es long short.1

pub long_word : (word : List ℕ) (names : List (List ℕ × Target)) → 24 < length word → AreShort names → find_name word names ≡ None
long_word word names long short = none_long word names long (recursion_from_All (λ e. length e.0 ≤ 24) names short)

pub short-push : (names : List (List ℕ × Target)) (word : List ℕ) (target : Target) → AreShort names → length word ≤ 24 → AreShort (names ++ (word, target) ∷ [])
short-push names word target short few = All-push (λ e. length e.0 ≤ 24) names (word, target) short few

pub short-take : (n : ℕ) (names : List (List ℕ × Target)) → AreShort names → AreShort (take n names)
short-take n names short = All-take (λ e. length e.0 ≤ 24) n names short
