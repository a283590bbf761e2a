-- The line of the workers.
use Rattle.std.proofs.Common.{◌≡◌, ◌≢◌, ℕ, zero, suc, ◌<◌, ◌≤◌, List, [], ◌∷◌, length, get_or, Bool, true, false, not, Some, None, refl, sym, ap, ◌∙◌, arith, bytes_eq, codes, if◌then◌else◌, nat_lt}
use Rattle.std.specs.List.{list_any, AllByRecursion}
use Rattle.std.proofs.lemmas.List.Elements.{All-from_recursion, recursion_from_All}
use Rattle.std.proofs.lemmas.Slice.Eq.{bytes_eq-Decides}
use Rattle.std.proofs.lemmas.Bool.{true≢false, or_parts, or_from, not-false, not_from_true, ltb-false, le-ltb, false_from_ne_true}
use Rattle.ec_count.specs.Reserved.{is_name}
use Rattle.ec_heading.specs.HeaderTree.{AreWorkers}
use Rattle.ec_heading.specs.Lists.{has_word, has_word_twice}
use Rattle.ec_text.specs.Words.{words_of}
use Rattle.ec_text.proofs.shared.WordLemmas.{has_first}
use Rattle.ec_heading.specs.Heading.{workers_in}
use Rattle.ec_heading.specs.Kinds.{workers_fault}
use Rattle.ec_heading.specs.declared.heading.HeadFault.{HeadFault}
use Rattle.ec_heading.specs.declared.heading.HeadFault.TheVariants as faults
use Rattle.ec_heading.specs.Phrased.{HasWords}
use Rattle.ec_heading.proofs.shared.Phrases.{same_word}
use Rattle.ec_heading.proofs.shared.Listed.{Differ, tail_differs, head_differs}
use Rattle.ec_heading.proofs.shared.Declarable.{passed}

-- each word is a name
names_each : (ws : List (List ℕ)) → list_any (λ w. not (is_name w)) ws ≡ false → AllByRecursion (λ w. is_name w ≡ true) ws
names_each [] e = tt
names_each (w ∷ ws) e =
    let p = or_parts (not (is_name w)) (list_any (λ v. not (is_name v)) ws) e in
    (not-false _ p.0, names_each ws p.1)

each_named : (ws : List (List ℕ)) → AllByRecursion (λ w. is_name w ≡ true) ws → list_any (λ w. not (is_name w)) ws ≡ false
each_named [] h = refl
each_named (w ∷ ws) h = or_from _ _ (not_from_true _ h.0) (each_named ws h.1)

-- no word occurs twice
apart_from : (v : List ℕ) (ws : List (List ℕ)) → has_word v ws ≡ false → (k : ℕ) (d : List ℕ) → k < length ws → v ≢ get_or ws k d
apart_from v [] e k d within = absurd (omega arith)
apart_from v (w ∷ ws) e zero d within = λ same. true≢false (sym ((bytes_eq-Decides v w).1 same) ∙ (or_parts (bytes_eq v w) (has_word v ws) e).0)
apart_from v (w ∷ ws) e (suc k) d within = apart_from v ws (or_parts (bytes_eq v w) (has_word v ws) e).1 k d (omega arith)

differ_from : (ws : List (List ℕ)) → has_word_twice ws ≡ false → Differ ws
differ_from [] e = λ i j d lt within. absurd (omega arith)
differ_from (w ∷ ws) e = pairs (or_parts (has_word w ws) (has_word_twice ws) e).0 (differ_from ws (or_parts (has_word w ws) (has_word_twice ws) e).1)
  where
    pairs : has_word w ws ≡ false → Differ ws → (i j : ℕ) (d : List ℕ) → i < j → j < length (w ∷ ws) → get_or (w ∷ ws) i d ≢ get_or (w ∷ ws) j d
    pairs apart rest i zero d lt within = absurd (omega arith)
    pairs apart rest zero (suc j) d lt within = apart_from w ws apart j d (omega arith)
    pairs apart rest (suc i) (suc j) d lt within = rest i j d (omega arith) (omega arith)

word_apart : (v : List ℕ) (ws : List (List ℕ)) → ((k : ℕ) → k < length ws → get_or ws k [] ≢ v) → has_word v ws ≡ false
word_apart v [] h = refl
word_apart v (w ∷ ws) h = or_from _ _ (false_from_ne_true _ (λ e. h 0 (omega arith) (sym (same_word v w e)))) (word_apart v ws (λ k within. h (suc k) (omega arith)))

words_differ : (ws : List (List ℕ)) → Differ ws → has_word_twice ws ≡ false
words_differ [] h = refl
words_differ (w ∷ ws) h = or_from _ _ (word_apart w ws (λ k within. head_differs w ws k h within)) (words_differ ws (tail_differs w ws h))

-- A LINE WITHOUT FAULT NAMES WORKERS

nonempty : (ws : List (List ℕ)) → HasWords ws → 1 ≤ length ws
nonempty ws (v, vs, is) = omega (arith, ap length is)

pub are_workers : (ws : List (List ℕ)) → HasWords ws → workers_fault ws ≡ None → AreWorkers ws
are_workers ws some e =
    let l2 : List (Bool × HeadFault) = (nat_lt 16 (length ws), faults.TooMany) ∷ [] in
    let l1 : List (Bool × HeadFault) = (has_word_twice ws, faults.NameTaken) ∷ l2 in
    let p1 = passed (list_any (λ w. not (is_name w)) ws) faults.BadName l1 e in
    let p2 = passed (has_word_twice ws) faults.NameTaken l2 p1.1 in
    let p3 = passed (nat_lt 16 (length ws)) faults.TooMany [] p2.1 in
    record {
      some = nonempty ws some;
      few = ltb-false 16 (length ws) p3.0;
      each = All-from_recursion (λ w. is_name w ≡ true) ws (names_each ws p1.0);
      differ = differ_from ws p2.0;
    }

pub no_workers_fault : (ws : List (List ℕ)) → AreWorkers ws → workers_fault ws ≡ None
no_workers_fault ws are =
    let e1 : list_any (λ w. not (is_name w)) ws ≡ false = each_named ws (recursion_from_All (λ w. is_name w ≡ true) ws are.each) in
    let e2 : has_word_twice ws ≡ false = words_differ ws are.differ in
    let e3 : nat_lt 16 (length ws) ≡ false = le-ltb 16 (length ws) are.few in
    rw (e1, e2, e3) refl

-- THE WORDS AFTER `workers`

pub some_workers : (w : List ℕ) (rest : List ℕ) → workers_in (w ∷ words_of rest) ≡ (if bytes_eq w (codes "workers") then Some (words_of rest) else None)
some_workers w rest =
    let f = has_first rest in
    ap (λ (vs : List (List ℕ)). workers_in (w ∷ vs)) f.is ∙ ap (λ (vs : List (List ℕ)). if bytes_eq w (codes "workers") then Some vs else None) (sym f.is)
