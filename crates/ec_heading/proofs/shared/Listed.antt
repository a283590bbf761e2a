-- The workers of a header, found by their names.
use Rattle.std.proofs.Common.{◌≡◌, ◌≢◌, ℕ, zero, suc, ◌+◌, ◌<◌, List, [], ◌∷◌, ◌++◌, length, get_or, Bool, true, false, cond, Option, Some, None, is_none, refl, sym, ap, ◌∙◌, arith, bytes_eq, nat_le, leb, AllPairs, option_and_then, add-zero, zero-add, eqb, ne_eqb}
use Rattle.std.specs.List.{list_any}
use Rattle.std.specs.Option.{option_map_or}
use Rattle.std.proofs.lemmas.Bool.{true≢false, or_parts, or_from, lt-leb, leb-false, false_from_ne_true}
use Rattle.ec_count.specs.Names.{find_name}
use Rattle.ec_count.specs.declared.target.Target.{Target}
use Rattle.ec_count.specs.declared.target.Target.TheVariants.{Worker}
use Rattle.ec_heading.specs.HeaderTree.{number_names}
use Rattle.ec_heading.specs.Spelling.{list_words}
use Rattle.ec_heading.specs.Lists.{target_worker, worker_in, ids_in, has_unknown}
use Rattle.ec_heading.proofs.shared.Phrases.{same_word, is_itself}

abbrev pub Named : Type 0
Named = List (List ℕ × Target)

-- no worker is named there
abbrev pub HasNoWorker : Named → Type 0
HasNoWorker [] = Unit {0}
HasNoWorker (e ∷ es) = (target_worker e.1 ≡ None) × HasNoWorker es

pub no_worker-append : (es fs : Named) → HasNoWorker es → HasNoWorker fs → HasNoWorker (es ++ fs)
no_worker-append [] fs h k = k
no_worker-append (e ∷ es) fs h k = (h.0, no_worker-append es fs h.1 k)

no_worker : (es : Named) (w : List ℕ) (i : ℕ) → HasNoWorker es → worker_in es w ≡ Some i → ⊥
no_worker [] w i h e = cc
no_worker (d ∷ es) w i h e =
    let P : Bool → Type 0 = λ b. option_and_then target_worker (cond b (Some d.1) (find_name w es)) ≡ Some i → ⊥ in
    let go : P (bytes_eq w d.0) = elim (bytes_eq w d.0) as P [ true ↦ λ f. (let n : target_worker d.1 ≡ None = h.0 in cc) | false ↦ λ f. no_worker es w i h.1 f ] in
    go e

-- the number, counted from that of the first name, is that of this name
pub record IsAt (ws : List (List ℕ)) (n : ℕ) (w : List ℕ) (i : ℕ) : Type 0 where
  pub place : ℕ
  pub number : i ≡ n + place
  pub within : place < length ws
  pub name : get_or ws place [] ≡ w

next : (v : List ℕ) (ws : List (List ℕ)) (n : ℕ) (w : List ℕ) (i : ℕ) → IsAt ws (n + 1) w i → IsAt (v ∷ ws) n w i
next v ws n w i at = record {
  place = suc at.place;
  number = omega (arith, at.number);
  within = omega (arith, at.within);
  name = at.name;
}

-- a word that is found as a worker is the name at the index of that worker
pub worker_found : (ws : List (List ℕ)) (n : ℕ) (es : Named) (w : List ℕ) (i : ℕ) → HasNoWorker es → worker_in (number_names n ws ++ es) w ≡ Some i → IsAt ws n w i
worker_found [] n es w i h e = absurd (no_worker es w i h e)
worker_found (v ∷ ws) n es w i h e =
    let P : Bool → Type 0 = λ b. bytes_eq w v ≡ b → option_and_then target_worker (cond b (Some (Worker n)) (find_name w (number_names (n + 1) ws ++ es))) ≡ Some i → IsAt (v ∷ ws) n w i in
    let go : P (bytes_eq w v) = elim (bytes_eq w v) as P [
      | true ↦ λ q f. (let same : Some n ≡ Some i = f in let s : n ≡ i = cc in record { place = 0; number = omega (arith, s); within = omega arith; name = sym (same_word w v q) })
      | false ↦ λ q f. next v ws n w i (worker_found ws (n + 1) es w i h f)
    ] in
    go refl e

-- the names of workers differ
abbrev pub Differ : List (List ℕ) → Type 0
Differ ws = AllPairs (λ v w. v ≢ w) ws

pub tail_differs : (v : List ℕ) (ws : List (List ℕ)) → Differ (v ∷ ws) → Differ ws
tail_differs v ws h = λ i j d lt within. h (suc i) (suc j) d (omega arith) (omega arith)

pub head_differs : (v : List ℕ) (ws : List (List ℕ)) (k : ℕ) → Differ (v ∷ ws) → k < length ws → get_or ws k [] ≢ v
head_differs v ws k h within = λ e. h 0 (suc k) [] (omega arith) (omega arith) (sym e)

-- if the names of workers differ, each is found as the worker at its index
pub finds_worker : (ws : List (List ℕ)) (n : ℕ) (es : Named) (k : ℕ) → Differ ws → k < length ws → worker_in (number_names n ws ++ es) (get_or ws k []) ≡ Some (n + k)
finds_worker [] n es k h within = absurd (omega arith)
finds_worker (v ∷ ws) n es zero h within =
    ap (λ (b : Bool). option_and_then target_worker (cond b (Some (Worker n)) (find_name v (number_names (n + 1) ws ++ es)))) (is_itself v) ∙ ap Some (sym (add-zero n))
finds_worker (v ∷ ws) n es (suc k) h within =
    let other : bytes_eq (get_or ws k []) v ≡ false = false_from_ne_true _ (λ q. head_differs v ws k h (omega arith) (same_word _ v q)) in
    let number : n + 1 + k ≡ n + suc k = omega arith in
    ap (λ (b : Bool). option_and_then target_worker (cond b (Some (Worker n)) (find_name (get_or ws k []) (number_names (n + 1) ws ++ es)))) other
    ∙ finds_worker ws (n + 1) es k (tail_differs v ws h) (omega arith)
    ∙ ap Some number

-- LISTS OF WORKERS

-- every number of the list is a worker's
abbrev pub AreBelow : ℕ → List ℕ → Type 0
AreBelow n [] = Unit {0}
AreBelow n (i ∷ ids) = (i < n) × AreBelow n ids

pub below_known : (n : ℕ) (ids : List ℕ) → list_any (λ w. nat_le n w) ids ≡ false → AreBelow n ids
below_known n [] e = tt
below_known n (i ∷ ids) e =
    let p = or_parts (leb n i) (list_any (λ w. nat_le n w) ids) e in
    (leb-false n i p.0, below_known n ids p.1)

pub known_below : (n : ℕ) (ids : List ℕ) → AreBelow n ids → list_any (λ w. nat_le n w) ids ≡ false
known_below n [] h = refl
known_below n (i ∷ ids) h = or_from _ _ (lt-leb n i h.0) (known_below n ids h.1)

-- the words of a header: the names of its workers, and then the others
abbrev pub with_others : List (List ℕ) → Named → Named
with_others ws es = number_names 0 ws ++ es

-- numbers of workers, written as names, are read as these numbers
pub ids_again : (ws : List (List ℕ)) (es : Named) (ids : List ℕ) → Differ ws → AreBelow (length ws) ids → ids_in (with_others ws es) (list_words ws ids) ≡ ids
ids_again ws es [] h below = refl
ids_again ws es (i ∷ ids) h below =
    let found : worker_in (with_others ws es) (get_or ws i []) ≡ Some i = finds_worker ws 0 es i h below.0 ∙ ap Some (zero-add i) in
    ap (λ (o : Option ℕ). option_map_or (λ j. j ∷ ids_in (with_others ws es) (list_words ws ids)) o (ids_in (with_others ws es) (list_words ws ids))) found
    ∙ ap (λ (js : List ℕ). i ∷ js) (ids_again ws es ids h below.1)

-- numbers of workers, written as names, have no unknown word among them
pub ids_known : (ws : List (List ℕ)) (es : Named) (ids : List ℕ) → Differ ws → AreBelow (length ws) ids → has_unknown (with_others ws es) (list_words ws ids) ≡ false
ids_known ws es [] h below = refl
ids_known ws es (i ∷ ids) h below =
    let found : worker_in (with_others ws es) (get_or ws i []) ≡ Some i = finds_worker ws 0 es i h below.0 ∙ ap Some (zero-add i) in
    or_from _ _ (ap is_none found) (ids_known ws es ids h below.1)

none_cases : {P : Type 0} (o : Option ℕ) → is_none o ≡ false → ((i : ℕ) → o ≡ Some i → P) → P
none_cases None e k = absurd (true≢false e)
none_cases (Some i) e k = k i refl

-- words that are all known, read as numbers of workers, are written as these words
pub ids_spelled : (ws : List (List ℕ)) (es : Named) (vs : List (List ℕ)) → HasNoWorker es → has_unknown (with_others ws es) vs ≡ false → list_words ws (ids_in (with_others ws es) vs) ≡ vs
ids_spelled ws es [] h known = refl
ids_spelled ws es (v ∷ vs) h known =
    let p = or_parts (is_none (worker_in (with_others ws es) v)) (has_unknown (with_others ws es) vs) known in
    none_cases (worker_in (with_others ws es) v) p.0 (λ i found.
    let at : IsAt ws 0 v i = worker_found ws 0 es v i h found in
    let place : i ≡ at.place = omega (arith, at.number) in
    ap (λ (o : Option ℕ). list_words ws (option_map_or (λ j. j ∷ ids_in (with_others ws es) vs) o (ids_in (with_others ws es) vs))) found
    ∙ ap (λ (w : List ℕ). w ∷ list_words ws (ids_in (with_others ws es) vs)) (ap (λ (k : ℕ). get_or ws k []) place ∙ at.name)
    ∙ ap (λ (us : List (List ℕ)). v ∷ us) (ids_spelled ws es vs h p.1))

below_more : (n : ℕ) (o : Option ℕ) (ids : List ℕ) → ((i : ℕ) → o ≡ Some i → i < n) → AreBelow n ids → AreBelow n (option_map_or (λ j. j ∷ ids) o ids)
below_more n None ids h below = below
below_more n (Some i) ids h below = (h i refl, below)

-- each number that words are read as is that of a worker
pub ids_below : (ws : List (List ℕ)) (es : Named) (vs : List (List ℕ)) → HasNoWorker es → AreBelow (length ws) (ids_in (with_others ws es) vs)
ids_below ws es [] h = tt
ids_below ws es (v ∷ vs) h = below_more (length ws) (worker_in (with_others ws es) v) (ids_in (with_others ws es) vs)
    (λ i found. (let at : IsAt ws 0 v i = worker_found ws 0 es v i h found in omega (arith, at.number, at.within)))
    (ids_below ws es vs h)

pub ids_some : (names : Named) (v : List ℕ) (vs : List (List ℕ)) → has_unknown names (v ∷ vs) ≡ false → eqb (length (ids_in names (v ∷ vs))) 0 ≡ false
ids_some names v vs known =
    let p = or_parts (is_none (worker_in names v)) (has_unknown names vs) known in
    none_cases (worker_in names v) p.0 (λ i found.
    ap (λ (o : Option ℕ). eqb (length (option_map_or (λ j. j ∷ ids_in names vs) o (ids_in names vs))) 0) found ∙ ne_eqb _ _ (λ e. (omega (arith, e))))
