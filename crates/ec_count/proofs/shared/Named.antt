-- A look-up in the table is a look-up by bytes, and the invariant of a table of names.
use Rattle.std.proofs.Common.{zero-add, Bool, add-zero, option_map, ◌≡◌, ℕ, zero, suc, ◌+◌, ◌<◌, List, [], ◌∷◌, ◌++◌, length, get_or, slice_get, cond, true, false, not, ◌&&◌, Option, None, Some, is_some, refl, sym, ap, subst, ◌∙◌, true≢false, arith, add-one, nat_le}
use Rattle.std.specs.Prelude.{bytes_eq, IsTrue, ◌≢◌}
use Rattle.std.specs.List.{AllPairs, list_all, position_from}
use Rattle.std.specs.Map.{lookup}
use Rattle.std.specs.Global.{Vec}
use Rattle.std.specs.Str.{IsAscii, IsUtf8}
use Rattle.std.specs.Char.{is_ascii_alphabetic}
use Rattle.std.specs.Option.{option_and_then}
use Rattle.std.proofs.lemmas.Str.{IsUtf8-from_ascii}
use Rattle.std.proofs.lemmas.Bool.{false_from_ne_true, and_parts}
use Rattle.std.proofs.lemmas.Bool.Decides.{nat_tests}
use Rattle.std.proofs.lemmas.Slice.Eq.{bytes_eq-Decides}
use Rattle.std.proofs.lemmas.Option.{slice_get_within, get_or_from_slice_get}
use Rattle.std.proofs.lemmas.List.Elements.{All-push}
use Rattle.std.proofs.lemmas.List.Quantifiers.{all_pairs_push}
use Rattle.ec_count.specs.declared.target.Target.{Target}
use Rattle.ec_count.specs.Laws.{NamesAreFound, IsFirstName}
use Rattle.ec_count.specs.Names.{AreNames, KeepsNames, by_bytes, find_name, name_of, name_index, with_first, same_target, name_fault}
use Rattle.ec_count.specs.Tables.{first_that}
use Rattle.ec_count.specs.declared.names.NameFault.TheVariants.{BadName, NameTaken}
use Rattle.ec_count.specs.Targets.{target_is, targets_decide}
use Rattle.ec_count.specs.Reserved.{is_name, is_name_byte, is_reserved}

pub find_lookup : (name : List ℕ) (es : List (Vec ℕ × Target)) → find_name name (by_bytes es) ≡ lookup (λ k. bytes_eq name k.items) es
find_lookup name [] = refl
find_lookup name (e ∷ es) = ap (λ (r : Option Target). cond (bytes_eq name e.0.items) (Some e.1) r) (find_lookup name es)

pub by_bytes-append : (es : List (Vec ℕ × Target)) (k : Vec ℕ) (t : Target) → by_bytes (es ++ (k, t) ∷ []) ≡ by_bytes es ++ (k.items, t) ∷ []
by_bytes-append [] k t = refl
by_bytes-append (e ∷ es) k t = ap (λ (r : List (List ℕ × Target)). (e.0.items, e.1) ∷ r) (by_bytes-append es k t)

-- each byte of a name is below 128
letter_ascii : (b : ℕ) → is_ascii_alphabetic b ≡ true → b < 128
letter_ascii b h = grind (arith, nat_tests)

byte_ascii : (b : ℕ) → is_name_byte b ≡ true → b < 128
byte_ascii b h = grind (arith, nat_tests)

cons_ascii : (b : ℕ) (bs : List ℕ) → b < 128 → IsAscii bs → IsAscii (b ∷ bs)
cons_ascii b bs h rest zero = h
cons_ascii b bs h rest (suc i) = rest i

rest_ascii : (bs : List ℕ) → list_all is_name_byte bs ≡ true → IsAscii bs
rest_ascii [] h = λ i. omega arith
rest_ascii (b ∷ bs) h = let p = and_parts (is_name_byte b) (list_all is_name_byte bs) h in cons_ascii b bs (byte_ascii b p.0) (rest_ascii bs p.1)

pub name_utf8 : (word : List ℕ) → is_name word ≡ true → IsUtf8 word
unfolding is_name
name_utf8 [] h = absurd (true≢false (sym h))
name_utf8 (b ∷ bs) h =
    let p = and_parts (is_ascii_alphabetic b && nat_le (length bs) 15 && list_all is_name_byte bs) (not (is_reserved (b ∷ bs))) h in
    let q = and_parts (is_ascii_alphabetic b && nat_le (length bs) 15) (list_all is_name_byte bs) p.0 in
    let r = and_parts (is_ascii_alphabetic b) (nat_le (length bs) 15) q.0 in
    IsUtf8-from_ascii (b ∷ bs) (cons_ascii b bs (letter_ascii b r.0) (rest_ascii bs q.1))

pub by_bytes_at : (es : List (Vec ℕ × Target)) (i : ℕ) (e : Vec ℕ × Target) → slice_get es i ≡ Some e → slice_get (by_bytes es) i ≡ Some (e.0.items, e.1)
by_bytes_at [] i e at = cc
by_bytes_at (x ∷ es) zero e at = (let q : x ≡ e = cc in ap (λ (y : Vec ℕ × Target). Some (y.0.items, y.1)) q)
by_bytes_at (x ∷ es) (suc i) e at = by_bytes_at es i e at

-- the entry at a position has a name
pub name_at : (names : List (List ℕ × Target)) (i : ℕ) (e : List ℕ × Target) → AreNames names → slice_get names i ≡ Some e → is_name e.0 ≡ true
name_at names i e h at =
    subst (λ (d : List ℕ × Target). is_name d.0 ≡ true) (get_or_from_slice_get names i e e at) (h.each i e (slice_get_within names i e at))

-- an option that has no value is none
pub none_left : {A : Type 0} (o : Option A) → ((x : A) → o ≡ Some x → ⊥) → o ≡ None
none_left None h = refl
none_left (Some x) h = absurd (h x refl)

-- a word that may be added is a name, and has no target yet
pub no_fault : (name : List ℕ) (names : List (List ℕ × Target)) → name_fault name names ≡ None → (is_name name ≡ true) × (find_name name names ≡ None)
no_fault name names =
    elim (is_name name) as (λ b. b ≡ is_name name → first_that ((not b, BadName) ∷ (is_some (find_name name names), NameTaken) ∷ []) ≡ None → (is_name name ≡ true) × (find_name name names ≡ None)) [
      | true ↦ λ q g. (sym q, free (find_name name names) g)
      | false ↦ λ q g. (cc)
    ] refl
  where
    free : (o : Option Target) → first_that ((false, BadName) ∷ (is_some o, NameTaken) ∷ []) ≡ None → o ≡ None
    free None g = refl
    free (Some t) g = cc

apart : (name : List ℕ) (names : List (List ℕ × Target)) → find_name name names ≡ None → (k : ℕ) (d : List ℕ × Target) → k < length names → (get_or names k d).0 ≢ name
apart name [] h = λ k d lt. absurd (omega arith)
apart name (e ∷ es) h =
    elim (bytes_eq name e.0) as (λ b. bytes_eq name e.0 ≡ b → cond b (Some e.1) (find_name name es) ≡ None → (k : ℕ) (d : List ℕ × Target) → k < length (e ∷ es) → (get_or (e ∷ es) k d).0 ≢ name) [
      | true ↦ λ q g. (cc)
      | false ↦ λ q g. at q (apart name es g)
    ] refl h
  where
    at : bytes_eq name e.0 ≡ false → ((k : ℕ) (d : List ℕ × Target) → k < length es → (get_or es k d).0 ≢ name) → (k : ℕ) (d : List ℕ × Target) → k < length (e ∷ es) → (get_or (e ∷ es) k d).0 ≢ name
    at q rest zero d lt same = true≢false (sym ((bytes_eq-Decides name e.0).1 (sym same)) ∙ q)
    at q rest (suc k) d lt same = rest k d (omega arith) same

-- with a name that may be added, each is still a name, and no two are the same
pub AreNames-push : (names : List (List ℕ × Target)) (name : List ℕ) (target : Target) → AreNames names → name_fault name names ≡ None → AreNames (names ++ (name, target) ∷ [])
AreNames-push names name target h free =
    let tests = no_fault name names free in
    record {
      each = All-push (λ e. IsTrue (is_name e.0)) names (name, target) h.each tests.0;
      differ = all_pairs_push (λ d e. d.0 ≢ e.0) names (name, target) h.differ (apart name names tests.1);
    }

-- positions counted from n + 1 are one more than those counted from n
later : {A : Type 0} (test : A → Bool) (n : ℕ) (xs : List A) → position_from test (n + 1) xs ≡ option_map (λ i. i + 1) (position_from test n xs)
later test n [] = refl
later {A} test n (x ∷ xs) =
    elim (test x) as (λ b. cond b (Some (n + 1)) (position_from test (n + 1 + 1) xs) ≡ option_map (λ i. i + 1) (cond b (Some n) (position_from test (n + 1) xs))) [
      | true ↦ refl
      | false ↦ later test (n + 1) xs
    ]

one_on : (x : List ℕ × Target) (xs : List (List ℕ × Target)) (o : Option ℕ) → option_and_then (λ i. option_map (λ (e : List ℕ × Target). e.0) (slice_get (x ∷ xs) i)) (option_map (λ i. i + 1) o) ≡ option_and_then (λ i. option_map (λ (e : List ℕ × Target). e.0) (slice_get xs i)) o
one_on x xs None = refl
one_on x xs (Some i) = rw add-one refl

pub name_at_place : (target : Target) (names : List (List ℕ × Target)) → name_of target names ≡ option_and_then (λ i. option_map (λ (e : List ℕ × Target). e.0) (slice_get names i)) (name_index target names)
name_at_place target [] = refl
name_at_place target (x ∷ xs) =
    elim (same_target x.1 target) as (λ b. cond b (Some x.0) (name_of target xs) ≡ option_and_then (λ i. option_map (λ (e : List ℕ × Target). e.0) (slice_get (x ∷ xs) i)) (cond b (Some 0) (position_from (λ e. same_target e.1 target) 1 xs))) [
      | true ↦ refl
      | false ↦ name_at_place target xs ∙ sym (one_on x xs (name_index target xs)) ∙ ap (option_and_then (λ i. option_map (λ (e : List ℕ × Target). e.0) (slice_get (x ∷ xs) i))) (sym (later (λ e. same_target e.1 target) 0 xs))
    ]

-- the positions after one more name was added
place_after : (t : Target) (n : ℕ) (names : List (List ℕ × Target)) (name : List ℕ) (u : Target) → position_from (λ e. same_target e.1 t) n (names ++ (name, u) ∷ []) ≡ with_first u (n + length names) t (position_from (λ e. same_target e.1 t) n names)
place_after t n [] name u = rw add-zero refl
place_after t n (x ∷ xs) name u =
    elim (same_target x.1 t) as (λ b. cond b (Some n) (position_from (λ e. same_target e.1 t) (n + 1) (xs ++ (name, u) ∷ [])) ≡ with_first u (n + suc (length xs)) t (cond b (Some n) (position_from (λ e. same_target e.1 t) (n + 1) xs))) [
      | true ↦ refl
      | false ↦ (let e : n + 1 + length xs ≡ n + suc (length xs) = omega arith in place_after t (n + 1) xs name u ∙ ap (λ k. with_first u k t (position_from (λ y. same_target y.1 t) (n + 1) xs)) e)
    ]

-- an entry is found by its name
differ_tail : (x : List ℕ × Target) (xs : List (List ℕ × Target)) → AllPairs (λ d e. d.0 ≢ e.0) (x ∷ xs) → AllPairs (λ d e. d.0 ≢ e.0) xs
differ_tail x xs h i j d lt within = h (suc i) (suc j) d (omega arith) (omega arith)

entry_found : (names : List (List ℕ × Target)) → AllPairs (λ d e. d.0 ≢ e.0) names → (i : ℕ) (e : List ℕ × Target) → slice_get names i ≡ Some e → find_name e.0 names ≡ Some e.1
entry_found [] h i e at = cc
entry_found (x ∷ xs) h zero e at =
    let q : x ≡ e = cc in
    let own : bytes_eq e.0 x.0 ≡ true = (bytes_eq-Decides e.0 x.0).1 (ap (λ (y : List ℕ × Target). y.0) (sym q)) in
    ap (λ b. cond b (Some x.1) (find_name e.0 xs)) own ∙ ap (λ (y : List ℕ × Target). Some y.1) q
entry_found (x ∷ xs) h (suc i) e at =
    let other : x.0 ≡ e.0 → ⊥ = λ same. h zero (suc i) e (omega arith) (let k = slice_get_within xs i e at in omega arith) (same ∙ ap (λ (y : List ℕ × Target). y.0) (sym (get_or_from_slice_get xs i e e at))) in
    let off : bytes_eq e.0 x.0 ≡ false = false_from_ne_true (bytes_eq e.0 x.0) (λ p. other (sym ((bytes_eq-Decides e.0 x.0).0 p))) in
    ap (λ b. cond b (Some x.1) (find_name e.0 xs)) off ∙ entry_found xs (differ_tail x xs h) i e at

-- the name that is returned for a target was added for it, and no earlier name was
other_target : (x : List ℕ × Target) (target : Target) → same_target x.1 target ≡ false → x.1 ≢ target
other_target x target off same = (let own = (targets_decide x.1 target).1 same in cc)

one_later : (target : Target) (x : List ℕ × Target) (xs : List (List ℕ × Target)) (name : List ℕ) → same_target x.1 target ≡ false → IsFirstName target xs name → IsFirstName target (x ∷ xs) name
one_later target x xs name off r = record {
  place = suc r.place;
  at = r.at;
  none_before = before;
}
  where
    before : (k : ℕ) (e : List ℕ × Target) → k < suc r.place → slice_get (x ∷ xs) k ≡ Some e → e.1 ≢ target
    before zero e lt at same = (let is : x ≡ e = cc in other_target x target off (ap (λ (y : List ℕ × Target). y.1) is ∙ same))
    before (suc k) e lt at same = r.none_before k e (omega arith) at same

not_below : (k : ℕ) → k < 0 → ⊥
not_below k lt = omega arith

first_name : (target : Target) (names : List (List ℕ × Target)) (name : List ℕ) → name_of target names ≡ Some name → IsFirstName target names name
first_name target [] name h = cc
first_name target (x ∷ xs) name h =
    elim (same_target x.1 target) as (λ b. same_target x.1 target ≡ b → cond b (Some x.0) (name_of target xs) ≡ Some name → IsFirstName target (x ∷ xs) name) [
      | true ↦ λ e g.
          (let p : x.0 ≡ name = cc in
          let q = target_is x.1 target e in
          let pair : (x.0, x.1) ≡ (name, target) = cc in
          record { place = zero; at = ap Some pair; none_before = λ k d lt at. absurd (not_below k lt) })
      | false ↦ λ e g. one_later target x xs name e (first_name target xs name g)
    ] refl h

pub names_found : NamesAreFound
names_found names h = record {
  entries = entry_found names h.differ;
  targets = λ target name e. (let r = first_name target names name e in entry_found names h.differ r.place (name, target) r.at);
  first = λ target name e. first_name target names name e;
}

-- the invariant of the table of names and that of first positions holds after a name is added
pub KeepsNames-push : (names : List (List ℕ × Target)) (firsts after : List (Target × ℕ)) (name : List ℕ) (u : Target) → KeepsNames names firsts → name_fault name names ≡ None
    → ((t : Target) → lookup (same_target t) after ≡ with_first u (length names) t (lookup (same_target t) firsts))
    → KeepsNames (names ++ (name, u) ∷ []) after
KeepsNames-push names firsts after name u h free noted = record {
  hold = AreNames-push names name u h.hold free;
  places = λ t. (let start : 0 + length names ≡ length names = zero-add (length names) in
      noted t ∙ ap (with_first u (length names) t) (h.places t) ∙ ap (λ k. with_first u k t (name_index t names)) (sym start) ∙ sym (place_after t 0 names name u));
}
