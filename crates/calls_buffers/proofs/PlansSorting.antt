-- Calls that are sorted by their places.
use Rattle.std.proofs.Common.{◌≡◌, ℕ, suc, ◌+◌, ◌<◌, ◌≤◌, ◌==◌, inl, inr, Bool, true, false, cond}
use Rattle.std.proofs.Common.{List, [], ◌∷◌, ◌++◌, map, get_or, drop, length, refl, ap, sym, ◌∙◌}
use Rattle.std.proofs.Common.{subst, arith}
use Rattle.std.proofs.Common.{Ordering, Less, Equal, Greater}
use Rattle.std.specs.Ordering.{is_lt, ordering_then, nat_cmp, bool_cmp}
use Rattle.std.specs.List.Sorted.{IsSortedBy, IsPermutation}
use Rattle.std.proofs.lemmas.Bool.{cases_lt, lt-ltb, le-ltb, eq-eqb}
use Rattle.std.proofs.lemmas.List.{map-append}
use Rattle.std.proofs.lemmas.List.Sorted.{All-permutation, IsPermutation-map}
use Rattle.calls_core.specs.declared.history.Call.{Call}
use Rattle.calls_core.specs.Lists.{Each, EachPair}
use Rattle.calls_core.proofs.Lists.{each_weaker, all_from_each}
use Rattle.calls_core.proofs.Filters.{each_from_all}
use Rattle.calls_buffers.specs.declared.ordering.Key.{Key}
use Rattle.calls_buffers.specs.declared.ordering.Keyed.{Keyed}
use Rattle.calls_buffers.specs.kept.Orders.{Places, key_of, keyed_call, with_key, calls_in}
use Rattle.calls_buffers.specs.kept.Orders.{NoLater, Before}

-- KEYS

abbrev pub key : Keyed → ℕ × ℕ × Bool
key k = (k.key.point, k.key.rank, k.key.takes)

abbrev pub comes_before : Keyed → Keyed → Bool
comes_before k l = is_lt (ordering_then (ordering_then (nat_cmp (key k).0 (key l).0)
    (nat_cmp (key k).1 (key l).1)) (bool_cmp (key k).2 (key l).2))

then_assoc : (a b c : Ordering)
    → ordering_then (ordering_then a b) c ≡ ordering_then a (ordering_then b c)
then_assoc Less b c = refl
then_assoc Equal b c = refl
then_assoc Greater b c = refl

less_first : (m n : ℕ) (o : Ordering) → m < n → is_lt (ordering_then (nat_cmp m n) o) ≡ true
less_first m n o lt =
    ap (λ b. is_lt (ordering_then (cond b Less (cond (m == n) Equal Greater)) o)) (lt-ltb m n lt)

same_first : (m n : ℕ) (o : Ordering) → m ≡ n → is_lt (ordering_then (nat_cmp m n) o) ≡ is_lt o
same_first m n o e =
    ap (λ b. is_lt (ordering_then (cond b Less (cond (m == n) Equal Greater)) o))
    (le-ltb m n (omega arith))
    ∙ ap (λ b. is_lt (ordering_then (cond b Equal Greater) o)) (eq-eqb m n e)

bits_rise : (a b : Bool) → is_lt (bool_cmp b a) ≡ false → cond a 1 0 ≤ cond b 1 0
bits_rise true true e = omega arith
bits_rise true false e = absurd (cc)
bits_rise false true e = omega arith
bits_rise false false e = omega arith

slots_rise : (m n : ℕ) (a b : Bool)
    → is_lt (ordering_then (nat_cmp n m) (bool_cmp b a)) ≡ false
    → m + m + cond a 1 0 ≤ n + n + cond b 1 0
slots_rise m n a b e = elim (cases_lt n m) [
  | inl lt ↦ absurd (let yes = less_first n m (bool_cmp b a) lt in cc)
  | inr ge ↦ elim (cases_lt m n) [
    | inl lt ↦ bits m n a b lt
    | inr le ↦ (let same : n ≡ m = omega arith in
        let low = bits_rise a b (sym (same_first n m (bool_cmp b a) same) ∙ e) in omega arith)
  ]
]
  where
    bits : (m n : ℕ) (a b : Bool) → m < n → m + m + cond a 1 0 ≤ n + n + cond b 1 0
    bits m n true true lt = omega arith
    bits m n true false lt = omega arith
    bits m n false true lt = omega arith
    bits m n false false lt = omega arith

no_later : (k l : Keyed) → comes_before l k ≡ false → NoLater k.key l.key
no_later k l e =
    let ties : Ordering = ordering_then (nat_cmp l.key.rank k.key.rank)
    (bool_cmp l.key.takes k.key.takes) in
    let no : is_lt (ordering_then (nat_cmp l.key.point k.key.point) ties) ≡ false =
    sym (ap is_lt (then_assoc (nat_cmp l.key.point k.key.point) (nat_cmp l.key.rank k.key.rank)
    (bool_cmp l.key.takes k.key.takes))) ∙ e in
    record {
      point = elim (cases_lt l.key.point k.key.point) [
        | inl lt ↦ absurd (let yes = less_first l.key.point k.key.point ties lt in cc)
        | inr le ↦ le
      ];
      tie = λ same. slots_rise k.key.rank l.key.rank k.key.takes l.key.takes
          (sym (same_first l.key.point k.key.point ties (sym same)) ∙ no);
    }

no_later_trans : (k l m : Key) → NoLater k l → NoLater l m → NoLater k m
no_later_trans k l m f g =
    let p = f.point in
    let q = g.point in
    record {
      point = omega arith;
      tie = λ same. (let first : k.point ≡ l.point = omega arith in
          let second : l.point ≡ m.point = omega arith in
          let a = f.tie first in
          let b = g.tie second in omega arith);
    }

-- LISTS

abbrev InOrder : Keyed → Keyed → Type 0
InOrder k l = NoLater k.key l.key

chain : (ks : List Keyed)
    → ((i : ℕ) (d : Keyed) → i + 1 < length ks → InOrder (get_or ks i d) (get_or ks (i + 1) d))
    → EachPair InOrder ks
chain [] h = tt
chain (k ∷ []) h = (tt, tt)
chain (k ∷ l ∷ ks) h =
    let rest : EachPair InOrder (l ∷ ks) = chain (l ∷ ks) (λ i d lt.
    (let same : suc i + 1 ≡ suc (i + 1) = omega arith in
    subst (λ j. InOrder (get_or (l ∷ ks) i d) (get_or (k ∷ l ∷ ks) j d)) same
    (h (suc i) d (omega arith)))) in
    let first : InOrder k l = h 0 k (omega arith) in (
      (
        first,
        each_weaker (InOrder l) (InOrder k) (λ m g. no_later_trans k.key l.key m.key first g) ks
            rest.0,
      ),
      rest,
    )

module _ (f : Call → Key) where
  abbrev pub HasKey : Keyed → Type 0
  HasKey k = k.key ≡ f k.call.now

  own_keys : (k : Keyed) (ks : List Keyed) → HasKey k → Each HasKey ks → Each (InOrder k) ks
      → Each (Before f k.call.now) (calls_in ks)
  own_keys k [] h hs g = tt
  own_keys k (l ∷ ks) h hs g = (
    subst (λ (x : Key). NoLater x (f l.call.now)) h (subst (λ (x : Key). NoLater k.key x) hs.0 g.0),
    own_keys k ks h hs.1 g.1,
  )

  all_keys : (ks : List Keyed) → Each HasKey ks → EachPair InOrder ks
      → EachPair (Before f) (calls_in ks)
  all_keys [] h g = tt
  all_keys (k ∷ ks) h g = (own_keys k ks h.0 h.1 g.0, all_keys ks h.1 g.1)

module _ (puts takes : Places) where
  -- calls with their places
  keyed : (ks : List Keyed) (cs : List Call) → map keyed_call ks ≡ map (with_key puts takes) cs
      → (calls_in ks ≡ cs) × Each (HasKey (key_of puts takes)) ks
  keyed [] [] e = (refl, tt)
  keyed [] (c ∷ cs) e = absurd (cc)
  keyed (k ∷ ks) [] e = absurd (cc)
  keyed (k ∷ ks) (c ∷ cs) e =
      let d : Key × Call = keyed_call k in
      let first : keyed_call k ≡ with_key puts takes c = ap (λ zs. get_or zs 0 d) e in
      let call : k.call.now ≡ c = ap (λ (p : Key × Call). p.1) first in
      let rest = keyed ks cs (ap (drop 1) e) in (
        ap (λ x. x ∷ calls_in ks) call ∙ ap (λ zs. c ∷ zs) rest.0,
        (ap (λ (p : Key × Call). p.0) first ∙ sym (ap (key_of puts takes) call), rest.1),
      )

  pub moved_calls : (cs : List Call) (ks ls : List Keyed)
      → map keyed_call ks ≡ map (with_key puts takes) cs
      → IsPermutation ks ls → IsPermutation cs (calls_in ls)
  moved_calls cs ks ls e h = subst (λ zs. IsPermutation zs (calls_in ls)) (keyed ks cs e).0
      (IsPermutation-map (λ (k : Keyed). k.call.now) ks ls h)

  pub sorted_calls : (cs : List Call) (ks ls : List Keyed)
      → map keyed_call ks ≡ map (with_key puts takes) cs
      → IsPermutation ks ls → IsSortedBy comes_before ls
      → EachPair (Before (key_of puts takes)) (calls_in ls)
  sorted_calls cs ks ls e h s =
      all_keys (key_of puts takes) ls (each_from_all (HasKey (key_of puts takes)) ls
      (All-permutation (HasKey (key_of puts takes)) ks ls h
      (all_from_each (HasKey (key_of puts takes)) ks (keyed ks cs e).1)))
      (chain ls (λ i d lt. no_later (get_or ls i d) (get_or ls (i + 1) d)
      (s i d (omega arith) lt)))

  -- two lists of calls
  pub all_keyed : (cs ds : List Call) (first second third : List Keyed) → first ≡ []
      → map keyed_call second ≡ map keyed_call first ++ map (with_key puts takes) cs
      → map keyed_call third ≡ map keyed_call second ++ map (with_key puts takes) ds
      → map keyed_call third ≡ map (with_key puts takes) (cs ++ ds)
  all_keyed cs ds first second third none one two =
      two ∙ ap (λ zs. zs ++ map (with_key puts takes) ds)
      (one ∙ ap (λ (ks : List Keyed). map keyed_call ks ++ map (with_key puts takes) cs) none)
      ∙ sym (map-append (with_key puts takes) cs ds)
