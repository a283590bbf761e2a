-- The calls of a history as the code lists them.
use Rattle.std.proofs.Common.{◌≡◌, ℕ, zero, suc, ◌+◌, ◌<◌, inl, inr, Bool, true}
use Rattle.std.proofs.Common.{false, cond, not, ◌&&◌, ◌||◌, ◌==◌, nat_lt, nat_le, Some}
use Rattle.std.proofs.Common.{None, List, [], ◌∷◌, ◌++◌, length, map, reverse, refl, ap, sym, ◌∙◌}
use Rattle.std.proofs.Common.{arith, subst, count_by}
use Rattle.std.specs.List.{Contains, filter}
use Rattle.std.specs.List.Sorted.{IsPermutation}
use Rattle.std.proofs.lemmas.Bool.{lt-ltb, le-ltb, false≢true}
use Rattle.std.proofs.lemmas.List.Elements.{filter-append, Contains-append_left}
use Rattle.std.proofs.lemmas.List.Elements.{Contains-append_cases}
use Rattle.std.proofs.lemmas.List.Sorted.{IsPermutation-reverse, IsPermutation-append_comm}
use Rattle.std.proofs.lemmas.List.Sorted.{IsPermutation-append_left, IsPermutation-trans}
use Rattle.std.proofs.lemmas.List.Sorted.{IsPermutation-sym, Contains-permutation}
use Rattle.calls_core.specs.declared.history.Reply.TheVariants.{Done}
use Rattle.calls_core.specs.declared.history.PendingCall.{PendingCall}
use Rattle.calls_core.specs.declared.history.Call.{Call}
use Rattle.calls_core.specs.Lists.{Each}
use Rattle.calls_core.specs.Histories.{completion}
use Rattle.calls_core.specs.Linearizations.{answered_one, answered_calls}
use Rattle.calls_core.proofs.Filters.{filter_yes, filter_no, permutation_filter}
use Rattle.calls_core.proofs.Counting.{one, one_no, count_cons, count_append, count_moved}
use Rattle.calls_distinct.specs.Cells.{is_put, value_put_or_returned, value, put_call, put_pending, times, gets}
use Rattle.calls_distinct.specs.Cells.{is_got}
use Rattle.calls_distinct.specs.Outcomes.{is_put_at, put_pending_at}
use Rattle.calls_distinct.specs.kept.Zones.{put_answer, begun_calls, store_answer, all_of}
use Rattle.calls_distinct.proofs.Accesses.{IsCompletedAccess}

-- LISTS

pub map_in : {X Y : Type 0} (f : X → Y) (xs : List X) (x : X) → Contains xs x
    → Contains (map f xs) (f x)
map_in f [] x (k, lt, e) = absurd (omega arith)
map_in f (y ∷ xs) x (zero, lt, e) = (zero, omega arith, ap f e)
map_in f (y ∷ xs) x (suc k, lt, e) = (let r = map_in f xs x (
  k,
  (let l : k < length xs =
      omega arith in l),
  e,
) in (suc r.0, (let l : r.0 < length (map f xs) = r.1 in omega arith), r.2))

pub in_map : {X Y : Type 0} (f : X → Y) (xs : List X) (y : Y) → Contains (map f xs) y → (x : X)
    × Contains xs x × (f x ≡ y)
in_map f [] y (k, lt, e) = absurd (omega arith)
in_map f (x ∷ xs) y (zero, lt, e) = (x, (zero, omega arith, refl), e)
in_map f (x ∷ xs) y (suc k, lt, e) =
    let r = in_map f xs y (k, (let l : k < length (map f xs) = omega arith in l), e) in
    (r.0, (suc r.1.0, (let l : r.1.0 < length xs = r.1.1 in omega arith), r.1.2), r.2)

pub cons_in : {X : Type 0} (y x : X) (xs : List X) → Contains xs x → Contains (y ∷ xs) x
cons_in y x xs (k, lt, e) = (suc k, omega arith, e)

pub filter_in : {X : Type 0} (p : X → Bool) (xs : List X) (x : X) → Contains xs x → p x ≡ true
    → Contains (filter p xs) x
filter_in p [] x (k, lt, e) q = absurd (omega arith)
filter_in {X} p (y ∷ xs) x (zero, lt, e) q = subst (λ zs. Contains zs x)
    (sym (filter_yes p y xs (ap p e ∙ q))) (zero, omega arith, e)
filter_in {X} p (y ∷ xs) x (suc k, lt, e) q =
    let r = filter_in p xs x (k, (let l : k < length xs = omega arith in l), e) q in
    elim (p y) as (λ b. Contains (cond b (y ∷ filter p xs) (filter p xs)) x) [
      | true ↦
          cons_in y x (filter p xs) r
      | false ↦ r
    ]

pub in_filter : {X : Type 0} (p : X → Bool) (xs : List X) (x : X) → Contains (filter p xs) x
    → Contains xs x
in_filter p [] x (k, lt, e) = absurd (omega arith)
in_filter {X} p (y ∷ xs) x h =
    elim (p y) as (λ b. Contains (cond b (y ∷ filter p xs) (filter p xs)) x → Contains (y ∷ xs) x) [
      | true ↦ λ k. kept (in_filter p xs x) k
      | false ↦ λ k. cons_in y x xs (in_filter p xs x k)
    ] h
  where
    kept : (Contains (filter p xs) x → Contains xs x) → Contains (y ∷ filter p xs) x
        → Contains (y ∷ xs) x
    kept f (zero, lt, e) = (zero, omega arith, e)
    kept f (suc k, lt, e) = cons_in y x xs (f (
      k,
      (let l : k < length (filter p xs) = omega arith in
          l),
      e,
    ))

pub each_from_contains : {X : Type 0} (P : X → Type 0) (xs : List X)
    → ((x : X) → Contains xs x → P x) → Each P xs
each_from_contains P [] f = tt
each_from_contains P (x ∷ xs) f = (
  f x (zero, omega arith, refl),
  each_from_contains P xs (λ y k.
      f y (cons_in x y xs k)),
)

-- COUNTS

answered_exact : (p : Call → Bool) (q : PendingCall → Bool) (t : ℕ)
    → ((o : PendingCall) → is_put o.op ≡ true → p (completion t Done o) ≡ q o)
    → ((o : PendingCall) → is_put o.op ≡ false → q o ≡ false) → (os : List PendingCall)
    → count_by p (answered_calls t put_answer os) ≡ count_by q os
answered_exact p q t same none [] = refl
answered_exact p q t same none (o ∷ os) =
    elim (is_put o.op) as (λ b. is_put o.op ≡ b → count_by p
    (answered_one t o (cond b (Some Done) None) ++ answered_calls t put_answer os) ≡ count_by q
    (o ∷ os)) [
      | true ↦ λ e. omega (
        arith,
        count_cons p (completion t Done o)
            (answered_calls t put_answer os),
        count_cons q o os,
        ap one (same o e),
        answered_exact p q
            t same none os,
      )
      | false ↦ λ e. omega (
        arith,
        count_cons q o os,
        one_no (q o) (none o e),
        answered_exact p q t
            same none os,
      )
    ] refl

count_false : {X : Type 0} (xs : List X) → count_by (λ (x : X). false) xs ≡ 0
count_false [] = refl
count_false (x ∷ xs) = omega (arith, count_cons (λ y. false) x xs, count_false xs)

module _ (done : List Call) (pending : List PendingCall) (t : ℕ) where
  pub begun_count : (p : Call → Bool) (q : PendingCall → Bool)
      → ((o : PendingCall) → is_put o.op ≡ true → p (completion t Done o) ≡ q o)
      → ((o : PendingCall) → is_put o.op ≡ false → q o ≡ false)
      → count_by p (begun_calls done pending t) ≡ count_by p done + count_by q pending
  begun_count p q same none = omega (
    arith,
    count_append p (reverse done)
        (answered_calls t put_answer pending),
    count_moved p done (reverse done)
        (IsPermutation-reverse done),
    answered_exact p q t same none pending,
  )

  pub begun_times : (v : ℕ) → count_by (put_call v) (begun_calls done pending t)
      ≡ times done pending v
  begun_times v = begun_count (put_call v) (put_pending v) (λ o e. refl) (λ o e.
      ap (λ b. b && (value_put_or_returned o.op Done == v)) e)

  pub begun_at : (v n : ℕ) → count_by (is_put_at v n) (begun_calls done pending t) ≡ count_by
      (is_put_at v n) done + count_by (put_pending_at v n) pending
  begun_at v n = begun_count (is_put_at v n) (put_pending_at v n) (λ o e. refl) (λ o e.
      ap (λ b. (b && (value_put_or_returned o.op Done == v)) && (o.first == n)) e)

  pub begun_got : (v : ℕ) → is_got (begun_calls done pending t) v ≡ is_got done v
  begun_got v = ap (nat_le 1) (omega (
    arith,
    begun_count (gets v) (λ (o : PendingCall). false)
        (λ o e. ap (λ b. not b && (value (completion t Done o) == v)) e) (λ o e.
        refl),
    count_false pending,
  ))

  pub done_begun : (c : Call) → Contains done c → Contains (begun_calls done pending t) c
  done_begun c k = Contains-append_left (reverse done) (answered_calls t put_answer pending) c
      (Contains-permutation done (reverse done) c (IsPermutation-reverse done) k)

  answered_puts : (os : List PendingCall) (c : Call) → Contains (answered_calls t put_answer os) c
      → is_put c.op ≡ true
  answered_puts [] c (k, lt, e) = absurd (omega arith)
  answered_puts (o ∷ os) c h =
      elim (is_put o.op) as (λ b. is_put o.op ≡ b → Contains
      (answered_one t o (cond b (Some Done) None) ++ answered_calls t put_answer os) c
      → is_put c.op ≡ true) [
        | true ↦ λ e k. first (answered_puts os c) e k
        | false ↦ λ e k. answered_puts os c k
      ] refl h
    where
      first : (Contains (answered_calls t put_answer os) c → is_put c.op ≡ true)
          → is_put o.op ≡ true → Contains (completion t Done o ∷ answered_calls t put_answer os) c
          → is_put c.op ≡ true
      first f e (zero, lt, is) = ap (λ (z : Call). is_put z.op) (sym is) ∙ e
      first f e (suc k, lt, is) = f (
        k,
        (let l : k < length (answered_calls t put_answer os) =
            omega arith in l),
        is,
      )

  pub get_done : (c : Call) → Contains (begun_calls done pending t) c → is_put c.op ≡ false
      → Contains done c
  get_done c k get = elim (Contains-append_cases (reverse done)
      (answered_calls t put_answer pending) c k) [
        | inl h ↦ Contains-permutation (reverse done) done c (IsPermutation-sym done (reverse done)
            (IsPermutation-reverse done)) h
        | inr h ↦ absurd (false≢true (sym get ∙ answered_puts pending c h))
      ]

  -- THE CALLS THAT TAKE EFFECT

  abbrev pub keeps : Call → Bool
  keeps c = nat_lt c.last t || is_got done (value c)

  kept_answered : (os : List PendingCall) → filter keeps (answered_calls t put_answer os)
      ≡ answered_calls t (store_answer done) os
  kept_answered [] = refl
  kept_answered (o ∷ os) =
      elim (is_put o.op) as (λ b. filter keeps (answered_one t o (cond b (Some Done) None)
      ++ answered_calls t put_answer os) ≡ answered_one t o
      (cond (b && is_got done (value_put_or_returned o.op Done)) (Some Done) None)
      ++ answered_calls t
      (store_answer done) os) [
        | false ↦ kept_answered os
        | true ↦ elim (is_got done (value_put_or_returned o.op Done)) as (λ b.
            is_got done (value_put_or_returned o.op Done) ≡ b → filter keeps
            (completion t Done o ∷ answered_calls t put_answer os) ≡ answered_one t o
            (cond b (Some Done) None) ++ answered_calls t (store_answer done) os) [
              | true ↦ λ g. filter_yes keeps (completion t Done o) (answered_calls t put_answer os)
                  (late true g) ∙ ap (λ zs. completion t Done o ∷ zs) (kept_answered os)
              | false ↦ λ g. filter_no keeps (completion t Done o) (answered_calls t put_answer os)
                  (late false g) ∙ kept_answered os
            ] refl
      ]
    where
      late : (b : Bool) → is_got done (value_put_or_returned o.op Done) ≡ b
          → (nat_lt t t || is_got done (value_put_or_returned o.op Done)) ≡ b
      late b g = ap (λ y. y || is_got done (value_put_or_returned o.op Done)) (le-ltb t t (omega arith)) ∙ g

  kept_done : (cs : List Call) → Each (IsCompletedAccess t) cs → filter keeps cs ≡ cs
  kept_done [] h = refl
  kept_done (c ∷ cs) h = filter_yes keeps c cs (ap (λ b. b || is_got done (value c))
      (lt-ltb c.last t h.0.early)) ∙ ap (λ zs. c ∷ zs) (kept_done cs h.1)

  pub kept_moved : Each (IsCompletedAccess t) done → IsPermutation (all_of done pending t)
      (filter keeps (begun_calls done pending t))
  kept_moved h =
      let answered = answered_calls t (store_answer done) pending in
      let same : filter keeps (begun_calls done pending t) ≡ filter keeps (reverse done)
      ++ answered = filter-append keeps (reverse done) (answered_calls t put_answer pending)
      ∙ ap (λ zs. filter keeps (reverse done) ++ zs) (kept_answered pending) in
      let moved : IsPermutation done (filter keeps (reverse done)) =
      subst (λ zs. IsPermutation zs (filter keeps (reverse done))) (kept_done done h)
      (permutation_filter keeps done (reverse done) (IsPermutation-reverse done)) in
      subst (IsPermutation (all_of done pending t)) (sym same)
      (IsPermutation-trans _ _ _ (IsPermutation-append_comm answered done)
      (IsPermutation-append_left answered done (filter keeps (reverse done)) moved))
