-- What stands in a list of items before an item, and how many jobs have their item in a list.
use Rattle.std.proofs.Common.{◌≡◌, ℕ, ◌+◌, ◌<◌, ◌≤◌, ◌⊎◌, inl, inr, Bool, true, false}
use Rattle.std.proofs.Common.{nat_lt, ◌==◌, List, [], ◌∷◌, ◌++◌, length, if◌then◌else◌}
use Rattle.std.proofs.Common.{refl, ap, sym, ◌∙◌, arith, count_by, append_assoc, append-nil}
use Rattle.std.specs.List.{Contains}
use Rattle.std.proofs.lemmas.Bool.{cases_lt, eq-eqb, eqb-true, lt-ltb, ltb-true, le-ltb}
use Rattle.calls_core.specs.Lists.{Each, EachPair}
use Rattle.calls_core.proofs.Counting.{one, one_yes, one_no, one_less, count_cons, count_append}
use Rattle.calls_core.proofs.Counting.{split_at}
use Rattle.calls_schedule.specs.declared.job.Job.{Job}
use Rattle.calls_buffers.specs.Counts.{item}

-- how often an item stands in a list
abbrev pub times : ℕ → List ℕ → ℕ
times v xs = count_by (item v) xs

pub times_append : (v : ℕ) (xs ys : List ℕ) → times v (xs ++ ys) ≡ times v xs + times v ys
times_append v xs ys = count_append (item v) xs ys

-- the items before the first v
abbrev pub before : ℕ → List ℕ → List ℕ
before v [] = []
before v (x ∷ xs) = if x == v then [] else x ∷ before v xs

-- an item is v or not
pub record Differs (v x : ℕ) : Type 0 where
  pub not : (x == v) ≡ false

pub same_or : (v x : ℕ) → (x ≡ v) ⊎ ((x == v) ≡ false)
same_or v x = own (x == v) refl
  where
    own : (b : Bool) → (x == v) ≡ b → (x ≡ v) ⊎ ((x == v) ≡ false)
    own true e = inl (eqb-true x v e)
    own false e = inr e

one_same : (v x : ℕ) → x ≡ v → one (item v x) ≡ 1
one_same v x e = one_yes (item v x) (eq-eqb x v e)

before_here : (v x : ℕ) (xs : List ℕ) → x ≡ v → before v (x ∷ xs) ≡ []
before_here v x xs e = ap (λ b. if b then [] else x ∷ before v xs) (eq-eqb x v e)

before_later : (v x : ℕ) (xs : List ℕ) → (x == v) ≡ false → before v (x ∷ xs) ≡ x ∷ before v xs
before_later v x xs e = ap (λ b. if b then [] else x ∷ before v xs) e

-- v does not stand before itself
pub not_before_itself : (v : ℕ) (xs : List ℕ) → times v (before v xs) ≡ 0
not_before_itself v [] = refl
not_before_itself v (x ∷ xs) = elim (same_or v x) [
  | inl e ↦ ap (times v) (before_here v x xs e)
  | inr e ↦ omega (
    arith,
    ap (times v) (before_later v x xs e),
    count_cons (item v) x (before v xs),
    one_no (item v x) e,
    not_before_itself v xs,
  )
]

-- a list without v stands before it
pub all_before : (v : ℕ) (xs ys : List ℕ) → times v xs ≡ 0
    → before v (xs ++ ys) ≡ xs ++ before v ys
all_before v [] ys none = refl
all_before v (x ∷ xs) ys none = elim (same_or v x) [
  | inl e ↦ absurd (omega (arith, none, count_cons (item v) x xs, one_same v x e))
  | inr e ↦ before_later v x (xs ++ ys) e ∙ ap (λ zs. x ∷ zs) (all_before v xs ys
      (omega (arith, none, count_cons (item v) x xs)))
]

-- what stands before v in a list that has v
pub before_in : (v : ℕ) (xs ys : List ℕ) → 0 < times v xs → before v (xs ++ ys) ≡ before v xs
before_in v [] ys some = absurd (omega (arith, some))
before_in v (x ∷ xs) ys some = elim (same_or v x) [
  | inl e ↦ before_here v x (xs ++ ys) e ∙ sym (before_here v x xs e)
  | inr e ↦ before_later v x (xs ++ ys) e ∙ ap (λ zs. x ∷ zs) (before_in v xs ys
      (omega (arith, some, count_cons (item v) x xs, one_no (item v x) e)))
      ∙ sym (before_later v x xs e)
]

-- is in the list
pub no_more_before : (v w : ℕ) (xs : List ℕ) → times w (before v xs) ≤ times w xs
no_more_before v w [] = omega arith
no_more_before v w (x ∷ xs) = elim (same_or v x) [
  | inl e ↦ omega (arith, ap (times w) (before_here v x xs e))
  | inr e ↦ omega (
    arith,
    ap (times w) (before_later v x xs e),
    count_cons (item w) x (before v xs),
    count_cons (item w) x xs,
    no_more_before v w xs,
  )
]

-- of two items one stands before the other
pub one_is_before : (v w : ℕ) → (v ≡ w → ⊥) → (xs : List ℕ) → 0 < times v xs → 0 < times w xs
    → (0 < times v (before w xs)) ⊎ (0 < times w (before v xs))
one_is_before v w differ [] some other = absurd (omega (arith, some))
one_is_before v w differ (x ∷ xs) some other =
    elim (same_or v x) [
      | inl e ↦ elim (same_or w x) [
        | inl k ↦ absurd (differ (sym e ∙ k))
        | inr k ↦ inl (omega (
          arith,
          ap (times v) (before_later w x xs k),
          count_cons (item v) x (before w xs),
          one_same v x e,
        ))
      ]
      | inr e ↦ elim (same_or w x) [
        | inl k ↦ inr (omega (
          arith,
          ap (times w) (before_later v x xs e),
          count_cons (item w) x (before v xs),
          one_same w x k,
        ))
        | inr k ↦ elim (one_is_before v w differ xs
            (omega (arith, some, count_cons (item v) x xs, one_no (item v x) e))
            (omega (arith, other, count_cons (item w) x xs, one_no (item w x) k))) [
              | inl r ↦ inl (omega (
                arith,
                r,
                ap (times v) (before_later w x xs k),
                count_cons (item v) x (before w xs),
              ))
              | inr r ↦ inr (omega (
                arith,
                r,
                ap (times w) (before_later v x xs e),
                count_cons (item w) x (before v xs),
              ))
            ]
      ]
    ]

-- the items from the first v on
after : (v : ℕ) (xs : List ℕ) → (ys : List ℕ) × (xs ≡ before v xs ++ ys)
after v [] = ([], refl)
after v (x ∷ xs) = elim (same_or v x) [
  | inl e ↦ (x ∷ xs, ap (λ zs. zs ++ x ∷ xs) (sym (before_here v x xs e)))
  | inr e ↦ (let r = after v xs in (
    r.0,
    ap (λ zs. x ∷ zs) r.1 ∙ ap (λ zs. zs ++ r.0) (sym (before_later v x xs e)),
  ))
]

-- what stands before an item that stands before w stands before w
pub before_before : (v w u : ℕ) (xs : List ℕ) → 0 < times v (before w xs)
    → times u (before v xs) ≤ times u (before w xs)
before_before v w u xs some =
    let r = after w xs in omega (
      arith,
      ap (λ zs. times u (before v zs)) r.1,
      ap (times u) (before_in v (before w xs) r.0 some),
      no_more_before v u (before w xs),
    )

-- JOBS

-- whether an item stands in a list
abbrev pub holds : List ℕ → ℕ → Bool
holds xs v = nat_lt 0 (times v xs)

-- how many jobs have their item in a list
abbrev pub held : List Job → List ℕ → ℕ
held jobs xs = count_by (λ (j : Job). holds xs j.item) jobs

pub holds_some : (xs : List ℕ) (v : ℕ) → 0 < times v xs → holds xs v ≡ true
holds_some xs v some = lt-ltb 0 (times v xs) some

pub some_held : (xs : List ℕ) (v : ℕ) → holds xs v ≡ true → 0 < times v xs
some_held xs v e = ltb-true 0 (times v xs) e

pub holds_none : (xs : List ℕ) (v : ℕ) → times v xs ≡ 0 → holds xs v ≡ false
holds_none xs v none = le-ltb 0 (times v xs) (omega arith)

pub count_implied : {X : Type 0} (p q : X → Bool) → ((x : X) → p x ≡ true → q x ≡ true)
    → (xs : List X) → count_by p xs ≤ count_by q xs
count_implied p q f [] = omega arith
count_implied p q f (x ∷ xs) = omega (
  arith,
  count_cons p x xs,
  count_cons q x xs,
  one_less (p x) (q x) (f x),
  count_implied p q f xs,
)

-- one element passes the second test only
pub count_strictly : {X : Type 0} (p q : X → Bool) → ((x : X) → p x ≡ true → q x ≡ true)
    → (xs : List X) (x : X) → Contains xs x → p x ≡ false → q x ≡ true
    → count_by p xs < count_by q xs
count_strictly p q f xs x here fails passes =
    let s = split_at xs x here in
    omega (
      arith,
      ap (count_by p) s.is,
      ap (count_by q) s.is,
      count_append p s.prefix (x ∷ s.back),
      count_append q s.prefix (x ∷ s.back),
      count_cons p x s.back,
      count_cons q x s.back,
      one_no (p x) fails,
      one_yes (q x) passes,
      count_implied p q f s.prefix,
      count_implied p q f s.back,
    )

-- all of a list are in the other
abbrev pub IsWithin : List ℕ → List ℕ → Type 0
IsWithin xs ys = (v : ℕ) → 0 < times v xs → 0 < times v ys

pub held_within : (jobs : List Job) (xs ys : List ℕ) → IsWithin xs ys → held jobs xs ≤ held jobs ys
held_within jobs xs ys f = count_implied (λ (j : Job). holds xs j.item)
    (λ (j : Job). holds ys j.item)
    (λ j e. holds_some ys j.item (f j.item (some_held xs j.item e))) jobs

pub held_fewer : (jobs : List Job) (xs ys : List ℕ) → IsWithin xs ys → (j : Job) → Contains jobs j
    → times j.item xs ≡ 0 → 0 < times j.item ys → held jobs xs < held jobs ys
held_fewer jobs xs ys f j here none some = count_strictly (λ (i : Job). holds xs i.item)
    (λ (i : Job). holds ys i.item)
    (λ i e. holds_some ys i.item (f i.item (some_held xs i.item e))) jobs j here
    (holds_none xs j.item none) (holds_some ys j.item some)

-- at most one job is of an item
abbrev pub AreApart : List Job → Type 0
AreApart jobs = EachPair (λ (i j : Job). i.item ≡ j.item → ⊥) jobs

none_other : (x : ℕ) (i : Job) (js : List Job) → i.item ≡ x
    → Each (λ (j : Job). i.item ≡ j.item → ⊥) js → count_by (λ (j : Job). x == j.item) js ≡ 0
none_other x i [] e h = refl
none_other x i (j ∷ js) e h =
    omega (
      arith,
      count_cons (λ (k : Job). x == k.item) j js,
      one_no (x == j.item) (own (x == j.item) refl),
      none_other x i js e h.1,
    )
  where
    own : (b : Bool) → (x == j.item) ≡ b → b ≡ false
    own true k = absurd (h.0 (e ∙ eqb-true x j.item k))
    own false k = refl

pub at_most_one : (x : ℕ) (jobs : List Job) → AreApart jobs
    → count_by (λ (j : Job). x == j.item) jobs ≤ 1
at_most_one x [] h = omega arith
at_most_one x (i ∷ js) h =
    own (at_most_one x js h.1) (x == i.item) refl
  where
    own : count_by (λ (j : Job). x == j.item) js ≤ 1 → (b : Bool) → (x == i.item) ≡ b
        → count_by (λ (j : Job). x == j.item) (i ∷ js) ≤ 1
    own rest true e = omega (
      arith,
      count_cons (λ (j : Job). x == j.item) i js,
      one_yes (x == i.item) e,
      none_other x i js (sym (eqb-true x i.item e)) h.0,
    )
    own rest false e = omega (
      arith,
      count_cons (λ (j : Job). x == j.item) i js,
      one_no (x == i.item) e,
      rest,
    )

count_of_two : {X : Type 0} (a b c : X → Bool) → ((x : X) → one (c x) ≤ one (a x) + one (b x))
    → (xs : List X) → count_by c xs ≤ count_by a xs + count_by b xs
count_of_two a b c f [] = omega arith
count_of_two a b c f (x ∷ xs) = omega (
  arith,
  count_of_two a b c f xs,
  f x,
  count_cons a x xs,
  count_cons b x xs,
  count_cons c x xs,
)

one_more : (xs : List ℕ) (y v : ℕ) → one (holds (xs ++ y ∷ []) v) ≤ one (holds xs v) + one (y == v)
one_more xs y v = own (holds xs v) refl (y == v) refl
  where
    own : (a : Bool) → holds xs v ≡ a → (b : Bool) → (y == v) ≡ b
        → one (holds (xs ++ y ∷ []) v) ≤ one a + one b
    own true e b k = omega (arith, small (holds (xs ++ y ∷ []) v))
      where
        small : (c : Bool) → one c ≤ 1
        small true = omega arith
        small false = omega arith
    own false e true k = omega (arith, small (holds (xs ++ y ∷ []) v))
      where
        small : (c : Bool) → one c ≤ 1
        small true = omega arith
        small false = omega arith
    own false e false k = omega (
      arith,
      one_no (holds (xs ++ y ∷ []) v)
          (holds_none (xs ++ y ∷ []) v (omega (
            arith,
            times_append v xs (y ∷ []),
            count_cons (item v) y [],
            one_no (item v y) k,
            none_held e,
          ))),
    )
      where
        none_held : holds xs v ≡ false → times v xs ≤ 0
        none_held q = elim (cases_lt 0 (times v xs)) [
          | inl lt ↦ absurd (let yes = holds_some xs v lt in cc)
          | inr le ↦ le
        ]

-- each further item is that of one job at most
pub held_append : (jobs : List Job) → AreApart jobs → (xs ys : List ℕ)
    → held jobs (xs ++ ys) ≤ held jobs xs + length ys
held_append jobs h xs [] = omega (arith, ap (held jobs) (append-nil xs))
held_append jobs h xs (y ∷ ys) = omega (
  arith,
  ap (held jobs) (append_assoc xs (y ∷ []) ys),
  held_append jobs h (xs ++ y ∷ []) ys,
  count_of_two (λ (j : Job). holds xs j.item) (λ (j : Job). y == j.item)
      (λ (j : Job). holds (xs ++ y ∷ []) j.item) (λ j. one_more xs y j.item) jobs,
  at_most_one y jobs h,
)
