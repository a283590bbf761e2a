-- Each completed read and await has a point.
use Rattle.std.proofs.Common.{◌≡◌, ℕ, zero, suc, ◌+◌, ◌<◌, ◌≤◌, Bool, true, false, List, [], ◌∷◌, ◌++◌, length, refl, ap, sym, ◌∙◌, arith, cond, ◌==◌, nat_le, length-append}
use Rattle.std.proofs.lemmas.Bool.{eqb-true, eqb-false, leb-true, leb-false, le-leb, lt-leb}
use Rattle.ec_core.specs.declared.act.Entry.{Entry}
use Rattle.ec_core.specs.Counts.{total, is_advance}
use Rattle.ec_core.specs.Rounds.{IsPastOf}
use Rattle.ec_order.specs.Points.{first_entries, first_moment}

-- THE FIRST ENTRIES

pub first_at : (past : List Entry) → first_entries (length past) past ≡ past
unfolding first_entries
first_at [] = refl
first_at (x ∷ past) = ap (λ b. cond b (first_entries (suc (length past)) past) (x ∷ past)) (lt-leb (suc (length past)) (length past) (omega arith))

pub first_next : (k : ℕ) (x : Entry) (past : List Entry) → k ≤ length past → first_entries k (x ∷ past) ≡ first_entries k past
unfolding first_entries
first_next k x past h = ap (λ b. cond b (first_entries k past) (x ∷ past)) (le-leb k (length past) h)

pub first_since : (k : ℕ) (since past : List Entry) → k ≤ length past → first_entries k (since ++ past) ≡ first_entries k past
first_since k [] past h = refl
first_since k (x ∷ since) past h = first_next k x (since ++ past) (omega (arith, length-append since past)) ∙ first_since k since past h

-- a past is the first entries of any later one
pub first_of_past : (p late : List Entry) → IsPastOf p late → first_entries (length p) late ≡ p
first_of_past p late h = ap (first_entries (length p)) h.is ∙ first_since (length p) h.since p (omega arith) ∙ first_at p

-- one entry more
pub first_more : (k : ℕ) (past : List Entry) → k < length past → (x : Entry) × (first_entries (k + 1) past ≡ x ∷ first_entries k past)
first_more k [] h = absurd (omega arith)
first_more k (x ∷ past) h =
    elim (nat_le (k + 1) (length past)) as (λ b. nat_le (k + 1) (length past) ≡ b → (y : Entry) × (first_entries (k + 1) (x ∷ past) ≡ y ∷ first_entries k (x ∷ past))) [
      | true ↦ λ e.
          (let le : k + 1 ≤ length past = leb-true (k + 1) (length past) e in
          let r = first_more k past (omega arith) in
          (r.0, first_next (k + 1) x past le ∙ r.1 ∙ ap (λ z. r.0 ∷ z) (sym (first_next k x past (omega arith)))))
      | false ↦ λ e.
          (let gt : length past < k + 1 = leb-false (k + 1) (length past) e in
          let here : k ≡ length past = omega arith in
          let next : k + 1 ≡ suc (length past) = omega arith in (
            x,
            ap (λ n. first_entries n (x ∷ past)) next ∙ first_at (x ∷ past)
                ∙ ap (λ z. x ∷ z) (sym (ap (λ n. first_entries n (x ∷ past)) here ∙ first_next (length past) x past (omega arith) ∙ first_at past)),
          ))
    ] refl

one_of : (b : Bool) (n : ℕ) → cond b 1 0 + n ≤ n + 1
one_of true n = omega arith
one_of false n = omega arith

-- the total rises by at most one at each moment
pub total_step : (e k : ℕ) (past : List Entry) → k < length past → total e (first_entries (k + 1) past) ≤ total e (first_entries k past) + 1
unfolding total
total_step e k past h =
    let r = first_more k past h in
    rw r.1 (one_of (is_advance e r.0.act) (total e (first_entries k past)))

-- THE FIRST MOMENT THAT PASSES

-- a number that rises by at most one at a time, from at most r to at least r, is r at some moment
pub first_is : (f : ℕ → ℕ) (r k n : ℕ) → f k ≤ r → r ≤ f (k + n) → ((j : ℕ) → k ≤ j → j < k + n → f (j + 1) ≤ f j + 1)
    → (f (first_moment (λ j. f j == r) k n) ≡ r) × (k ≤ first_moment (λ j. f j == r) k n) × (first_moment (λ j. f j == r) k n ≤ k + n)
unfolding first_moment
first_is f r k zero low high step =
    let e : k + 0 ≡ k = omega arith in
    let h : r ≤ f k = rw e at high in
    (omega arith, omega arith, omega arith)
first_is f r k (suc n) low high step =
    elim (f k == r) as (λ b. (f k == r) ≡ b → (f (cond b k (first_moment (λ j. f j == r) (k + 1) n)) ≡ r) × (k ≤ cond b k (first_moment (λ j. f j == r) (k + 1) n)) × (cond b k (first_moment (λ j. f j == r) (k + 1) n) ≤ k + suc n)) [
      | true ↦ λ e. (eqb-true (f k) r e, omega arith, omega arith)
      | false ↦ λ e.
          (let other : f k ≡ r → ⊥ = eqb-false (f k) r e in
          let up : f (k + 1) ≤ f k + 1 = step k (omega arith) (omega arith) in
          let same : k + suc n ≡ k + 1 + n = omega arith in
          let top : r ≤ f (k + 1 + n) = rw same at high in
          let rest = first_is f r (k + 1) n (omega arith) top (λ j a b. step j (omega arith) (omega arith)) in
          (rest.0, (let a : k + 1 ≤ first_moment (λ j. f j == r) (k + 1) n = rest.1 in omega arith), (let b : first_moment (λ j. f j == r) (k + 1) n ≤ k + 1 + n = rest.2 in omega arith)))
    ] refl
