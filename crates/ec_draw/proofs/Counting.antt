-- Counts, one entry after another.
use Rattle.std.proofs.Common.{◌≡◌, ℕ, zero, suc, ◌+◌, ◌≤◌, Bool, true, false, List, []}
use Rattle.std.proofs.Common.{◌∷◌, ◌++◌, length, take, Some, None, refl, ap, sym, ◌∙◌, arith, cond}
use Rattle.std.proofs.Common.{slice_get}
use Rattle.std.proofs.lemmas.List.{length-reverse}
use mir.Val.{bool_byte}
use Rattle.ec_core.specs.declared.act.Entry.{Entry}
use Rattle.ec_core.specs.Counts.{past_at, total, issued}
use Rattle.ec_core.proofs.shared.Moments.{past_end}
use Rattle.ec_draw.specs.declared.curve.Counter.{Counter}
use Rattle.ec_draw.specs.declared.curve.Counter.TheVariants.{Event, Sequencer}
use Rattle.ec_draw.specs.Curves.{count_of, count_at, raises, counts_from}
use Rattle.ec_draw.proofs.Stepping.{next_past}

count_more : (object : Counter) (x : Entry) (past : List Entry)
    → count_of object (x ∷ past) ≡ cond (raises object x.act) 1 0 + count_of object past
unfolding total issued
count_more (Event e) x past = refl
count_more (Sequencer q) x past = refl

pub count_next : (object : Counter) (h : List Entry) (k : ℕ) (x : Entry) (n : ℕ)
    → slice_get h k ≡ Some x → n ≡ cond (raises object x.act) 1 0
    → count_at object h (k + 1) ≡ count_at object h k + n
count_next object h k x n at is =
    let step : count_at object h (k + 1) ≡ cond (raises object x.act) 1 0 + count_at object h k =
    ap (count_of object) (next_past h k x at) ∙ count_more object x (past_at k h) in
    omega arith

pub count_end : (object : Counter) (h : List Entry) (k : ℕ) → slice_get h k ≡ None
    → count_at object h (k + 1) ≡ count_at object h k + 0
count_end object h k at =
    let one : k + 1 ≡ suc k = omega arith in
    let step : count_at object h (k + 1) ≡ count_at object h k = ap (λ j. count_at object h j) one
    ∙ ap (count_of object) (past_end h k at) in
    omega arith

pub count_none : (object : Counter) (h : List Entry) → count_at object h 0 ≡ 0
unfolding total issued
count_none (Event e) h = refl
count_none (Sequencer q) h = refl

pub counts_one : (object : Counter) (h : List Entry) (k n : ℕ) → n ≡ count_at object h k
    → n ∷ [] ≡ counts_from object h k 1
unfolding counts_from
counts_one object h k n is =
    (let same : k + 0 ≡ k = omega arith in
    ap (λ v. v ∷ []) (is ∙ ap (count_at object h) (sym same)))

pub counts_more : (object : Counter) (h : List Entry) (k j n : ℕ) (hs : List ℕ)
    → hs ≡ counts_from object h k (j + 1) → n ≡ count_at object h (k + (j + 1))
    → hs ++ n ∷ [] ≡ counts_from object h k (j + 1 + 1)
unfolding counts_from
counts_more object h k j n hs was is =
    let one : j + 1 + 1 ≡ suc (j + 1) = omega arith in
    ap (λ z. z ++ n ∷ []) was ∙ ap (λ v. counts_from object h k (j + 1) ++ v ∷ []) is
    ∙ sym (ap (counts_from object h k) one)

pub count_here : (object : Counter) (h : List Entry) (k n : ℕ) → n ≡ count_at object h k
    → n ≡ count_at object h (k + 0)
count_here object h k n is =
    (let same : k ≡ k + 0 = omega arith in is ∙ ap (count_at object h) same)

pub count_step : (object : Counter) (h : List Entry) (k j n m : ℕ) → n ≡ count_at object h (k + j)
    → count_at object h (k + j + 1) ≡ count_at object h (k + j) + m
    → n + m ≡ count_at object h (k + (j + 1))
count_step object h k j n m was more =
    (let same : k + j + 1 ≡ k + (j + 1) = omega arith in ap (λ v. v + m) was ∙ sym more
    ∙ ap (count_at object h) same)

pub byte_is : (b d : Bool) → b ≡ d → bool_byte b ≡ cond d 1 0
byte_is true d e = ap (λ x. cond x 1 0) e
byte_is false d e = ap (λ x. cond x 1 0) e

-- COUNTS SIDE BY SIDE

-- a count is at most the number of entries
count_few : (object : Counter) (past : List Entry) → count_of object past ≤ length past
count_few object [] = none object
  where
    none : (o : Counter) → count_of o [] ≤ 0
    none o = (let zero_here : count_of o [] ≡ 0 = count_none o [] in omega arith)
count_few object (x ∷ past) =
    let step = count_more object x past in
    let was = count_few object past in
    let one : cond (raises object x.act) 1 0 ≤ 1 = small (raises object x.act) in
    omega arith
  where
    small : (b : Bool) → cond b 1 0 ≤ 1
    small true = omega arith
    small false = omega arith

pub take-few : (k : ℕ) (h : List Entry) → length (take k h) ≤ k
take-few zero h = omega arith
take-few (suc k) [] = omega arith
take-few (suc k) (x ∷ h) = (let rest = take-few k h in omega arith)

pub count_small : (object : Counter) (h : List Entry) (k : ℕ) → count_at object h k ≤ k
count_small object h k =
    let few = count_few object (past_at k h) in
    let long = length-reverse (take k h) in
    let taken = take-few k h in
    omega arith
