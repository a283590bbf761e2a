-- Searches among pending tickets and missing numbers.
use Rattle.std.proofs.Common.{◌≡◌, ℕ, zero, suc, ◌<◌, ◌≤◌, inl, inr, true, false, ◌==◌, List, []}
use Rattle.std.proofs.Common.{◌∷◌, length, Some, None, refl, ap, ◌∙◌, arith, cond, slice_get}
use Rattle.std.proofs.Common.{get_or}
use Rattle.std.proofs.lemmas.Bool.{eq-eqb, ne_eqb}
use Rattle.std.proofs.lemmas.Option.{slice_get-get_or, get_or_from_slice_get}
use Rattle.calls_core.specs.Histories.{pending_of, without}
use Rattle.calls_core.specs.declared.pending.NotedCall.{NotedCall}
use Rattle.calls_core.specs.Pending.{noted_calls, IsNotedOf}
use Rattle.calls_tickets.specs.kept.Watching.{IsHoleAt, NoHole, Paired}
use Rattle.calls_tickets.specs.kept.Watching.{Unpaired}

-- A MISSING NUMBER

abbrev pub NotThere : List ℕ → ℕ → ℕ → Type 0
NotThere holes n k = (h : ℕ) → slice_get holes k ≡ Some h → h ≡ n → ⊥

pub not_there : (holes : List ℕ) (n k d : ℕ) → (get_or holes k d ≡ n → ⊥) → NotThere holes n k
not_there holes n k d f = λ h at e. f (get_or_from_slice_get holes k h d at ∙ e)

pub nowhere : (holes : List ℕ) (n : ℕ) → ((k : ℕ) → k < length holes → NotThere holes n k)
    → NoHole holes n
nowhere [] n h = tt
nowhere (x ∷ holes) n h = (
  h zero (omega arith) x refl,
  nowhere holes n (λ k lt y at.
      h (suc k) (omega arith) y at),
)

pub there : (holes : List ℕ) (n k d : ℕ) → k < length holes → get_or holes k d ≡ n
    → IsHoleAt holes n k
there holes n k d lt e = slice_get-get_or holes k d lt ∙ ap (λ x. Some x) e

-- PAIRS

abbrev pub PairAt : List ℕ → List NotedCall → ℕ → Type 0
PairAt holes us k = (h : ℕ) (u : NotedCall) → slice_get holes k ≡ Some h
    → slice_get us k ≡ Some u → u.noted ≤ h

pub pair_at : (holes : List ℕ) (us : List NotedCall) (k d : ℕ) (e : NotedCall)
    → (get_or us k e).noted ≤ get_or holes k d → PairAt holes us k
pair_at holes us k d e le = λ h u at there. (let one : get_or holes k d ≡ h =
    get_or_from_slice_get holes k h d at in
    let other : (get_or us k e).noted ≡ u.noted = ap (λ (z : NotedCall). z.noted)
    (get_or_from_slice_get us k u e there) in
    omega arith)

pub all_paired : (holes : List ℕ) (us : List NotedCall) → length holes ≤ length us
    → ((k : ℕ) → k < length holes → PairAt holes us k) → Paired holes us
all_paired [] us le h = tt
all_paired (x ∷ holes) [] le h = absurd (omega arith)
all_paired (x ∷ holes) (u ∷ us) le h = (
  h zero (omega arith) x u refl refl,
  all_paired holes us
      (omega arith) (λ k lt y v at there. h (suc k) (omega arith) y v at there),
)

pub too_few : (holes : List ℕ) (us : List NotedCall) → length us < length holes
    → Unpaired holes us
too_few [] us lt = absurd (omega arith)
too_few (x ∷ holes) [] lt = tt
too_few (x ∷ holes) (u ∷ us) lt = inr (too_few holes us (omega arith))

pub no_pair : (holes : List ℕ) (us : List NotedCall) (k d : ℕ) (e : NotedCall)
    → k < length holes → k < length us → get_or holes k d < (get_or us k e).noted
    → Unpaired holes us
no_pair [] us k d e lt less more = absurd (omega arith)
no_pair (x ∷ holes) [] k d e lt less more = absurd (omega arith)
no_pair (x ∷ holes) (u ∷ us) zero d e lt less more = inl more
no_pair (x ∷ holes) (u ∷ us) (suc k) d e lt less more =
    inr (no_pair holes us k d e (omega arith) (omega arith) more)
