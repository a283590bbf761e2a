-- Schedules that continue another one.
use Rattle.std.proofs.Common.{◌≡◌, ◌∙◌, ℕ, ◌≤◌, ◌<◌, ◌+◌, ◌-◌, List, [], ◌∷◌, ◌++◌, length, take}
use Rattle.std.proofs.Common.{zero, suc, ap, sym, arith, append_assoc, append-nil}
use Rattle.std.specs.List.{All}
use Rattle.std.proofs.Math.Seq.{take-append-add}
use Rattle.std.proofs.lemmas.List.Elements.{All-append, All-take}
use Rattle.evc_explain_engine.specs.Continuation.{Continues}

none : (n : ℕ) → All (λ w. w < n) []
none n k d within = absurd (omega (arith, within))

one : (n w : ℕ) → w < n → All (λ v. v < n) (w ∷ [])
one n w small zero d within = small
one n w small (suc k) d within = absurd (omega (arith, within))

-- each continues itself
pub continues_same : (n : ℕ) (s : List ℕ) → Continues n s s
continues_same n s = ([], sym (append-nil s), none n)

pub continues_more : (n : ℕ) (a b c : List ℕ) → Continues n a b → Continues n b c → Continues n a c
continues_more n a b c p q = (
  p.0 ++ q.0,
  q.1 ∙ ap (λ (r : List ℕ). r ++ q.0) p.1 ∙ append_assoc a p.0 q.0,
  All-append (λ w. w < n) p.0 q.0 p.2 q.2,
)

-- cut behind its first turns
pub continues_cut : (n m : ℕ) (own old : List ℕ) → length own ≤ m → Continues n own old
    → Continues n own (take m old)
continues_cut n m own old far c =
    let behind : m ≡ length own + (m - length own) = omega (arith, far) in (
      take (m - length own) c.0,
      ap (take m) c.1 ∙ ap (λ (i : ℕ). take i (own ++ c.0)) behind
          ∙ take-append-add own c.0 (m - length own),
      All-take (λ w. w < n) (m - length own) c.0 c.2,
    )
