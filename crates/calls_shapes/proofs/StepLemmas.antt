-- How the steps grow.
use Rattle.std.proofs.Common.{◌≡◌, ℕ, suc, ◌+◌, ◌<◌, ◌==◌, true, false, cond}
use Rattle.std.proofs.Common.{List, [], ◌∷◌, ◌++◌, length, drop, get_or, arith, ap, sym, ◌∙◌}
use Rattle.std.proofs.Common.{drop-cons, append_assoc}
use Rattle.std.proofs.lemmas.Bool.{eq-eqb, ne_eqb}
use Rattle.calls_core.specs.declared.history.Placed.{Placed}
use Rattle.calls_core.specs.declared.history.Op.TheVariants.{Produce}
use Rattle.calls_core.specs.declared.history.Reply.TheVariants.{Done}
use Rattle.calls_core.specs.Linearizations.{after}
use Rattle.calls_shapes.specs.declared.steps.Step.{Step}
use Rattle.calls_shapes.specs.Steps.{steps_of}

-- what comes from an index on begins with the call there
from_here : (order : List Placed) (n : ℕ) (p : Placed) → n < length order
    → p ≡ get_or order n p → drop n order ≡ p ∷ drop (n + 1) order
from_here order n p lt read =
    let next : suc n ≡ n + 1 = omega arith in
    drop-cons order n p lt ∙ ap (λ q. q ∷ drop (suc n) order) (sym read)
    ∙ ap (λ j. p ∷ drop j order) next

abbrev step : (ℕ → ℕ) → ℕ → Placed → Step
step m i p = record { point = p.point; value = after m p.call.op p.call.reply i }

here_is : (k i : ℕ) (m : ℕ → ℕ) (p : Placed) (ps : List Placed) → (p.call.object == k) ≡ true
    → steps_of k i m (p ∷ ps) ≡ step m i p ∷ steps_of k i (after m p.call.op p.call.reply) ps
here_is k i m p ps is =
    ap (λ b. cond b (step m i p ∷ steps_of k i (after m p.call.op p.call.reply) ps)
    (steps_of k i m ps)) is

here_not : (k i : ℕ) (m : ℕ → ℕ) (p : Placed) (ps : List Placed) → (p.call.object == k) ≡ false
    → steps_of k i m (p ∷ ps) ≡ steps_of k i m ps
here_not k i m p ps is =
    ap (λ b. cond b (step m i p ∷ steps_of k i (after m p.call.op p.call.reply) ps)
    (steps_of k i m ps)) is

-- a call of the object adds a step
step_more : (k i : ℕ) (m : ℕ → ℕ) (order : List Placed) (n : ℕ) (p : Placed)
    (done all : List Step) → n < length order → p ≡ get_or order n p
    → (p.call.object == k) ≡ true → done ++ steps_of k i m (drop n order) ≡ all
    → (done ++ step m i p ∷ [])
    ++ steps_of k i (after m p.call.op p.call.reply) (drop (n + 1) order) ≡ all
step_more k i m order n p done all lt read is so_far =
    append_assoc done (step m i p ∷ []) _
    ∙ ap (λ zs. done ++ zs) (sym (here_is k i m p (drop (n + 1) order) is))
    ∙ ap (λ zs. done ++ steps_of k i m zs) (sym (from_here order n p lt read))
    ∙ so_far

-- a call of another object adds none
step_same : (k i : ℕ) (m : ℕ → ℕ) (order : List Placed) (n : ℕ) (p : Placed)
    (done all : List Step) → n < length order → p ≡ get_or order n p
    → (p.call.object == k) ≡ false → done ++ steps_of k i m (drop n order) ≡ all
    → done ++ steps_of k i m (drop (n + 1) order) ≡ all
step_same k i m order n p done all lt read is so_far =
    ap (λ zs. done ++ zs) (sym (here_not k i m p (drop (n + 1) order) is))
    ∙ ap (λ zs. done ++ steps_of k i m zs) (sym (from_here order n p lt read))
    ∙ so_far

-- the numbers of the object have this value at the index, and this one at index 2, and the steps so
-- far and those that come are all
abbrev pub SoFar : ℕ → ℕ → List Placed → ℕ → List Step → ℕ → ℕ → List Step → Type 0
SoFar k i order n steps value produced all =
    (m : ℕ → ℕ) × (m i ≡ value) × (m 2 ≡ produced)
    × (steps ++ steps_of k i m (drop n order) ≡ all)

-- what a call makes of the number at index j
abbrev Makes : ℕ → ℕ → ℕ → ℕ → Placed → Type 0
Makes j value produced made p = (m : ℕ → ℕ) → m j ≡ value → m 2 ≡ produced
    → made ≡ after m p.call.op p.call.reply j

pub so_far_more : (k i : ℕ) (order : List Placed) (n : ℕ) (p : Placed) (old new : List Step)
    (value made next produced more further : ℕ) (all : List Step) → n < length order
    → p ≡ get_or order n p → p.call.object ≡ k
    → new ≡ old ++ (let s : Step = record { point = p.point; value = made } in s) ∷ []
    → Makes i value produced made p → next ≡ made → Makes 2 produced produced more p
    → further ≡ more
    → SoFar k i order n old value produced all → SoFar k i order (n + 1) new next further all
so_far_more k i order n p old new value made next produced more further all lt read is grown by same
    two last (m, here, there, so_far) =
    let made_is = by m here there in
    let put : new ≡ old ++ step m i p ∷ [] =
    grown ∙ ap (λ v. old ++ (let s : Step = record { point = p.point; value = v } in s) ∷ [])
    made_is in (
      after m p.call.op p.call.reply,
      sym made_is ∙ sym same,
      sym (two m there there) ∙ sym last,
      ap (λ zs. zs ++ steps_of k i (after m p.call.op p.call.reply) (drop (n + 1) order)) put
          ∙ step_more k i m order n p old all lt read (eq-eqb p.call.object k is) so_far,
    )

pub so_far_same : (k i : ℕ) (order : List Placed) (n : ℕ) (p : Placed) (old new : List Step)
    (value next produced further : ℕ) (all : List Step) → n < length order
    → p ≡ get_or order n p → (p.call.object ≡ k → ⊥) → new ≡ old → next ≡ value
    → further ≡ produced
    → SoFar k i order n old value produced all → SoFar k i order (n + 1) new next further all
so_far_same k i order n p old new value next produced further all lt read is kept same last
    (m, here, there, so_far) = (
      m,
      here ∙ sym same,
      there ∙ sym last,
      ap (λ zs. zs ++ steps_of k i m (drop (n + 1) order)) kept
          ∙ step_same k i m order n p old all lt read (ne_eqb p.call.object k is) so_far,
    )

-- AFTER AN ITEM WAS PRODUCED

elsewhere : (m : ℕ → ℕ) (item index : ℕ) → (index ≡ 2 → ⊥)
    → after m (Produce item) Done index ≡ cond (3 + m 2 == index) item (m index)
elsewhere m item index apart =
    ap (λ b. cond b (m 2 + 1) (cond (3 + m 2 == index) item (m index)))
    (ne_eqb 2 index (λ e. apart (sym e)))

pub item_here : (m : ℕ → ℕ) (item index : ℕ) → index ≡ 3 + m 2
    → item ≡ after m (Produce item) Done index
item_here m item index is =
    sym (elsewhere m item index (λ two. omega (arith, two))
    ∙ ap (λ b. cond b item (m index)) (eq-eqb (3 + m 2) index (sym is)))

pub item_not : (m : ℕ → ℕ) (item index : ℕ) → (index ≡ 2 → ⊥) → (index ≡ 3 + m 2 → ⊥)
    → m index ≡ after m (Produce item) Done index
item_not m item index apart other =
    sym (elsewhere m item index apart
    ∙ ap (λ b. cond b item (m index)) (ne_eqb (3 + m 2) index (λ e. other (sym e))))
