-- The sequencers of the semaphores of an audit, and a table of them.
use Rattle.std.proofs.Common.{◌≡◌, ℕ, zero, suc, ◌<◌, ◌&&◌, ◌||◌, Bool, true, false, not, ◌==◌, List, [], ◌∷◌, ◌++◌, length, Some, slice_get, slice_set, get_or, take, ◌+◌, refl, ap, sym, ◌∙◌, arith, cond}
use Rattle.std.specs.List.{list_any, list_all}
use Rattle.std.proofs.lemmas.Bool.{eqb-true, eq-eqb, and_parts}
use Rattle.std.proofs.lemmas.List.{take_more}
use Rattle.std.proofs.lemmas.List.Folds.{list_any-append}
use Rattle.ec_core.proofs.shared.Places.{get_set}
use Rattle.ec_semaphore.specs.Shapes.{Semaphore}
use Rattle.ec_semaphore.specs.Both.{is_semaphore_sequencer}
use Rattle.ec_core.proofs.shared.Reading.{always as and_true, never as and_false}

-- the sequencer of the common semaphore is never one of the two, whichever semaphores are given
pub not_common : (c : Semaphore) (shapes : List Semaphore)
    → is_semaphore_sequencer c shapes c.line ≡ false
not_common c shapes = ap (λ b. not b && list_any (λ (s : Semaphore). s.line == c.line) shapes) (eq-eqb c.line c.line refl)

or_none : (b : Bool) → (b || (false || false)) ≡ b
or_none true = refl
or_none false = refl

or_one : (b : Bool) → (b || (true || false)) ≡ true
or_one true = refl
or_one false = refl

get_false : (bs : List Bool) → list_all not bs ≡ true → (q : ℕ) → q < length bs → slice_get bs q ≡ Some false
get_false [] h q lt = absurd (omega arith)
get_false (true ∷ bs) h zero lt = cc
get_false (false ∷ bs) h zero lt = refl
get_false (b ∷ bs) h (suc q) lt = get_false bs (and_parts (not b) (list_all not bs) h).1 q (omega arith)

-- a table that is false throughout is that of no semaphores
pub tabled_none : (bs : List Bool) (c : Semaphore) → list_all not bs ≡ true → (q : ℕ) → q < length bs → slice_get bs q ≡ Some (is_semaphore_sequencer c [] q)
tabled_none bs c none q lt = get_false bs none q lt ∙ ap Some (sym (and_false (not (q == c.line))))

-- with one more sequencer marked, unless it is the common one, a table is that of one more semaphore
pub tabled_more : (bs : List Bool) (c s : Semaphore) (shapes : List Semaphore) → s.line < length bs → ((q : ℕ) → q < 32 → slice_get bs q ≡ Some (is_semaphore_sequencer c shapes q))
    → (q : ℕ) → q < 32 → slice_get (slice_set bs s.line (not (s.line == c.line))) q ≡ Some (is_semaphore_sequencer c (shapes ++ s ∷ []) q)
tabled_more bs c s shapes room before q lt =
    get_set bs s.line q (not (s.line == c.line)) room
    ∙ elim (s.line == q) as (λ b. (s.line == q) ≡ b → cond b (Some (not (s.line == c.line))) (slice_get bs q) ≡ Some (is_semaphore_sequencer c (shapes ++ s ∷ []) q)) [
      | true ↦ λ e.
          (let any : list_any (λ (z : Semaphore). z.line == q) (shapes ++ s ∷ []) ≡ true =
          list_any-append (λ (z : Semaphore). z.line == q) shapes (s ∷ []) ∙ ap (λ b. list_any (λ (z : Semaphore). z.line == q) shapes || (b || false)) e ∙ or_one (list_any (λ (z : Semaphore). z.line == q) shapes) in
          ap (λ n. Some (not (n == c.line))) (eqb-true s.line q e) ∙ ap Some (sym (ap (λ b. not (q == c.line) && b) any ∙ and_true (not (q == c.line)))))
      | false ↦ λ e.
          (let any : list_any (λ (z : Semaphore). z.line == q) (shapes ++ s ∷ []) ≡ list_any (λ (z : Semaphore). z.line == q) shapes =
          list_any-append (λ (z : Semaphore). z.line == q) shapes (s ∷ []) ∙ ap (λ b. list_any (λ (z : Semaphore). z.line == q) shapes || (b || false)) e ∙ or_none (list_any (λ (z : Semaphore). z.line == q) shapes) in
          before q lt ∙ ap Some (ap (λ b. not (q == c.line) && b) (sym any)))
    ] refl

-- the same in the words of a loop
pub tabled_next : (bs : List Bool) (c s : Semaphore) (shapes : List Semaphore) (i p q : ℕ) → length bs ≡ 32 → i < length shapes → s ≡ get_or shapes i s → p ≡ s.line → p < 32 → q ≡ c.line
    → ((z : ℕ) → z < 32 → slice_get bs z ≡ Some (is_semaphore_sequencer c (take i shapes) z))
    → (z : ℕ) → z < 32 → slice_get (slice_set bs p (not (p == q))) z ≡ Some (is_semaphore_sequencer c (take (i + 1) shapes) z)
tabled_next bs c s shapes i p q room inside at place low common before z lt =
    let more : take (i + 1) shapes ≡ take i shapes ++ s ∷ [] = take_more shapes i s inside ∙ ap (λ x. take i shapes ++ x ∷ []) (sym at) in
    ap (λ n. slice_get (slice_set bs n (not (n == q))) z) place
    ∙ ap (λ n. slice_get (slice_set bs s.line (not (s.line == n))) z) common
    ∙ tabled_more bs c s (take i shapes) (omega arith) before z lt
    ∙ ap (λ ss. Some (is_semaphore_sequencer c ss z)) (sym more)
