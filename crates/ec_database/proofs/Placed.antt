-- The call lists by index are the call lists.
use Rattle.std.proofs.Common.{◌≡◌, ◌≢◌, ℕ, zero, suc, ◌+◌, ◌-◌, ◌<◌, ◌≤◌, true, false, List, [], ◌∷◌, length, Some, None, nat_lt, get_or, refl, ap, sym, ◌∙◌, arith, cond, ◌==◌}
use Rattle.std.proofs.lemmas.Bool.{eqb-true, eqb-false, eq-eqb, ne_eqb, ltb-true, ltb-false, lt-ltb, le-ltb}
use Rattle.ec_core.specs.declared.act.Act.TheVariants.{Advance, Put}
use Rattle.ec_core.specs.Following.{CompletedCall}
use Rattle.ec_core.specs.CallLists.{reply_number}
use Rattle.ec_database.specs.Shapes.{Database}
use Rattle.ec_database.specs.Calls.{drawn_turn, write_call}
use Rattle.ec_database.specs.SnapshotPhases.{write_at, turn_after, write_rest}

-- WRITES

-- the turn after one more call
turn_next : (at turn : ℕ) (c : CompletedCall) (calls : List CompletedCall) → turn_after at turn (c ∷ calls) ≡ turn_after (at + 1) (cond (at == 1) (reply_number c.reply) turn) calls
turn_next zero turn c [] = refl
turn_next zero turn c (t ∷ calls) = refl
turn_next (suc zero) turn c calls = refl
turn_next (suc (suc k)) turn c calls =
    let zeroth : (suc (suc k) + 1 == 0) ≡ false = ne_eqb (suc (suc k) + 1) 0 (λ e. omega arith) in
    let first : (suc (suc k) + 1 == 1) ≡ false = ne_eqb (suc (suc k) + 1) 1 (λ e. omega arith) in
    let now : (suc (suc k) == 1) ≡ false = ne_eqb (suc (suc k)) 1 (λ e. omega arith) in
    let none : (suc (suc k) == 0) ≡ false = ne_eqb (suc (suc k)) 0 (λ e. omega arith) in
    rw (zeroth, first, now, none) refl

-- what is left of a write once a call has returned
pub write_next : (d : Database) (values : List ℕ) (at turn : ℕ) (c : CompletedCall) (calls : List CompletedCall)
    → write_rest d values (at + 1) (cond (at == 1) (reply_number c.reply) turn) calls ≡ write_rest d values at turn (c ∷ calls)
write_next d values at turn c calls =
    let place : at + 1 + length calls ≡ at + suc (length calls) = omega arith in
    ap (λ n. write_at d values n (turn_after (at + 1) (cond (at == 1) (reply_number c.reply) turn) calls)) place
    ∙ ap (write_at d values (at + suc (length calls))) (sym (turn_next at turn c calls))

-- the same of the fields before and after the call
pub write_took : (d d' : Database) (values values' : List ℕ) (at at' turn turn' n : ℕ) (c : CompletedCall) (calls : List CompletedCall)
    → d' ≡ d → values' ≡ values → at' ≡ at + 1 → turn' ≡ cond (at == 1) n turn → n ≡ reply_number c.reply
    → write_rest d' values' at' turn' calls ≡ write_rest d values at turn (c ∷ calls)
write_took d d' values values' at at' turn turn' n c calls ed ev ea et en =
    ap (λ s. write_rest s values' at' turn' calls) ed
    ∙ ap (λ vs. write_rest d vs at' turn' calls) ev
    ∙ ap (λ k. write_rest d values k turn' calls) ea
    ∙ ap (λ k. write_rest d values (at + 1) k calls) (et ∙ ap (λ k. cond (at == 1) k turn) en)
    ∙ write_next d values at turn c calls

lt_three : (n c : ℕ) → nat_lt (suc (suc (suc n))) (c + 3) ≡ nat_lt n c
lt_three n c =
    elim (nat_lt n c) as (λ b. nat_lt n c ≡ b → nat_lt (suc (suc (suc n))) (c + 3) ≡ b) [
      | true ↦ λ h. (let lt : n < c = ltb-true n c h in lt-ltb (suc (suc (suc n))) (c + 3) (omega arith))
      | false ↦ λ h. (let ge : c ≤ n = ltb-false n c h in le-ltb (suc (suc (suc n))) (c + 3) (omega arith))
    ] refl

eq_three : (n c : ℕ) → (suc (suc (suc n)) == c + 3) ≡ (n == c)
eq_three n c =
    elim (n == c) as (λ b. (n == c) ≡ b → (suc (suc (suc n)) == c + 3) ≡ b) [
      | true ↦ λ h. (let same : n ≡ c = eqb-true n c h in eq-eqb (suc (suc (suc n))) (c + 3) (omega arith))
      | false ↦ λ h. (let other : n ≢ c = eqb-false n c h in ne_eqb (suc (suc (suc n))) (c + 3) (λ e. other (omega arith)))
    ] refl

write_at_put : (d : Database) (n turn : ℕ)
    → write_at d [] (suc (suc (suc n))) turn ≡ cond (nat_lt n d.cells) (Some (Put (d.first_cell + n) (get_or [] n 0))) (cond (n == d.cells) (Some (Advance d.done)) None)
write_at_put d n turn =
    let zeroth : (suc (suc (suc n)) == 0) ≡ false = ne_eqb (suc (suc (suc n))) 0 (λ e. omega arith) in
    let first : (suc (suc (suc n)) == 1) ≡ false = ne_eqb (suc (suc (suc n))) 1 (λ e. omega arith) in
    let second : (suc (suc (suc n)) == 2) ≡ false = ne_eqb (suc (suc (suc n))) 2 (λ e. omega arith) in
    let back : suc (suc (suc n)) - 3 ≡ n = omega arith in
    rw (zeroth, first, second, lt_three n d.cells, eq_three n d.cells, back) refl

-- a write's call of no values is the one by index
pub write_call_at : (d : Database) (calls : List CompletedCall) → write_call d [] calls ≡ write_at d [] (length calls) (drawn_turn calls)
write_call_at d [] = refl
write_call_at d (a ∷ []) = refl
write_call_at d (a ∷ t ∷ []) = refl
write_call_at d (a ∷ t ∷ i ∷ puts) = sym (write_at_put d (length puts) (reply_number t.reply))
