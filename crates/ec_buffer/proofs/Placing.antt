-- What is left of a list of calls, after a reply and at the next call.
use Rattle.std.proofs.Common.{◌≡◌, ℕ, suc, ◌+◌, Bool, true, false, List, [], ◌∷◌, length, slice_get, refl, ap, sym, ◌∙◌, arith, cond, ◌==◌}
use Rattle.std.proofs.Math.Nat.{zero-add}
use Rattle.std.proofs.lemmas.Bool.{eqb-true, ne_eqb}
use Rattle.ec_core.specs.declared.act.Act.{Act}
use Rattle.ec_core.specs.declared.act.Reply.{Reply}
use Rattle.ec_core.specs.Calls.{is_pending}
use Rattle.ec_core.specs.CallLists.{reply_number}
use Rattle.ec_core.specs.Following.{CompletedCall}
use Rattle.ec_buffer.specs.CallLists.{drawn_ticket}
use Rattle.ec_buffer.specs.Keeping.{call_count_after, turn_after, rest_of}

-- at first the whole list is left
pub rest_at_start : (list : ℕ → List Act) (at turn : ℕ) (calls : List CompletedCall) → at ≡ 0 → rest_of list at turn calls ≡ slice_get (list (drawn_ticket calls)) (length calls)
rest_at_start list at turn calls e =
    ap (λ (n : ℕ). rest_of list n turn calls) e ∙ ap (slice_get (list (drawn_ticket calls))) (zero-add (length calls))

-- a reply that ends no call leaves what was left
pub rest_pending : (list : ℕ → List Act) (at turn at' turn' : ℕ) (reply : Reply) (calls : List CompletedCall) → is_pending reply ≡ true
    → at' ≡ call_count_after at reply → turn' ≡ turn_after at turn reply → rest_of list at' turn' calls ≡ rest_of list at turn calls
rest_pending list at turn at' turn' reply calls h ea et =
    let a : at' ≡ at = ea ∙ ap (λ (b : Bool). cond b at (at + 1)) h in
    let u : turn' ≡ turn = et ∙ ap (λ (b : Bool). cond b turn (cond (at == 0) (reply_number reply) turn)) h in
    ap (λ (n : ℕ). rest_of list n turn' calls) a ∙ ap (λ (n : ℕ). rest_of list at n calls) u

-- a final reply leaves what comes after its call
pub rest_told : (list : ℕ → List Act) (at turn at' turn' : ℕ) (reply : Reply) (op : Act) (calls : List CompletedCall) → is_pending reply ≡ false
    → at' ≡ call_count_after at reply → turn' ≡ turn_after at turn reply → rest_of list at' turn' calls ≡ rest_of list at turn (record { op = op; reply = reply } ∷ calls)
rest_told list at turn at' turn' reply op calls h ea et =
    let a : at' ≡ at + 1 = ea ∙ ap (λ (b : Bool). cond b at (at + 1)) h in
    let u : turn' ≡ cond (at == 0) (reply_number reply) turn = et ∙ ap (λ (b : Bool). cond b turn (cond (at == 0) (reply_number reply) turn)) h in
    let later : (at' == 0) ≡ false = ne_eqb at' 0 (λ e. omega arith) in
    let place : at' + length calls ≡ at + suc (length calls) = omega arith in
    ap (λ (b : Bool). slice_get (list (cond b (drawn_ticket calls) turn')) (at' + length calls)) later
    ∙ ap (λ (n : ℕ). slice_get (list n) (at' + length calls)) u
    ∙ ap (slice_get (list (cond (at == 0) (reply_number reply) turn))) place

-- the call that is next: the first one is the same whatever the ticket will be
pub rest_next : (list : ℕ → List Act) (at turn : ℕ) → slice_get (list turn) 0 ≡ slice_get (list 0) 0 → slice_get (list turn) at ≡ rest_of list at turn []
rest_next list at turn first =
    let here : at ≡ at + 0 = omega arith in
    ap (slice_get (list turn)) here
    ∙ elim (at == 0) as (λ b. (at == 0) ≡ b → slice_get (list turn) (at + 0) ≡ slice_get (list (cond b 0 turn)) (at + 0)) [
      | true ↦ λ h. (let e : at + 0 ≡ 0 = (let z = eqb-true at 0 h in omega arith) in ap (slice_get (list turn)) e ∙ first ∙ ap (slice_get (list 0)) (sym e))
      | false ↦ λ h. refl
    ] refl
