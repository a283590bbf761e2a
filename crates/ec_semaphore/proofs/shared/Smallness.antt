-- How large a total can be.
use Rattle.std.proofs.Common.{◌≡◌, ℕ, zero, suc, ◌*◌, ◌^◌, ◌<◌, ◌≤◌, List, length, arith}
use Rattle.ec_count.specs.Tables.{Tables, IsDeclared, signallers}
use Rattle.ec_count.proofs.shared.Declared.{few_signallers}
use Rattle.ec_core.specs.declared.act.Entry.{Entry}
use Rattle.ec_core.specs.Counts.{total, component_total, sum_to}
use Rattle.ec_core.specs.Rounds.{component_count}
use Rattle.ec_core.specs.Acceptance.{IsAccepted}
use Rattle.ec_core.proofs.shared.Bounds.{component_within}
use Rattle.ec_core.proofs.shared.Totals.{total_is}

sum_within : (f : ℕ → ℕ) (m n : ℕ) → ((c : ℕ) → f c < m) → sum_to f n ≤ n * m
unfolding sum_to
sum_within f m zero h = omega arith
sum_within f m (suc n) h =
    let here : f n < m = h n in
    let rest : sum_to f n ≤ n * m = sum_within f m n h in
    omega arith

-- there are at most 16 components, each below 2 ^ 48
pub total_small : (t : Tables) (e : ℕ) (past : List Entry) → IsDeclared t → IsAccepted t past → total e past < 2 ^ 53
total_small t e past dec acc =
    let least : (c : ℕ) → component_total t e c past < 2 ^ 48 = λ c. (let k = component_within t e c past acc in let limit : t.limit < 2 ^ 48 = dec.limit.1 in omega arith) in
    let sum : sum_to (λ c. component_total t e c past) (component_count t e) ≤ component_count t e * 2 ^ 48 = sum_within (λ c. component_total t e c past) (2 ^ 48) (component_count t e) least in
    let few : length (signallers t e) ≤ 16 = few_signallers t e dec in
    let is : sum_to (λ c. component_total t e c past) (component_count t e) ≡ total e past = total_is t e past acc in
    omega arith
