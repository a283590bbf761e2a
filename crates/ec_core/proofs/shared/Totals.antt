-- The components of an eventcount add up to its total, and a round's sum lies between the totals at its ends.
use Rattle.std.proofs.Common.{◌≡◌, ℕ, zero, suc, ◌+◌, ◌<◌, ◌≤◌, Bool, true, false, not, ◌&&◌, List, [], ◌∷◌, ◌++◌, length, Option, Some, None, is_some, refl, ap, sym, ◌∙◌, arith, add-one, cond, ◌==◌, ◌≢◌, reverse}
use Rattle.std.proofs.lemmas.Bool.{eqb-true, eqb-false}
use Rattle.ec_count.specs.Tables.{Tables}
use Rattle.ec_core.specs.declared.act.Act.{Act}
use Rattle.ec_core.specs.declared.act.Act.TheVariants.{Advance, Read, Await, Go, Ticket, Put, Get, Hand}
use Rattle.ec_core.specs.declared.act.Entry.{Entry}
use Rattle.ec_core.specs.Counts.{total, component_total, sum_to, is_advance, is_place, signallers_at, component_at}
use Rattle.ec_core.specs.Rounds.{component_count, sum_read, IsPastOf, IsPastOfEach, EachIsPastOf}
use Rattle.ec_core.specs.Acceptance.{IsAccepted, has_right}
use Rattle.ec_count.proofs.Membership.{place_within}
use Rattle.ec_core.proofs.shared.Answering.{allowed, width_few}
use Rattle.ec_core.proofs.shared.Signalling.{signallers_length}
use Rattle.ec_core.specs.Standing.{State, StandsFor, count_at}
use Rattle.ec_core.specs.kept.Fields.{count_value}

eqb-off : (d n : ℕ) → n < d → (d == n) ≡ false
eqb-off d n h = grind arith

one_at : (n : ℕ) (f : ℕ → ℕ) (d : ℕ) → n ≤ d → sum_to (λ c. cond (d == c) 1 0 + f c) n ≡ sum_to f n
unfolding sum_to
one_at zero f d h = refl
one_at (suc n) f d h =
    let off : (d == n) ≡ false = eqb-off d n (omega arith) in
    let rest : sum_to (λ c. cond (d == c) 1 0 + f c) n ≡ sum_to f n = one_at n f d (omega arith) in
    rw (off, rest) (omega arith)

-- one more in one summand is one more in the sum
pub one_more : (n : ℕ) (f : ℕ → ℕ) (d : ℕ) → d < n → sum_to (λ c. cond (d == c) 1 0 + f c) n ≡ 1 + sum_to f n
unfolding sum_to
one_more zero f d h = absurd (omega arith)
one_more (suc n) f d h =
    elim (d == n) as (λ b. (d == n) ≡ b → cond b 1 0 + f n + sum_to (λ c. cond (d == c) 1 0 + f c) n ≡ 1 + (f n + sum_to f n)) [
      | true ↦ λ e.
          (let rest : sum_to (λ c. cond (d == c) 1 0 + f c) n ≡ sum_to f n = one_at n f d (let same : d ≡ n = eqb-true d n e in omega arith) in omega arith)
      | false ↦ λ e.
          (let rest : sum_to (λ c. cond (d == c) 1 0 + f c) n ≡ 1 + sum_to f n = one_more n f d (let other : d ≢ n = eqb-false d n e in omega arith) in omega arith)
    ] refl

same_sum : (n : ℕ) (f : ℕ → ℕ) → sum_to (λ c. 0 + f c) n ≡ 0 + sum_to f n
unfolding sum_to
same_sum zero f = refl
same_sum (suc n) f = (let rest : sum_to (λ c. 0 + f c) n ≡ 0 + sum_to f n = same_sum n f in omega arith)

-- if an entry raises one of so many counts the sum is one more, and otherwise the same
pub raised_sum : (b : Bool) (o : Option ℕ) (n : ℕ) (f : ℕ → ℕ) → (b ≡ true → (d : ℕ) × (o ≡ Some d) × (d < n))
    → sum_to (λ c. cond (b && is_place c o) 1 0 + f c) n ≡ cond b 1 0 + sum_to f n
raised_sum true o n f h =
    let k = h refl in
    rw k.1 (one_more n f k.0 k.2)
raised_sum false o n f h = same_sum n f

-- the value of an option that is some
pub some_of : (o : Option ℕ) → not (is_some o) ≡ false → (d : ℕ) × (o ≡ Some d)
some_of None h = cc
some_of (Some d) h = (d, refl)

-- an accepted advance is made by a signaller
advance_place : (t : Tables) (past : List Entry) (w e : ℕ) (act : Act) → not (has_right t past w act) ≡ false → is_advance e act ≡ true
    → (d : ℕ) × (component_at t e past w ≡ Some d) × (d < component_count t e)
advance_place t past w e (Advance f) right is =
    let same : f ≡ e = eqb-true f e is in
    let k = some_of (component_at t f past w) right in
    let at : component_at t e past w ≡ Some k.0 = ap (λ v. component_at t v past w) (sym same) ∙ k.1 in
    let within : k.0 < 0 + length (signallers_at t e past) = place_within w (signallers_at t e past) 0 k.0 at in
    let wide : length (signallers_at t e past) ≡ component_count t e = signallers_length t e past in
    (k.0, at, (let below : k.0 < component_count t e = omega arith in below))
advance_place t past w e (Read f) right is = cc
advance_place t past w e (Await f v) right is = cc
advance_place t past w e Go right is = cc
advance_place t past w e (Ticket q) right is = cc
advance_place t past w e (Put x v) right is = cc
advance_place t past w e (Get x) right is = cc
advance_place t past w e (Hand f g) right is = cc

-- a sum of zeros is 0
pub zeros : (n : ℕ) → sum_to (λ c. 0) n ≡ 0
unfolding sum_to
zeros zero = refl
zeros (suc n) = (let rest : sum_to (λ c. 0) n ≡ 0 = zeros n in omega arith)

-- the components add up to the total
pub total_is : (t : Tables) (e : ℕ) (past : List Entry) → IsAccepted t past → sum_to (λ c. component_total t e c past) (component_count t e) ≡ total e past
unfolding component_total total sum_to
total_is t e [] acc = zeros (component_count t e)
total_is t e (x ∷ past) acc =
    raised_sum (is_advance e x.act) (component_at t e past x.worker) (component_count t e) (λ c. component_total t e c past)
    (advance_place t past x.worker e x.act (allowed t past x.worker x.act x.reply acc.0).0.right)
    ∙ ap (λ n. cond (is_advance e x.act) 1 0 + n) (total_is t e past acc.1)

-- counts only grow
comp_grows : (t : Tables) (e c : ℕ) (since early : List Entry) → component_total t e c early ≤ component_total t e c (since ++ early)
unfolding component_total
comp_grows t e c [] early = omega arith
comp_grows t e c (x ∷ since) early = (let rest : component_total t e c early ≤ component_total t e c (since ++ early) = comp_grows t e c since early in omega arith)

pub comp_later : (t : Tables) (e c : ℕ) (early late : List Entry) → IsPastOf early late → component_total t e c early ≤ component_total t e c late
comp_later t e c early late p = rw p.is (comp_grows t e c p.since early)

sum_low : (t : Tables) (e n : ℕ) (early : List Entry) (moments : List (List Entry)) → length moments ≡ n → IsPastOfEach early moments
    → sum_to (λ c. component_total t e c early) n ≤ sum_read t e n moments
unfolding sum_read sum_to
sum_low t e zero early moments len h = omega arith
sum_low t e (suc n) early [] len h = absurd (omega arith)
sum_low t e (suc n) early (p ∷ moments) len h =
    (let here : component_total t e n early ≤ component_total t e n p = comp_later t e n early p h.0 in
    let rest : sum_to (λ c. component_total t e c early) n ≤ sum_read t e n moments = sum_low t e n early moments (omega arith) h.1 in
    omega arith)

-- the components read at some moments are no more than those at a later one
pub sum_high : (t : Tables) (e n : ℕ) (late : List Entry) (moments : List (List Entry)) → EachIsPastOf moments late
    → sum_read t e n moments ≤ sum_to (λ c. component_total t e c late) n
unfolding sum_read sum_to
sum_high t e zero late moments h = omega arith
sum_high t e (suc n) late [] h = omega arith
sum_high t e (suc n) late (p ∷ moments) h =
    (let here : component_total t e n p ≤ component_total t e n late = comp_later t e n p late h.0 in
    let rest : sum_read t e n moments ≤ sum_to (λ c. component_total t e c late) n = sum_high t e n late moments h.1 in
    omega arith)

-- the sum of a whole round is at least the total before it and at most the total after it
pub round_between : (t : Tables) (e : ℕ) (early late : List Entry) (moments : List (List Entry)) → IsAccepted t early → IsAccepted t late
    → length moments ≡ component_count t e → IsPastOfEach early moments → EachIsPastOf moments late
    → (total e early ≤ sum_read t e (component_count t e) moments) × (sum_read t e (component_count t e) moments ≤ total e late)
round_between t e early late moments a b len low high =
    (let l : sum_to (λ c. component_total t e c early) (component_count t e) ≤ sum_read t e (component_count t e) moments = sum_low t e (component_count t e) early moments len low in
    let h : sum_read t e (component_count t e) moments ≤ sum_to (λ c. component_total t e c late) (component_count t e) = sum_high t e (component_count t e) late moments high in
    (rw (← total_is t e early a) l, rw (← total_is t e late b) h))

pub sum_to_next : (f : ℕ → ℕ) (n : ℕ) → sum_to f (n + 1) ≡ f n + sum_to f n
unfolding sum_to
sum_to_next f n = rw add-one refl

pub sum_same : (n : ℕ) (f g : ℕ → ℕ) → ((c : ℕ) → c < n → f c ≡ g c) → sum_to f n ≡ sum_to g n
unfolding sum_to
sum_same zero f g h = refl
sum_same (suc n) f g h =
    (let here : f n ≡ g n = h n (omega arith) in
    let rest : sum_to f n ≡ sum_to g n = sum_same n f g (λ c lt. h c (omega arith)) in
    cc)

-- in a world that represents a history the counts of an eventcount's components add up to its total
pub total_now : (s : State) (h : List Entry) (e : ℕ) → StandsFor s h → e < 32
    → sum_to (λ c. count_value (count_at s.counts e c)) (component_count s.setup e)
    ≡ total e (reverse h)
total_now s h e st lt =
    sum_same (component_count s.setup e) (λ c. count_value (count_at s.counts e c)) (λ c. component_total s.setup e c (reverse h))
    (λ c below. (let few : component_count s.setup e ≤ 16 = width_few s.setup e st.declared in ap count_value (st.counts e c lt (omega arith))))
    ∙ total_is s.setup e (reverse h) st.accepted
