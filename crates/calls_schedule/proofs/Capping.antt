-- The limits that bounds leave, by position.
use Rattle.std.proofs.Common.{◌≡◌, ℕ, zero, suc, ◌+◌, ◌-◌, ◌<◌, ◌≤◌, true, false, List, [], ◌∷◌}
use Rattle.std.proofs.Common.{◌++◌, refl, ap, sym, ◌∙◌, arith, get_or, length, min, subst, take}
use Rattle.std.proofs.Common.{reverse}
use Rattle.std.specs.Prelude.{nat_le}
use Rattle.std.specs.List.Sorted.{IsPartitionedBy}
use Rattle.std.proofs.lemmas.Bool.{leb-true, le-leb, cond-true, cond-false}
use Rattle.std.proofs.lemmas.List.{get_or-reverse, length-reverse, take_more}
use Rattle.calls_core.specs.Lists.{Each, EachPair}
use Rattle.calls_core.proofs.Lists.{all_from_each}
use Rattle.calls_schedule.specs.declared.job.Bound.{Bound}
use Rattle.calls_schedule.specs.declared.lowering.Cap.{Cap}
use Rattle.calls_schedule.specs.Missing.{lowered_at}
use Rattle.calls_schedule.specs.Caps.{caps_along, least_along, Descend}
use Rattle.calls_schedule.proofs.Lateness.{lower_at_le}

-- one more bound
caps_push : (m : ℕ) (bs : List Bound) (b : Bound)
    → caps_along m (bs ++ b ∷ [])
    ≡ caps_along m bs ++ (record { at = b.at; most = min (b.due - b.jobs) (least_along m bs) }) ∷ []
caps_push m [] b = refl
caps_push m (c ∷ cs) b =
    ap (λ l. (let cap : Cap = record { at = c.at; most = min (c.due - c.jobs) m } in cap) ∷ l)
    (caps_push (min (c.due - c.jobs) m) cs b)

least_push : (m : ℕ) (bs : List Bound) (b : Bound)
    → least_along m (bs ++ b ∷ []) ≡ min (b.due - b.jobs) (least_along m bs)
least_push m [] b = refl
least_push m (c ∷ cs) b = least_push (min (c.due - c.jobs) m) cs b

next_bound : (bounds : List Bound) (k : ℕ) (d : Bound) → k < length bounds
    → take (k + 1) (reverse bounds)
    ≡ take k (reverse bounds) ++ get_or bounds (length bounds - 1 - k) d ∷ []
next_bound bounds k d lt =
    take_more (reverse bounds) k d (omega (arith, length-reverse bounds))
    ∙ ap (λ b. take k (reverse bounds) ++ b ∷ []) (get_or-reverse bounds k d lt)

pub caps_more : (m most new : ℕ) (bounds : List Bound) (k : ℕ) (d : Bound) (caps all : List Cap)
    → k < length bounds → caps ≡ caps_along m (take k (reverse bounds))
    → most ≡ least_along m (take k (reverse bounds))
    → (let b = get_or bounds (length bounds - 1 - k) d in
    new ≡ min (b.due - b.jobs) most)
    → all ≡ caps ++ (record { at = (get_or bounds (length bounds - 1 - k) d).at; most = new }) ∷ []
    → all ≡ caps_along m (take (k + 1) (reverse bounds))
caps_more m most new bounds k d caps all lt e f g h =
    let b : Bound = get_or bounds (length bounds - 1 - k) d in
    let old = take k (reverse bounds) in
    h ∙ ap (λ l. l ++ (let cap : Cap = record { at = b.at; most = new } in cap) ∷ []) e
    ∙ ap (λ x. caps_along m old ++ (let cap : Cap = record { at = b.at; most = x } in cap) ∷ [])
    (g ∙ ap (min (b.due - b.jobs)) f)
    ∙ sym (caps_push m old b)
    ∙ ap (caps_along m) (sym (next_bound bounds k d lt))

pub least_next : (m most new : ℕ) (bounds : List Bound) (k : ℕ) (d : Bound)
    → k < length bounds → most ≡ least_along m (take k (reverse bounds))
    → (let b = get_or bounds (length bounds - 1 - k) d in
    new ≡ min (b.due - b.jobs) most)
    → new ≡ least_along m (take (k + 1) (reverse bounds))
least_next m most new bounds k d lt f g =
    let b : Bound = get_or bounds (length bounds - 1 - k) d in
    let old = take k (reverse bounds) in
    g ∙ ap (min (b.due - b.jobs)) f ∙ sym (least_push m old b)
    ∙ ap (least_along m) (sym (next_bound bounds k d lt))

caps_below : (m at : ℕ) (bs : List Bound) → Each (λ (c : Bound). c.at ≤ at) bs
    → Each (λ (c : Cap). c.at ≤ at) (caps_along m bs)
caps_below m at [] h = tt
caps_below m at (b ∷ bs) h = (h.0, caps_below (min (b.due - b.jobs) m) at bs h.1)

pub caps_descend : (m : ℕ) (bs : List Bound) → EachPair (λ (b c : Bound). c.at ≤ b.at) bs
    → Descend (caps_along m bs)
caps_descend m [] h = tt
caps_descend m (b ∷ bs) h = (
  caps_below (min (b.due - b.jobs) m) b.at bs h.0,
  caps_descend (min (b.due - b.jobs) m) bs h.1,
)

-- A LIMIT BY THE CAPS

lowered_le : (bs : List Bound) (p x : ℕ) → lowered_at bs p x ≤ x
lowered_le [] p x = omega arith
lowered_le (b ∷ bs) p x = omega (
  arith,
  lower_at_le b p (lowered_at bs p x),
  lowered_le bs p x,
)

-- no bound of these lowers
lowered_none_at : (m : ℕ) (bs : List Bound) (p x : ℕ)
    → ((k : ℕ) (d : Cap) → 0 ≤ k → k < length (caps_along m bs)
    → nat_le p (get_or (caps_along m bs) k d).at ≡ false)
    → lowered_at bs p x ≡ x
lowered_none_at m [] p x h = refl
lowered_none_at m (b ∷ bs) p x h =
    let m' : ℕ = min (b.due - b.jobs) m in
    let cap : Cap = record { at = b.at; most = m' } in
    let rest : lowered_at bs p x ≡ x = lowered_none_at m' bs p x
    (λ k d le lt. h (suc k) d (omega arith) (omega arith)) in
    cond-false (nat_le p b.at) (min (b.due - b.jobs) (lowered_at bs p x)) (lowered_at bs p x)
    (h zero cap (omega arith) (omega arith)) ∙ rest

lowered_first : (m : ℕ) (bs : List Bound) (p x i : ℕ) (z : Cap) → i < length (caps_along m bs)
    → ((k : ℕ) (d : Cap) → 0 ≤ k → k < suc i → nat_le p (get_or (caps_along m bs) k d).at ≡ true)
    → ((k : ℕ) (d : Cap) → suc i ≤ k → k < length (caps_along m bs)
    → nat_le p (get_or (caps_along m bs) k d).at ≡ false)
    → min (get_or (caps_along m bs) i z).most x ≡ min m (lowered_at bs p x)
lowered_first m [] p x i z lt h k = absurd (omega arith)
lowered_first m (b ∷ bs) p x zero z lt h k =
    let m' : ℕ = min (b.due - b.jobs) m in
    let cap : Cap = record { at = b.at; most = m' } in
    omega (
      arith,
      cond-true (nat_le p b.at) (min (b.due - b.jobs) (lowered_at bs p x)) (lowered_at bs p x)
          (h zero cap (omega arith) (omega arith)),
      lowered_none_at m' bs p x (λ j d le within. k (suc j) d (omega arith) (omega arith)),
    )
lowered_first m (b ∷ bs) p x (suc i) z lt h k =
    let m' : ℕ = min (b.due - b.jobs) m in
    let cap : Cap = record { at = b.at; most = m' } in
    omega (
      arith,
      cond-true (nat_le p b.at) (min (b.due - b.jobs) (lowered_at bs p x)) (lowered_at bs p x)
          (h zero cap (omega arith) (omega arith)),
      lowered_first m' bs p x i z (omega arith)
          (λ j d le within. h (suc j) d (omega arith) (omega arith))
          (λ j d le within. k (suc j) d (omega arith) (omega arith)),
    )

pub capped_none : (m : ℕ) (bs : List Bound) (caps : List Cap) (p x n : ℕ)
    → caps ≡ caps_along m bs → n ≡ 0
    → ((k : ℕ) (d : Cap) → n ≤ k → k < length caps → nat_le p (get_or caps k d).at ≡ false)
    → x ≡ lowered_at bs p x
capped_none m bs caps p x n e none h =
    let P : List Cap → Type 0 = λ l. (k : ℕ) (d : Cap) → n ≤ k → k < length l
    → nat_le p (get_or l k d).at ≡ false in
    let all = subst P e h in
    sym (lowered_none_at m bs p x (λ k d le lt. all k d (omega arith) lt))

pub capped_some : (m : ℕ) (bs : List Bound) (caps : List Cap) (p x n : ℕ) (z : Cap)
    → caps ≡ caps_along m bs → x ≤ m → 0 < n → n ≤ length caps
    → ((k : ℕ) (d : Cap) → 0 ≤ k → k < n → nat_le p (get_or caps k d).at ≡ true)
    → ((k : ℕ) (d : Cap) → n ≤ k → k < length caps → nat_le p (get_or caps k d).at ≡ false)
    → min (get_or caps (n - 1) z).most x ≡ lowered_at bs p x
capped_some m bs caps p x zero z e le some short h k = absurd (omega arith)
capped_some m bs caps p x (suc i) z e le some short h k =
    let P : List Cap → Type 0 = λ l. (j : ℕ) (d : Cap) → 0 ≤ j → j < suc i
    → nat_le p (get_or l j d).at ≡ true in
    let Q : List Cap → Type 0 = λ l. (j : ℕ) (d : Cap) → suc i ≤ j → j < length l
    → nat_le p (get_or l j d).at ≡ false in
    let at : suc i - 1 ≡ i = omega arith in
    let same : min (get_or caps (suc i - 1) z).most x ≡ min (get_or (caps_along m bs) i z).most x =
    ap (λ j. min (get_or caps j z).most x) at ∙ ap (λ l. min (get_or l i z).most x) e in
    let first = lowered_first m bs p x i z (omega (arith, ap length e)) (subst P e h)
    (subst Q e k) in
    same ∙ (let last : min (get_or (caps_along m bs) i z).most x ≡ lowered_at bs p x =
    omega (arith, first, lowered_le bs p x, le) in last)

pub caps_partitioned : (p : ℕ) (caps : List Cap) → Descend caps
    → IsPartitionedBy (λ (c : Cap). nat_le p c.at) caps
caps_partitioned p [] h i j d le lt e = absurd (omega arith)
caps_partitioned p (c ∷ cs) h zero zero d le lt e = e
caps_partitioned p (c ∷ cs) h zero (suc j) d le lt e =
    le-leb p c.at (omega (
      arith,
      leb-true p (get_or cs j d).at e,
      all_from_each (λ (b : Cap). b.at ≤ c.at) cs h.0 j d (omega arith),
    ))
caps_partitioned p (c ∷ cs) h (suc i) zero d le lt e = absurd (omega arith)
caps_partitioned p (c ∷ cs) h (suc i) (suc j) d le lt e =
    caps_partitioned p cs h.1 i j d (omega arith) (omega arith) e
