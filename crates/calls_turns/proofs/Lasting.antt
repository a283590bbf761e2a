-- What steps say holds of each way to take the turns.
use Rattle.std.proofs.Common.{◌≡◌, ◌≢◌, ℕ, zero, ◌+◌, ◌<◌, ◌≤◌, ◌⊎◌, inl, inr, Bool, true}
use Rattle.std.proofs.Common.{false, List, []}
use Rattle.std.proofs.Common.{◌∷◌, ◌++◌, ◌-◌, length, refl, ap, sym, ◌∙◌, arith, subst, count_by}
use Rattle.std.proofs.Common.{eqb, max}
use Rattle.std.proofs.Common.{◌&&◌, ◌||◌}
use Rattle.std.proofs.Common.{Option, Some, None}
use Rattle.std.specs.Prelude.{nat_le, nat_lt}
use Rattle.std.proofs.lemmas.Bool.{cases_lt, leb-true, le-leb, lt-leb, le-ltb}
use Rattle.std.proofs.lemmas.Bool.{cond_both, and_parts, and_from, and_left, and_right}
use Rattle.std.proofs.lemmas.Bool.{cases_Bool, eq-eqb, ne_eqb, ltb-false, or_from, or_cases}
use Rattle.std.proofs.lemmas.Bool.{both_ways}
use Rattle.std.specs.List.{list_any}
use Rattle.calls_core.specs.Lists.{Each, EachPair}
use Rattle.calls_core.proofs.Lists.{each_weaker, all_from_each}
use Rattle.calls_core.proofs.Counting.{one, one_yes, count_append, count_moved, count_none}
use Rattle.calls_turns.specs.declared.turn.Turn.{Turn}
use Rattle.calls_turns.specs.declared.turn.Taker.{Taker}
use Rattle.calls_turns.specs.declared.turn.Step.{Step}
use Rattle.calls_turns.specs.declared.turn.Reason.{Reason}
use Rattle.calls_turns.specs.declared.turn.Reason.TheVariants.{Due, Takers}
use Rattle.calls_turns.specs.declared.turn.Share.{Share}
use Rattle.calls_turns.specs.declared.turn.Shortage.{Shortage}
use Rattle.calls_turns.specs.declared.turn.Clash.{Clash}
use Rattle.calls_turns.specs.declared.turn.Clash.TheVariants.{Closed, Few, Full}
use Rattle.calls_turns.specs.Turns.{MayTake, IsTaking}
use Rattle.calls_turns.specs.Steps.{has_item, has_none, is_of, come_of, turns_of, known, is_later}
use Rattle.calls_turns.specs.Steps.{is_within, reached, reached_after, IsDue, AreTooFew}
use Rattle.calls_turns.specs.Steps.{AreTooMany}
use Rattle.calls_turns.specs.Steps.{IsReason, IsStep, AreSteps, last_at, last_count, IsClosed}
use Rattle.calls_turns.specs.Steps.{IsShortage, missing, AreShort, IsShare, excess, IsFull}
use Rattle.calls_turns.specs.Steps.{IsClash, Refute}
use Rattle.calls_turns.specs.Sweeps.{nobody, turn_at, taker_at}
use Rattle.calls_turns.specs.Shortages.{is_listed}
use Rattle.calls_turns.proofs.Counts.{no_longer, taken_at, taken_by_index, left_at, NoSpares}
use Rattle.calls_turns.proofs.Counts.{known_item, count_between}
use Rattle.calls_turns.proofs.Tallies.{passing, passing_le, passing_apart, passing_under}
use Rattle.calls_turns.proofs.Tallies.{passing_longer, passing_only, passing_past, passing_span}
use Rattle.calls_turns.proofs.Tallies.{count_all, is_other, of_item, of_any, turns_counted}
use Rattle.calls_turns.proofs.Tallies.{turns_most}
use Rattle.calls_turns.proofs.Listed.{among_apart}

-- of n turns, which are taken, c are taken by position p
pub record Reached (moment : ℕ → ℕ) (n p c : ℕ) : Type 0 where
  pub within : c ≤ n
  pub by : (k : ℕ) → k < c → moment k ≤ p

-- those who are due at the end or later are not counted
rest_not_within : (end v p : ℕ) (after : Option ℕ) (rest : List Taker) → p < end
    → Each (λ (x : Taker). end ≤ x.by) rest → count_by (is_within v after p) rest ≡ 0
rest_not_within end v p after rest lt others =
    count_none (is_within v after p) rest (all_from_each (λ x. is_within v after p x ≡ false) rest
    (each_weaker (λ (x : Taker). end ≤ x.by) (λ x. is_within v after p x ≡ false)
    (λ x late. and_right (is_of v x) (is_later after x.from && nat_le x.by p)
    (and_right (is_later after x.from) (nat_le x.by p) (lt-leb x.by p (omega (arith, late)))))
    rest others))

one_first : (a c b : Bool) → c ≡ false → one (a && b) + one (c && b) ≤ one ((a || c) && b)
one_first a true b e = absurd (cc)
one_first true false b e = omega arith
one_first false false b e = omega arith

one_second : (a c b : Bool) → a ≡ false → one (a && b) + one (c && b) ≤ one ((a || c) && b)
one_second true c b e = absurd (cc)
one_second false c b e = omega arith

own_one : (b : Bool) (o : Option ℕ) (v : ℕ) → (b ≡ true → (u : ℕ) → o ≡ Some u → v ≡ u)
    → one b ≤ one (b && has_item o v) + one (b && has_none o)
own_one false o v may = omega arith
own_one true None v may = omega arith
own_one true (Some u) v may =
    omega (arith, one_yes (eqb u v) (eq-eqb u v (sym (may refl u refl))))

-- whether somebody is among the takers of shares
abbrev is_sharing : ℕ → List Share → Taker → Bool
is_sharing p list x = list_any (λ (s : Share). is_within s.item s.after p x) list

sharing_due : (p : ℕ) (list : List Share) (x : Taker) → is_sharing p list x ≡ true → x.by ≤ p
sharing_due p [] x is = absurd (cc)
sharing_due p (s ∷ list) x is =
    elim (or_cases (is_within s.item s.after p x) (is_sharing p list x) is) [
      | inl first ↦ leb-true x.by p (and_parts (is_later s.after x.from) (nat_le x.by p)
          (and_parts (is_of s.item x) (is_later s.after x.from && nat_le x.by p) first).1).1
      | inr rest ↦ sharing_due p list x rest
    ]

other_item : (p v : ℕ) (s : Share) (x : Taker) → x.item ≡ Some v → v ≢ s.item
    → is_within s.item s.after p x ≡ false
other_item p v s x e ne =
    and_left (is_of s.item x) (is_later s.after x.from && nat_le x.by p)
    (ap (λ (o : Option ℕ). has_item o s.item) e ∙ ne_eqb v s.item ne)

not_sharing : (p v : ℕ) (list : List Share) (x : Taker) → x.item ≡ Some v
    → Each (λ (t : Share). v ≢ t.item) list → is_sharing p list x ≡ false
not_sharing p v [] x e apart = refl
not_sharing p v (s ∷ list) x e apart =
    or_from (is_within s.item s.after p x) (is_sharing p list x) (other_item p v s x e apart.0)
    (not_sharing p v list x e apart.1)

shares_apart : (p : ℕ) (s : Share) (list : List Share) (x : Taker) (b : Bool)
    → Each (λ (t : Share). s.item ≢ t.item) list
    → one (is_within s.item s.after p x && b) + one (is_sharing p list x && b)
    ≤ one (is_sharing p (s ∷ list) x && b)
shares_apart p s list x b apart =
    let here : Bool = is_within s.item s.after p x in
    elim (cases_Bool here) [
      | inl holds ↦
          let none : is_sharing p list x ≡ false =
          not_sharing p s.item list x (of_item x.item s.item
          (and_parts (is_of s.item x) (is_later s.after x.from && nat_le x.by p) holds).0) apart in
          one_first here (is_sharing p list x) b none
      | inr fails ↦ one_second here (is_sharing p list x) b fails
    ]

module _ (end : ℕ) (turns : List Turn) (takers order : List Taker)
    (g : IsTaking end turns takers order) where
  abbrev IsReached : ℕ → ℕ → Type 0
  IsReached p c = Reached g.moment (length order) p c

  abbrev who : ℕ → Taker
  who i = taker_at order i

  may_take : (i : ℕ) → i < length order → MayTake (g.moment i) (turn_at turns i) (who i)
  may_take i lt =
      (let same : 0 + i ≡ i = omega arith in
      subst (λ j. MayTake (g.moment j) (turn_at turns i) (who i)) same
      (taken_by_index g.moment end 0 i turns order lt g.taken))

  counts : (w : Taker → Bool) → count_by w takers ≡ count_by w order + count_by w g.rest
  counts w = sym (count_moved w takers (order ++ g.rest) g.all) ∙ count_append w order g.rest

  reached_to : (p n : ℕ) → n < length order → g.moment n ≤ p → IsReached p (n + 1)
  reached_to p n lt le = record {
    within = omega arith;
    by = λ k below. omega (arith, le, g.rises k n (omega arith) lt);
  }

  -- n + 1 turns are taken by p, if it can't be that those from number n on are taken later
  reached_or_later : (p n : ℕ)
      → (((k : ℕ) → n ≤ k → k < length order → p < g.moment k) → ⊥) → IsReached p (n + 1)
  reached_or_later p n h =
      elim (cases_lt n (length order)) [
        | inl lt ↦ elim (cases_lt p (g.moment n)) [
          | inl later ↦ absurd (h (λ k low below. omega (arith, later, g.rises n k low below)))
          | inr le ↦ reached_to p n lt le
        ]
        | inr le ↦ absurd (h (λ k low below. absurd (omega arith)))
      ]

  due_reached : (p n : ℕ) → p < end → IsDue turns n p → IsReached p (n + 1)
  due_reached p n lt due =
      elim (cases_lt n (length order)) [
        | inl taken ↦ (
            let may = taken_at g.moment end 0 n n turns order due.turn (omega arith) taken due.at
            g.taken in
            reached_to p n taken (omega (arith, may.1.turn_by, due.by)))
        | inr left ↦ absurd (omega (
          arith,
          due.by,
          left_at g.moment end 0 n turns order due.turn left due.at g.taken,
        ))
      ]

  -- those who take a turn by a position are not counted after it
  early_not_within : (ss : List Step) (v p j : ℕ) (after : Option ℕ) (y : Taker)
      → ((q : ℕ) → IsReached q (reached ss q)) → j < reached_after ss after
      → y.from ≤ g.moment j → is_within v after p y ≡ false
  early_not_within ss v p j None y before lt from = absurd (omega arith)
  early_not_within ss v p j (Some q) y before lt from =
      and_right (is_of v y) (nat_lt q y.from && nat_le y.by p)
      (and_left (nat_lt q y.from) (nat_le y.by p)
      (le-ltb q y.from (omega (arith, from, (before q).by j lt))))

  late_not_within : (v p j : ℕ) (after : Option ℕ) (y : Taker) → p < g.moment j
      → g.moment j ≤ y.by → is_within v after p y ≡ false
  late_not_within v p j after y lt by =
      and_right (is_of v y) (is_later after y.from && nat_le y.by p)
      (and_right (is_later after y.from) (nat_le y.by p) (lt-leb y.by p (omega arith)))

  -- the takers who are counted take turns between
  within_few : (ss : List Step) (v p n m : ℕ) (after : Option ℕ) → p < end
      → ((q : ℕ) → IsReached q (reached ss q))
      → ((k : ℕ) → n ≤ k → k < length order → p < g.moment k) → n ≤ m
      → reached_after ss after ≤ m → NoSpares turns (reached_after ss after) m
      → count_by (is_within v after p) takers + turns_of turns v (reached_after ss after)
      ≤ turns_of turns v m
  within_few ss v p n m after lt before later le from known = omega (
    arith,
    counts (is_within v after p),
    rest_not_within end v p after g.rest lt g.others,
    count_between g.moment end v (is_within v after p) 0 (reached_after ss after) m turns order from
        known
        (λ y is. of_item y.item v
        (and_parts (is_of v y) (is_later after y.from && nat_le y.by p) is).0)
        (λ j y low below. early_not_within ss v p j after y before (omega arith))
        (λ j y low below. late_not_within v p j after y (later j (omega arith) (omega arith)))
        g.taken,
  )

  too_few_reached : (ss : List Step) (v p n calls : ℕ) (after : Option ℕ) → p < end
      → ((q : ℕ) → IsReached q (reached ss q)) → 0 < calls
      → calls ≤ count_by (is_within v after p) takers → AreTooFew turns ss n v after calls
      → IsReached p (n + 1)
  too_few_reached ss v p n calls after lt before some counted h = reached_or_later p n (λ later.
      elim (cases_lt n (reached_after ss after)) [
        | inl less ↦ omega (
          arith,
          some,
          counted,
          within_few ss v p n (reached_after ss after) after lt before later (omega arith)
              (omega arith) (λ i low high. absurd (omega arith)),
        )
        | inr from ↦ omega (
          arith,
          counted,
          h.few,
          within_few ss v p n n after lt before later (omega arith) from
              (λ i low high. known_item turns i (omega (arith, h.before))),
        )
      ])

  -- nobody takes a turn after a position and by an earlier one
  past_not_within : (v p j : ℕ) (after : Option ℕ) (y : Taker) → is_later after p ≡ false
      → y.from ≤ g.moment j → g.moment j ≤ y.by → is_within v after p y ≡ false
  past_not_within v p j None y past from by = absurd (cc)
  past_not_within v p j (Some q) y past from by =
      and_right (is_of v y) (nat_lt q y.from && nat_le y.by p) (elim (cases_lt p y.by) [
        | inl lt ↦ and_right (nat_lt q y.from) (nat_le y.by p) (lt-leb y.by p lt)
        | inr le ↦ and_left (nat_lt q y.from) (nat_le y.by p)
            (le-ltb q y.from (omega (arith, ltb-false q p past)))
      ])

  none_past : (v p : ℕ) (after : Option ℕ) → p < end → is_later after p ≡ false
      → count_by (is_within v after p) takers ≡ 0
  none_past v p after lt past = omega (
    arith,
    counts (is_within v after p),
    rest_not_within end v p after g.rest lt g.others,
    count_all (is_within v after p) order nobody,
    passing_only (λ i. is_within v after p (who i)) zero (length order) (omega arith)
        (λ i from less. past_not_within v p i after (who i) past (may_take i less).from
        (may_take i less).by),
  )

  too_many_reached : (ss : List Step) (v p n calls : ℕ) (after : Option ℕ) → p < end
      → ((q : ℕ) → IsReached q (reached ss q)) → AreTooMany turns takers ss p n v after calls
      → IsReached p (n + 1)
  too_many_reached ss v p n calls after lt before many = elim many.few [
    | inl few ↦ too_few_reached ss v p n calls after lt before many.some many.counted few
    | inr past ↦ absurd (omega (arith, many.some, many.counted, none_past v p after lt past))
  ]

  reason_reached : (ss : List Step) (p n : ℕ) (r : Reason) → p < end
      → ((q : ℕ) → IsReached q (reached ss q)) → IsReason turns takers ss p n r
      → IsReached p (n + 1)
  reason_reached ss p n Due lt before due = due_reached p n lt due
  reason_reached ss p n (Takers v after calls) lt before many =
      too_many_reached ss v p n calls after lt before many

  step_reached : (ss : List Step) (s : Step) → ((q : ℕ) → IsReached q (reached ss q))
      → IsStep end turns takers ss s → IsReached s.at s.count
  step_reached ss s before h =
      subst (λ c. IsReached s.at c) (sym h.count)
      (reason_reached ss s.at h.last s.reason h.before before h.reason)

  reached_more : (q p c d : ℕ) → q ≤ p → IsReached q c → IsReached p d → IsReached p (max c d)
  reached_more q p c d le r t = record {
    within = omega (arith, r.within, t.within);
    by = λ k lt. elim (cases_lt k d) [
      | inl less ↦ t.by k less
      | inr not_less ↦ omega (arith, r.by k (omega arith))
    ];
  }

  reached_less : (p c d : ℕ) → d ≤ c → IsReached p c → IsReached p d
  reached_less p c d le r = record {
    within = omega (arith, r.within);
    by = λ k lt. r.by k (omega arith);
  }

  -- as many turns are taken as steps say
  pub steps_reached : (ss : List Step) → AreSteps end turns takers ss → (p : ℕ)
      → IsReached p (reached ss p)
  steps_reached [] h p = record { within = omega arith; by = λ k lt. absurd (omega arith) }
  steps_reached (s ∷ ss) h p =
      let before = steps_reached ss h.1 in
      let here = step_reached ss s before h.0 in
      cond_both (nat_le s.at p) (max s.count (reached ss p)) (reached ss p) (λ c. IsReached p c)
      (λ e. reached_more s.at p s.count (reached ss p) (leb-true s.at p e) here (before p))
      (λ e. before p)

  -- SO A TURN IS TAKEN

  closed : (p k : ℕ) → IsReached p (k + 1) → (length turns ≤ k) ⊎ IsClosed turns p k → ⊥
  closed p k r (inl none) =
      omega (arith, r.within, no_longer g.moment end 0 turns order g.taken)
  closed p k r (inr c) =
      let may = taken_at g.moment end 0 k k turns order c.turn (omega arith)
      (omega (arith, r.within)) c.at g.taken in
      omega (arith, may.1.turn_from, r.by k (omega arith), c.later)

  -- SO TAKERS OF ANY ITEM TAKE TURNS

  -- by position p
  abbrev is_come : ℕ → Taker → Bool
  is_come p x = has_none x.item && nat_le x.from p

  -- turn i is of an item that passes, and taken by a taker of any item who came by p
  abbrev is_used : ℕ → (Option ℕ → Bool) → ℕ → Bool
  is_used p test i = is_come p (who i) && test (turn_at turns i).item

  those_of_item : (p v n : ℕ) → IsReached p n
      → passing (λ i. is_of v (who i)) n ≤ come_of takers v p
  those_of_item p v n r =
      let w : Taker → Bool = λ (x : Taker). is_of v x && nat_le x.from p in
      omega (
        arith,
        passing_le (λ i. is_of v (who i)) (λ i. w (who i)) n
            (λ i lt is. and_from (is_of v (who i)) (nat_le (who i).from p) is
            (le-leb (who i).from p
            (omega (arith, (may_take i (omega (arith, r.within))).from, r.by i lt)))),
        passing_longer (λ i. w (who i)) n (length order) r.within,
        count_all w order nobody,
        counts w,
      )

  those_of_any : (p q v n : ℕ) → p ≤ q → IsReached p n
      → passing (is_other who turns (λ o. has_item o v)) n
      ≤ passing (is_used q (λ o. has_item o v)) (length order)
  those_of_any p q v n le r =
      omega (
        arith,
        passing_le (is_other who turns (λ o. has_item o v)) (is_used q (λ o. has_item o v)) n
            (λ i lt is. (let both = and_parts (has_none (who i).item)
            (has_item (turn_at turns i).item v) is in
            and_from (is_come q (who i)) (has_item (turn_at turns i).item v)
            (and_from (has_none (who i).item) (nat_le (who i).from q) both.0
            (le-leb (who i).from q
            (omega (arith, (may_take i (omega (arith, r.within))).from, r.by i lt)))) both.1)),
        passing_longer (is_used q (λ o. has_item o v)) n (length order) r.within,
      )

  -- of a shortage
  used_for : (q : ℕ) (ss : List Step) (s : Shortage) → ((p : ℕ) → IsReached p (reached ss p))
      → s.at ≤ q → IsShortage turns takers ss s
      → s.turns ≤ s.takers + passing (is_used q (λ o. has_item o s.item)) (length order)
  used_for q ss s before le h =
      let n : ℕ = s.turn + 1 in
      let r : IsReached s.at n =
      reached_less s.at (reached ss s.at) n (omega (arith, h.taken)) (before s.at) in
      omega (
        arith,
        h.of_item,
        h.come,
        turns_most who turns s.item n
            (omega (arith, r.within, no_longer g.moment end 0 turns order g.taken))
            (λ i w u lt is has. (may_take i (omega (arith, r.within))).item w u is has),
        those_of_item s.at s.item n r,
        those_of_any s.at q s.item n le r,
      )

  -- of all of them, since their items differ
  used_for_all : (q : ℕ) (ss : List Step) (list : List Shortage)
      → ((p : ℕ) → IsReached p (reached ss p)) → last_at ss ≤ q
      → Each (IsShortage turns takers ss) list
      → EachPair (λ (s t : Shortage). s.item ≢ t.item) list
      → missing list ≤ passing (is_used q (is_listed list)) (length order)
  used_for_all q ss [] before le each apart = omega arith
  used_for_all q ss (s ∷ list) before le each apart =
      omega (
        arith,
        used_for q ss s before (omega (arith, each.0.before)) each.0,
        used_for_all q ss list before le each.1 apart.1,
        passing_apart (is_used q (λ o. has_item o s.item)) (is_used q (is_listed list))
            (is_used q (is_listed (s ∷ list))) (length order)
            (λ i lt. among_apart (λ (t : Shortage). t.item) (is_come q (who i)) s list
            (turn_at turns i).item apart.0),
      )

  short : (ss : List Step) (list : List Shortage) (others : ℕ)
      → ((p : ℕ) → IsReached p (reached ss p)) → AreShort turns takers ss list others → ⊥
  short ss list others before h =
      let q : ℕ = last_at ss in
      omega (
        arith,
        h.more,
        h.come,
        used_for_all q ss list before (omega arith) h.each h.apart,
        passing_le (is_used q (is_listed list)) (λ i. is_come q (who i)) (length order)
            (λ i lt is. (and_parts (is_come q (who i))
            (is_listed list (turn_at turns i).item) is).0),
        count_all (is_come q) order nobody,
        counts (is_come q),
      )

  -- SO SPARE TURNS ARE TAKEN

  -- turn i is spare, and taken by one who passes
  abbrev is_spare : (Taker → Bool) → ℕ → Bool
  is_spare w i = w (who i) && has_none (turn_at turns i).item

  reached_within : (ss : List Step) (after : Option ℕ)
      → ((q : ℕ) → IsReached q (reached ss q)) → reached_after ss after ≤ length order
  reached_within ss None before = omega arith
  reached_within ss (Some q) before = (before q).within

  not_early : (ss : List Step) (v p i : ℕ) (after : Option ℕ)
      → ((q : ℕ) → IsReached q (reached ss q)) → i < length order
      → is_within v after p (who i) ≡ true → reached_after ss after ≤ i
  not_early ss v p i after before lt is =
      elim (cases_lt i (reached_after ss after)) [
        | inl early ↦ absurd (both_ways (is_within v after p (who i))
            (early_not_within ss v p i after (who i) before early (may_take i lt).from) is)
        | inr from ↦ from
      ]

  spare_past : (i : ℕ) → has_none (turn_at turns i).item ≡ true → known turns ≤ i
  spare_past i none =
      elim (cases_lt i (known turns)) [
        | inl lt ↦ absurd (known_item turns i lt (of_any (turn_at turns i).item none))
        | inr from ↦ from
      ]

  sharing_before : (p k i : ℕ) (list : List Share)
      → ((j : ℕ) → k ≤ j → j < length order → p < g.moment j) → i < length order
      → is_sharing p list (who i) ≡ true → i < k
  sharing_before p k i list later lt is =
      elim (cases_lt i k) [
        | inl less ↦ less
        | inr from ↦ absurd (omega (
          arith,
          later i from lt,
          (may_take i lt).by,
          sharing_due p list (who i) is,
        ))
      ]

  -- who is of an item takes a turn of it, or a spare one
  own_or_spare : (v p i : ℕ) (after : Option ℕ) → i < length order
      → one (is_within v after p (who i))
      ≤ one (is_within v after p (who i) && has_item (turn_at turns i).item v)
      + one (is_spare (is_within v after p) i)
  own_or_spare v p i after lt =
      own_one (is_within v after p (who i)) (turn_at turns i).item v (λ is u has.
      (may_take i lt).item v u (of_item (who i).item v
      (and_parts (is_of v (who i)) (is_later after (who i).from && nat_le (who i).by p) is).0) has)

  -- the takers of a share
  spares_for : (p : ℕ) (ss : List Step) (s : Share) → p < end
      → ((q : ℕ) → IsReached q (reached ss q)) → IsShare turns takers ss p s
      → s.takers - s.turns ≤ passing (is_spare (is_within s.item s.after p)) (length order)
  spares_for p ss s lt before h =
      let v : ℕ = s.item in
      let n : ℕ = length order in
      let w : Taker → Bool = is_within v s.after p in
      let there : n ≤ length turns = no_longer g.moment end 0 turns order g.taken in
      omega (
        arith,
        h.counted,
        h.left,
        counts w,
        rest_not_within end v p s.after g.rest lt g.others,
        count_all w order nobody,
        passing_under (λ i. w (who i) && has_item (turn_at turns i).item v) (is_spare w)
            (λ i. w (who i)) n (λ i less. own_or_spare v p i s.after less),
        passing_past (λ i. has_item (turn_at turns i).item v)
            (λ i. w (who i) && has_item (turn_at turns i).item v) (reached_after ss s.after) n
            (reached_within ss s.after before) (λ i less is.
            (let both = and_parts (w (who i)) (has_item (turn_at turns i).item v) is in
            (not_early ss v p i s.after before less both.0, both.1))),
        turns_counted turns v (reached_after ss s.after)
            (omega (arith, reached_within ss s.after before)),
        turns_counted turns v (length turns) (omega arith),
        passing_longer (λ i. has_item (turn_at turns i).item v) n (length turns) there,
      )

  -- of all of them, since their items differ
  spares_for_all : (p : ℕ) (ss : List Step) (list : List Share) → p < end
      → ((q : ℕ) → IsReached q (reached ss q)) → Each (IsShare turns takers ss p) list
      → EachPair (λ (s t : Share). s.item ≢ t.item) list
      → excess list ≤ passing (is_spare (is_sharing p list)) (length order)
  spares_for_all p ss [] lt before each apart = omega arith
  spares_for_all p ss (s ∷ list) lt before each apart = omega (
    arith,
    spares_for p ss s lt before each.0,
    spares_for_all p ss list lt before each.1 apart.1,
    passing_apart (is_spare (is_within s.item s.after p)) (is_spare (is_sharing p list))
        (is_spare (is_sharing p (s ∷ list))) (length order) (λ i less.
        shares_apart p s list (who i) (has_none (turn_at turns i).item) apart.0),
  )

  full : (ss : List Step) (k p n : ℕ) (list : List Share)
      → ((q : ℕ) → IsReached q (reached ss q)) → IsFull end turns takers ss k p n list → ⊥
  full ss k p n list before h =
      closed p k (reached_or_later p k (λ later. absurd (omega (
        arith,
        h.count,
        h.spare,
        h.more,
        spares_for_all p ss list h.before before h.each h.apart,
        passing_span (is_spare (is_sharing p list)) (known turns) k (length order) (λ i less is.
            (let both = and_parts (is_sharing p list (who i))
            (has_none (turn_at turns i).item) is in
            (spare_past i both.1, sharing_before p k i list later less both.0))),
      )))) h.closed

  last_reached : (ss : List Step) → AreSteps end turns takers ss
      → IsReached (last_at ss) (last_count ss)
  last_reached [] h = record { within = omega arith; by = λ k lt. absurd (omega arith) }
  last_reached (s ∷ ss) h = step_reached ss s (steps_reached ss h.1) h.0

  clashing : (ss : List Step) (clash : Clash) → AreSteps end turns takers ss
      → IsClash end turns takers ss clash → ⊥
  clashing ss (Closed k) h c =
      closed (last_at ss) k
      (reached_less (last_at ss) (last_count ss) (k + 1) (omega (arith, c.0))
      (last_reached ss h)) c.1
  clashing ss (Few shortages others) h c = short ss shortages.items others (steps_reached ss h) c
  clashing ss (Full x) h c = full ss x.turn x.at x.known x.shares.items (steps_reached ss h) c

pub no_taking : (end : ℕ) (turns : List Turn) (takers order : List Taker) (ss : List Step)
    (clash : Clash) → Refute end turns takers ss clash → IsTaking end turns takers order → ⊥
no_taking end turns takers order ss clash refute g =
    clashing end turns takers order g ss clash refute.steps refute.clashes
