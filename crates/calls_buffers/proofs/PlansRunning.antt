-- The calls of items that are put in and taken out by their ranks, sorted by their places, are a
-- run of a buffer.
use Rattle.std.proofs.Common.{◌≡◌, ℕ, zero, suc, ◌+◌, ◌<◌, ◌≤◌, ◌==◌, ◌⊎◌, inl, inr, Bool, true}
use Rattle.std.proofs.Common.{false, ◌&&◌, List, [], ◌∷◌, ◌++◌, length, refl, ap, sym, ◌∙◌, subst}
use Rattle.std.proofs.Common.{arith, count_by}
use Rattle.std.proofs.lemmas.Bool.{cases_lt, eqb-true, eq-eqb, ne_eqb, and_from, and_left}
use Rattle.std.proofs.lemmas.Bool.{and_right, and_parts}
use Rattle.calls_core.specs.declared.history.Op.TheVariants.{Produce, Consume}
use Rattle.calls_core.specs.declared.history.Reply.TheVariants.{Done, Number}
use Rattle.calls_core.specs.declared.history.Call.{Call}
use Rattle.calls_core.specs.Lists.{Each, EachPair}
use Rattle.calls_core.proofs.Lists.{each_both}
use Rattle.calls_core.proofs.Counting.{count_cons, one_yes, one_no}
use Rattle.calls_buffers.specs.declared.ordering.Key.{Key}
use Rattle.calls_buffers.specs.Queues.{Allows, items_after, IsQueueRun}
use Rattle.calls_buffers.specs.Counts.{any_item, put_one, took_one, is_put, is_take}
use Rattle.calls_buffers.specs.kept.Orders.{slot, Before}

-- a call that passes a test, and of which Q holds
pub record Passing (test : Call → Bool) (Q : Call → Type 0) : Type 0 where
  pub call : Call
  pub passes : test call ≡ true
  pub holds : Q call

pub passing : (test : Call → Bool) (Q : Call → Type 0) (cs : List Call) → Each Q cs
    → 0 < count_by test cs → Passing test Q
passing test Q [] h lt = absurd (omega arith)
passing test Q (c ∷ cs) h lt =
    elim (test c) as (λ b. test c ≡ b → Passing test Q) [
      | true ↦ λ e. record { call = c; passes = e; holds = h.0 }
      | false ↦ λ e. passing test Q cs h.1 (omega (arith, count_cons test c cs, one_no (test c) e))
    ] refl

-- when the items of ranks below m are put in and taken out, in a buffer with room for n
pub record AreTimes (n m : ℕ) (put_at take_at : ℕ → ℕ) (Taken : ℕ → Type 0) : Type 0 where
  pub room : 0 < n
  pub put_rises : (i k : ℕ) → i ≤ k → k < m → put_at i ≤ put_at k
  pub take_rises : (i k : ℕ) → i ≤ k → k < m → take_at i ≤ take_at k
  pub after : (k : ℕ) → k < m → put_at k ≤ take_at k
  pub freed : (i k : ℕ) → i + n ≤ k → k < m → take_at i ≤ put_at k
  pub freed_taken : (i k : ℕ) → i + n ≤ k → k < m → Taken i
  pub first_with_take : (i k : ℕ) → i ≤ k → k < m → Taken k → Taken i

-- a call without effect
pub record IsIdle (n : ℕ) (c : Call) : Type 0 where
  pub allowed : (items : List ℕ) → Allows n items c.op c.reply
  pub same : (items : List ℕ) → items_after items c.op c.reply ≡ items
  pub no_put : is_put any_item c ≡ false
  pub no_take : is_take any_item c ≡ false

-- the produce of the item of a rank
pub record IsPutOf (m : ℕ) (put_at item_of : ℕ → ℕ) (key : Call → Key) (c : Call) : Type 0 where
  pub rank : ℕ
  pub below : rank < m
  pub asks : c.op ≡ Produce (item_of rank)
  pub returns : c.reply ≡ Done
  pub point : (key c).point ≡ put_at rank
  pub slot : slot (key c) ≡ rank + rank

-- the consume of the item of a rank
pub record IsTakeOf (m : ℕ) (take_at item_of : ℕ → ℕ) (Taken : ℕ → Type 0) (key : Call → Key)
    (c : Call) : Type 0 where
  pub rank : ℕ
  pub below : rank < m
  pub asks : c.op ≡ Consume
  pub returns : c.reply ≡ Number (item_of rank)
  pub point : (key c).point ≡ take_at rank
  pub slot : slot (key c) ≡ rank + rank + 1
  pub taken : Taken rank

-- whether a call is the produce or the consume of the item of this rank
abbrev pub puts_rank : (Call → Key) → ℕ → Call → Bool
puts_rank key k c = is_put any_item c && (slot (key c) == k + k)

abbrev pub takes_rank : (Call → Key) → ℕ → Call → Bool
takes_rank key k c = is_take any_item c && (slot (key c) == k + k + 1)

module _ (n m : ℕ) (put_at take_at item_of : ℕ → ℕ) (Taken : ℕ → Type 0) (key : Call → Key)
    (t : AreTimes n m put_at take_at Taken) where
  abbrev pub IsPlaced : Call → Type 0
  IsPlaced c = IsIdle n c ⊎ IsPutOf m put_at item_of key c ⊎ IsTakeOf m take_at item_of Taken key c

  abbrev puts : ℕ → Call → Bool
  puts = puts_rank key

  abbrev takes : ℕ → Call → Bool
  takes = takes_rank key

  -- WHICH TESTS A CALL PASSES

  pub idle_puts : (c : Call) → IsIdle n c → (k : ℕ) → puts k c ≡ false
  idle_puts c h k = and_left (is_put any_item c) (slot (key c) == k + k) h.no_put

  pub idle_takes : (c : Call) → IsIdle n c → (k : ℕ) → takes k c ≡ false
  idle_takes c h k = and_left (is_take any_item c) (slot (key c) == k + k + 1) h.no_take

  module _ (c : Call) (p : IsPutOf m put_at item_of key c) where
    pub put_yes : (k : ℕ) → p.rank ≡ k → puts k c ≡ true
    put_yes k e = and_from (is_put any_item c) (slot (key c) == k + k)
        (ap (λ op. put_one any_item op c.reply) p.asks
        ∙ ap (put_one any_item (Produce (item_of p.rank))) p.returns)
        (let place = p.slot in eq-eqb (slot (key c)) (k + k) (omega arith))

    put_no : (k : ℕ) → (p.rank ≡ k → ⊥) → puts k c ≡ false
    put_no k ne = and_right (is_put any_item c) (slot (key c) == k + k)
        (ne_eqb (slot (key c)) (k + k) (λ e. ne (let place = p.slot in omega arith)))

    pub put_rank_is : (k : ℕ) → puts k c ≡ true → p.rank ≡ k
    put_rank_is k e =
        let same = eqb-true (slot (key c)) (k + k)
        (and_parts (is_put any_item c) (slot (key c) == k + k) e).1 in
        let place = p.slot in omega arith

    pub put_takes : (k : ℕ) → takes k c ≡ false
    put_takes k = and_left (is_take any_item c) (slot (key c) == k + k + 1)
        (ap (λ op. took_one any_item op c.reply) p.asks)

  module _ (c : Call) (p : IsTakeOf m take_at item_of Taken key c) where
    pub take_yes : (k : ℕ) → p.rank ≡ k → takes k c ≡ true
    take_yes k e = and_from (is_take any_item c) (slot (key c) == k + k + 1)
        (ap (λ op. took_one any_item op c.reply) p.asks
        ∙ ap (took_one any_item Consume) p.returns)
        (let place = p.slot in eq-eqb (slot (key c)) (k + k + 1) (omega arith))

    take_no : (k : ℕ) → (p.rank ≡ k → ⊥) → takes k c ≡ false
    take_no k ne = and_right (is_take any_item c) (slot (key c) == k + k + 1)
        (ne_eqb (slot (key c)) (k + k + 1) (λ e. ne (let place = p.slot in omega arith)))

    pub take_rank_is : (k : ℕ) → takes k c ≡ true → p.rank ≡ k
    take_rank_is k e =
        let same = eqb-true (slot (key c)) (k + k + 1)
        (and_parts (is_take any_item c) (slot (key c) == k + k + 1) e).1 in
        let place = p.slot in omega arith

    pub take_puts : (k : ℕ) → puts k c ≡ false
    take_puts k = and_left (is_put any_item c) (slot (key c) == k + k)
        (ap (λ op. put_one any_item op c.reply) p.asks)

  -- WHAT IS STILL TO COME

  -- the items of ranks from j to below j + l are inside, those below j were taken out
  record State (j l : ℕ) (cs : List Call) : Type 0 where
    within : j + l ≤ m
    puts_left : (i : ℕ) → j + l ≤ i → i < m → count_by (puts i) cs ≡ 1
    puts_done : (i : ℕ) → i < j + l → count_by (puts i) cs ≡ 0
    takes_left : (i : ℕ) → j ≤ i → i < m → Taken i → count_by (takes i) cs ≡ 1
    takes_done : (i : ℕ) → i < j → count_by (takes i) cs ≡ 0

  abbrev Precedes : Call → ℕ → ℕ → Type 0
  Precedes c point place = ((key c).point ≤ point) × ((key c).point ≡ point → slot (key c) ≤ place)

  precedes : (c d : Call) (point place : ℕ) → Before key c d → (key d).point ≡ point
      → slot (key d) ≡ place → Precedes c point place
  precedes c d point place b e f = (
    omega (arith, b.point, e),
    λ same. omega (arith, f, b.tie (same ∙ sym e)),
  )

  later_put : (c : Call) (cs : List Call) (i : ℕ) → i < m → Each IsPlaced cs
      → Each (Before key c) cs → 0 < count_by (puts i) cs → Precedes c (put_at i) (i + i)
  later_put c cs i li pl ord lt =
      let r = passing (puts i) (λ d. IsPlaced d × Before key c d) cs
      (each_both IsPlaced (Before key c) (λ d. IsPlaced d × Before key c d) (λ d p b. (p, b)) cs pl
      ord) lt in
      elim r.holds.0 [
        | inl idle ↦ absurd (let no = idle_puts r.call idle i in let yes = r.passes in cc)
        | inr (inl p) ↦ (let same : p.rank ≡ i = put_rank_is r.call p i r.passes in
            precedes c r.call (put_at i) (i + i) r.holds.1 (p.point ∙ ap put_at same)
            (p.slot ∙ ap (λ k. k + k) same))
        | inr (inr p) ↦ absurd (let no = take_puts r.call p i in let yes = r.passes in cc)
      ]

  later_take : (c : Call) (cs : List Call) (i : ℕ) → i < m → Each IsPlaced cs
      → Each (Before key c) cs → 0 < count_by (takes i) cs → Precedes c (take_at i) (i + i + 1)
  later_take c cs i li pl ord lt =
      let r = passing (takes i) (λ d. IsPlaced d × Before key c d) cs
      (each_both IsPlaced (Before key c) (λ d. IsPlaced d × Before key c d) (λ d p b. (p, b)) cs pl
      ord) lt in
      elim r.holds.0 [
        | inl idle ↦ absurd (let no = idle_takes r.call idle i in let yes = r.passes in cc)
        | inr (inl p) ↦ absurd (let no = put_takes r.call p i in let yes = r.passes in cc)
        | inr (inr p) ↦ (let same : p.rank ≡ i = take_rank_is r.call p i r.passes in
            precedes c r.call (take_at i) (i + i + 1) r.holds.1 (p.point ∙ ap take_at same)
            (p.slot ∙ ap (λ k. k + k + 1) same))
      ]

  -- A CALL WITHOUT EFFECT

  idle_state : (j l : ℕ) (c : Call) (cs : List Call) → IsIdle n c → State j l (c ∷ cs)
      → State j l cs
  idle_state j l c cs h s =
      let no_put : (i : ℕ) → count_by (puts i) (c ∷ cs) ≡ count_by (puts i) cs = λ i.
      omega (arith, count_cons (puts i) c cs, one_no (puts i c) (idle_puts c h i)) in
      let no_take : (i : ℕ) → count_by (takes i) (c ∷ cs) ≡ count_by (takes i) cs = λ i.
      omega (arith, count_cons (takes i) c cs, one_no (takes i c) (idle_takes c h i)) in
      record {
        within = s.within;
        puts_left = λ i le lt. sym (no_put i) ∙ s.puts_left i le lt;
        puts_done = λ i lt. sym (no_put i) ∙ s.puts_done i lt;
        takes_left = λ i le lt k. sym (no_take i) ∙ s.takes_left i le lt k;
        takes_done = λ i lt. sym (no_take i) ∙ s.takes_done i lt;
      }

  -- A PRODUCE

  module _ (j l : ℕ) (c : Call) (cs : List Call) (p : IsPutOf m put_at item_of key c)
      (s : State j l (c ∷ cs)) where
    put_own : (i : ℕ) → i ≡ p.rank → count_by (puts i) (c ∷ cs) ≡ 1 + count_by (puts i) cs
    put_own i e = omega (
      arith,
      count_cons (puts i) c cs,
      one_yes (puts i c) (put_yes c p i (sym e)),
    )

    put_other : (i : ℕ) → (p.rank ≡ i → ⊥)
        → count_by (puts i) (c ∷ cs) ≡ count_by (puts i) cs
    put_other i ne = omega (arith, count_cons (puts i) c cs, one_no (puts i c) (put_no c p i ne))

    put_no_take : (i : ℕ) → count_by (takes i) (c ∷ cs) ≡ count_by (takes i) cs
    put_no_take i = omega (arith, count_cons (takes i) c cs, one_no (takes i c) (put_takes c p i))

    next_put : Each IsPlaced cs → Each (Before key c) cs → p.rank ≡ j + l
    next_put pl ord =
        let below = p.below in
        elim (cases_lt p.rank (j + l)) [
          | inl lt ↦ absurd (omega (arith, s.puts_done p.rank lt, put_own p.rank refl))
          | inr ge ↦ elim (cases_lt (j + l) p.rank) [
            | inr le ↦ omega arith
            | inl lt ↦ absurd (let k : j + l < m = omega arith in
                let r = later_put c cs (j + l) k pl ord (omega (
                  arith,
                  s.puts_left (j + l)
                      (omega arith) k,
                  put_other (j + l) (λ e. omega arith),
                )) in
                let rise = t.put_rises (j + l) p.rank (omega arith) below in
                let point = p.point in
                let place = p.slot in
                let first = r.0 in
                let same : (key c).point ≡ put_at (j + l) = omega arith in
                let tie = r.1 same in omega arith)
          ]
        ]

    put_fits : p.rank ≡ j + l → Each IsPlaced cs → Each (Before key c) cs → l < n
    put_fits here pl ord = elim (cases_lt l n) [
      | inl lt ↦ lt
      | inr ge ↦ absurd (let below = p.below in
          let room = t.room in
          let le : j + n ≤ p.rank = omega arith in
          let k : j < m = omega arith in
          let r = later_take c cs j k pl ord (omega (
            arith,
            s.takes_left j (omega arith) k
                (t.freed_taken j p.rank le below),
            put_no_take j,
          )) in
          let rise = t.freed j p.rank le below in
          let point = p.point in
          let place = p.slot in
          let first = r.0 in
          let same : (key c).point ≡ take_at j = omega arith in
          let tie = r.1 same in omega arith)
    ]

    put_state : p.rank ≡ j + l → State j (suc l) cs
    put_state here =
        let below = p.below in
        record {
          within = omega arith;
          puts_left = λ i le lt. omega (
            arith,
            put_other i (λ e. omega arith),
            s.puts_left i (omega arith) lt,
          );
          puts_done = λ i lt. elim (cases_lt i (j + l)) [
            | inl less ↦ omega (
              arith,
              put_other i (λ e. omega arith),
              s.puts_done i less,
            )
            | inr ge ↦ (let is : i ≡ p.rank = omega arith in
                omega (arith, put_own i is, s.puts_left i ge (omega arith)))
          ];
          takes_left = λ i le lt k. omega (arith, put_no_take i, s.takes_left i le lt k);
          takes_done = λ i lt. omega (arith, put_no_take i, s.takes_done i lt);
        }

  -- A CONSUME

  module _ (j l : ℕ) (c : Call) (cs : List Call) (p : IsTakeOf m take_at item_of Taken key c)
      (s : State j l (c ∷ cs)) where
    take_own : (i : ℕ) → i ≡ p.rank → count_by (takes i) (c ∷ cs) ≡ 1 + count_by (takes i) cs
    take_own i e = omega (
      arith,
      count_cons (takes i) c cs,
      one_yes (takes i c) (take_yes c p i (sym e)),
    )

    take_other : (i : ℕ) → (p.rank ≡ i → ⊥)
        → count_by (takes i) (c ∷ cs) ≡ count_by (takes i) cs
    take_other i ne = omega (
      arith,
      count_cons (takes i) c cs,
      one_no (takes i c) (take_no c p i ne),
    )

    take_no_put : (i : ℕ) → count_by (puts i) (c ∷ cs) ≡ count_by (puts i) cs
    take_no_put i = omega (arith, count_cons (puts i) c cs, one_no (puts i c) (take_puts c p i))

    next_take : Each IsPlaced cs → Each (Before key c) cs → p.rank ≡ j
    next_take pl ord =
        let below = p.below in
        elim (cases_lt p.rank j) [
          | inl lt ↦ absurd (omega (arith, s.takes_done p.rank lt, take_own p.rank refl))
          | inr ge ↦ elim (cases_lt j p.rank) [
            | inr le ↦ omega arith
            | inl lt ↦ absurd (let k : j < m = omega arith in
                let r = later_take c cs j k pl ord (omega (
                  arith,
                  s.takes_left j
                      (omega arith) k (t.first_with_take j p.rank (omega arith) below p.taken),
                  take_other j (λ e. omega arith),
                )) in
                let rise = t.take_rises j p.rank (omega arith) below in
                let point = p.point in
                let place = p.slot in
                let first = r.0 in
                let same : (key c).point ≡ take_at j = omega arith in
                let tie = r.1 same in omega arith)
          ]
        ]

    take_held : p.rank ≡ j → Each IsPlaced cs → Each (Before key c) cs → 0 < l
    take_held here pl ord = elim (cases_lt 0 l) [
      | inl lt ↦ lt
      | inr le ↦ absurd (let below = p.below in
          let k : j < m = omega arith in
          let r = later_put c cs j k pl ord (omega (
            arith,
            s.puts_left j (omega arith) k,
            take_no_put j,
          )) in
          let rise = t.after j k in
          let point = p.point ∙ ap take_at here in
          let place = p.slot in
          let first = r.0 in
          let same : (key c).point ≡ put_at j = omega arith in
          let tie = r.1 same in omega arith)
    ]

    take_state : (k : ℕ) → l ≡ suc k → p.rank ≡ j → State (suc j) k cs
    take_state k is here =
        let below = p.below in
        let within = s.within in
        record {
          within = omega arith;
          puts_left = λ i le lt. omega (arith, take_no_put i, s.puts_left i (omega arith) lt);
          puts_done = λ i lt. omega (arith, take_no_put i, s.puts_done i (omega arith));
          takes_left = λ i le lt k. omega (
            arith,
            take_other i (λ e. omega arith),
            s.takes_left i (omega arith) lt k,
          );
          takes_done = λ i lt. elim (cases_lt i j) [
            | inl less ↦ omega (
              arith,
              take_other i (λ e. omega arith),
              s.takes_done i less,
            )
            | inr ge ↦ (let is : i ≡ p.rank = omega arith in
                let low : i < m = omega arith in
                let own : Taken i = subst Taken (sym is) p.taken in
                omega (arith, take_own i is, s.takes_left i ge low own))
          ];
        }

  -- ALL CALLS

  abbrev held : ℕ → ℕ → List ℕ
  held j zero = []
  held j (suc l) = item_of j ∷ held (suc j) l

  held_length : (j l : ℕ) → length (held j l) ≡ l
  held_length j zero = refl
  held_length j (suc l) = ap suc (held_length (suc j) l)

  held_more : (j l : ℕ) → held j l ++ item_of (j + l) ∷ [] ≡ held j (suc l)
  held_more j zero = (let same : j + zero ≡ j = omega arith in ap (λ k. item_of k ∷ []) same)
  held_more j (suc l) = (let same : j + suc l ≡ suc j + l = omega arith in
      ap (λ k. item_of j ∷ (held (suc j) l ++ item_of k ∷ [])) same
      ∙ ap (λ zs. item_of j ∷ zs) (held_more (suc j) l))

  put_step : (j l : ℕ) (c : Call) (cs : List Call) (p : IsPutOf m put_at item_of key c)
      → p.rank ≡ j + l → l < n → IsQueueRun n (held j (suc l)) cs → IsQueueRun n (held j l) (c ∷ cs)
  put_step j l c cs p here lt rest =
      let fits : length (held j l) < n = omega (arith, held_length j l) in
      let op : c.op ≡ Produce (item_of (j + l)) = p.asks ∙ ap (λ k. Produce (item_of k)) here in
      let next : items_after (held j l) c.op c.reply ≡ held j (suc l) =
      ap (λ o. items_after (held j l) o c.reply) op
      ∙ ap (items_after (held j l) (Produce (item_of (j + l)))) p.returns ∙ held_more j l in (
        subst (λ o. Allows n (held j l) o c.reply) (sym op)
            (subst (Allows n (held j l) (Produce (item_of (j + l)))) (sym p.returns) fits),
        subst (λ items. IsQueueRun n items cs) (sym next) rest,
      )

  take_step : (j l : ℕ) (c : Call) (cs : List Call) (p : IsTakeOf m take_at item_of Taken key c)
      → p.rank ≡ j → 0 < l
      → ((k : ℕ) → l ≡ suc k → IsQueueRun n (held (suc j) k) cs)
      → IsQueueRun n (held j l) (c ∷ cs)
  take_step j zero c cs p here lt rest = absurd (omega arith)
  take_step j (suc l) c cs p here lt rest =
      let items : List ℕ = held j (suc l) in
      let reply : c.reply ≡ Number (item_of j) = p.returns ∙ ap (λ k. Number (item_of k)) here in
      let next : items_after (held j (suc l)) c.op c.reply ≡ held (suc j) l =
      ap (λ o. items_after (held j (suc l)) o c.reply) p.asks
      ∙ ap (items_after (held j (suc l)) Consume) reply in (
        subst (λ o. Allows n (held j (suc l)) o c.reply) (sym p.asks)
            (subst (Allows n (held j (suc l)) Consume) (sym reply) refl),
        subst (λ items. IsQueueRun n items cs) (sym next) (rest l refl),
      )

  run : (cs : List Call) (j l : ℕ) → Each IsPlaced cs → EachPair (Before key) cs → State j l cs
      → IsQueueRun n (held j l) cs
  run [] j l pl ord s = tt
  run (c ∷ cs) j l pl ord s = elim pl.0 [
    | inl idle ↦ (
      idle.allowed (held j l),
      subst (λ items. IsQueueRun n items cs) (sym (idle.same (held j l)))
          (run cs j l pl.1 ord.1 (idle_state j l c cs idle s)),
    )
    | inr (inl p) ↦ (let here = next_put j l c cs p s pl.1 ord.0 in
        put_step j l c cs p here (put_fits j l c cs p s here pl.1 ord.0)
        (run cs j (suc l) pl.1 ord.1 (put_state j l c cs p s here)))
    | inr (inr p) ↦ (let here = next_take j l c cs p s pl.1 ord.0 in
        take_step j l c cs p here (take_held j l c cs p s here pl.1 ord.0)
        (λ k is. run cs (suc j) k pl.1 ord.1 (take_state j l c cs p s k is here)))
  ]

  pub sorted_run : (cs : List Call) → Each IsPlaced cs → EachPair (Before key) cs
      → ((i : ℕ) → i < m → count_by (puts i) cs ≡ 1)
      → ((i : ℕ) → i < m → Taken i → count_by (takes i) cs ≡ 1)
      → IsQueueRun n [] cs
  sorted_run cs pl ord p q = run cs 0 0 pl ord (record {
    within = omega arith;
    puts_left = λ i le lt. p i lt;
    puts_done = λ i lt. absurd (omega arith);
    takes_left = λ i le lt k. q i lt k;
    takes_done = λ i lt. absurd (omega arith);
  })
