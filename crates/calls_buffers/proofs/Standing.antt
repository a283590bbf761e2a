-- The ranks that the items have in a linearization, as jobs: an item is done when it is taken out.
use Rattle.std.proofs.Common.{◌≡◌, ℕ, ◌+◌, ◌<◌, ◌≤◌, ◌⊎◌, inl, inr, Bool, true, false, ◌&&◌, nat_le}
use Rattle.std.proofs.Common.{nat_lt, if◌then◌else◌, get_or, List, [], ◌∷◌, ◌++◌, Some, refl, ap, sym}
use Rattle.std.proofs.Common.{◌∙◌, subst, arith, count_by, append_assoc}
use Rattle.std.specs.List.{Contains}
use Rattle.std.proofs.lemmas.Bool.{cases_lt, eq-eqb, le-leb, lt-leb, ltb-true, lt-ltb}
use Rattle.std.proofs.lemmas.Bool.{le-ltb, and_from, and_right, and_parts}
use Rattle.std.proofs.lemmas.List.{get_or_default}
use Rattle.calls_core.specs.declared.history.Kind.TheVariants.{Buffer}
use Rattle.calls_core.specs.declared.history.Op.TheVariants.{Produce, Consume}
use Rattle.calls_core.specs.declared.history.PendingCall.{PendingCall}
use Rattle.calls_core.specs.declared.history.Call.{Call}
use Rattle.calls_core.specs.Lists.{Each, EachPair}
use Rattle.calls_core.specs.Histories.{completion}
use Rattle.calls_core.specs.Linearizations.{IsLegalHistory, KeepsOrder, initial, IsLinearOrder}
use Rattle.calls_core.specs.Calls.{AreCallsOf}
use Rattle.calls_core.proofs.Lists.{each_weaker, all_from_each}
use Rattle.calls_core.proofs.Filters.{each_from_all}
use Rattle.calls_core.proofs.Counting.{count_cons, count_append}
use Rattle.calls_schedule.specs.declared.job.Job.{Job}
use Rattle.calls_schedule.specs.Schedules.{IsTimed, AreCounts, AreRanks}
use Rattle.calls_buffers.specs.Queues.{IsQueueRun}
use Rattle.calls_buffers.specs.Counts.{item, produces, is_consume, put_one, took_one, is_put, is_take}
use Rattle.calls_buffers.specs.Jobs.{IsProduceOf, IsConsumeOf, IsTakenBefore}
use Rattle.calls_buffers.specs.Jobs.{IsInBefore, IsPutInvoked, IsOnce}
use Rattle.calls_buffers.specs.Jobs.{IsOutFrom, IsBehind, IsAhead}
use Rattle.calls_buffers.specs.Jobs.{IsJob, AreJobs}
use Rattle.calls_buffers.proofs.Flows.{put_items, taken_items, put_append, run_first}
use Rattle.calls_buffers.proofs.Flows.{Leaves, leaves, count_put, count_taken, bounded}
use Rattle.calls_buffers.proofs.Cuts.{Lasts, not_before}
use Rattle.calls_buffers.proofs.Asking.{put_asked, take_asked, count_some}
use Rattle.calls_buffers.proofs.Tallies.{all_last, all_keep, queue, counted, done_counted}
use Rattle.calls_buffers.proofs.Tallies.{count_under, count_zero}
use Rattle.calls_buffers.proofs.Firsts.{times, times_append, before, not_before_itself, all_before}
use Rattle.calls_buffers.proofs.Firsts.{before_in, no_more_before, one_is_before, before_before}
use Rattle.calls_buffers.proofs.Firsts.{holds, held, some_held, holds_none, held_within}
use Rattle.calls_buffers.proofs.Firsts.{held_fewer, held_append, count_implied, count_strictly}
use Rattle.calls_buffers.proofs.Firsts.{IsWithin}

-- THE CALLS BEFORE A POSITION

-- the calls before the first one that was invoked at position p or later
abbrev front : ℕ → List Call → List Call
front p [] = []
front p (c ∷ cs) = if nat_lt c.first p then c ∷ front p cs else []

abbrev back : ℕ → List Call → List Call
back p [] = []
back p (c ∷ cs) = if nat_lt c.first p then back p cs else c ∷ cs

front_and_back : (p : ℕ) (cs : List Call) → cs ≡ front p cs ++ back p cs
front_and_back p [] = refl
front_and_back p (c ∷ cs) =
    own (front_and_back p cs) (nat_lt c.first p)
  where
    own : cs ≡ front p cs ++ back p cs → (b : Bool)
        → c ∷ cs ≡ (if b then c ∷ front p cs else []) ++ (if b then back p cs else c ∷ cs)
    own rest true = ap (λ zs. c ∷ zs) rest
    own rest false = refl

front_begun : (p : ℕ) (cs : List Call) → Each (λ (c : Call). c.first < p) (front p cs)
front_begun p [] = tt
front_begun p (c ∷ cs) =
    own (front_begun p cs) (nat_lt c.first p) refl
  where
    own : Each (λ (d : Call). d.first < p) (front p cs) → (b : Bool) → nat_lt c.first p ≡ b
        → Each (λ (d : Call). d.first < p) (if b then c ∷ front p cs else [])
    own rest true e = (ltb-true c.first p e, rest)
    own rest false e = tt

back_later : (p : ℕ) (cs : List Call) → Each Lasts cs → EachPair KeepsOrder cs
    → Each (λ (c : Call). p ≤ c.last) (back p cs)
back_later p [] l h = tt
back_later p (c ∷ cs) l h =
    elim (cases_lt c.first p) [
      | inl lt ↦ subst (λ b. Each (λ (d : Call). p ≤ d.last) (if b then back p cs else c ∷ cs))
          (sym (lt-ltb c.first p lt)) (back_later p cs l.1 h.1)
      | inr le ↦ subst (λ b. Each (λ (d : Call). p ≤ d.last) (if b then back p cs else c ∷ cs))
          (sym (le-ltb c.first p le)) (
            (let own : Lasts c = l.0 in omega (arith, own, le)),
            each_weaker (KeepsOrder c) (λ (d : Call). p ≤ d.last)
                (λ d keeps. omega (arith, le, not_before c d keeps)) cs h.0,
          )
    ]

-- they are no fewer before a later one
front_rises : (test : Call → Bool) (p q : ℕ) → p ≤ q → (cs : List Call)
    → count_by test (front p cs) ≤ count_by test (front q cs)
front_rises test p q le [] = omega arith
front_rises test p q le (c ∷ cs) =
    elim (cases_lt c.first p) [
      | inr out ↦ omega (
        arith,
        ap (λ b. count_by test (if b then c ∷ front p cs else [])) (le-ltb c.first p out),
      )
      | inl lt ↦ omega (
        arith,
        ap (λ b. count_by test (if b then c ∷ front p cs else [])) (lt-ltb c.first p lt),
        ap (λ b. count_by test (if b then c ∷ front q cs else []))
            (lt-ltb c.first q (omega (arith, lt, le))),
        count_cons test c (front p cs),
        count_cons test c (front q cs),
        front_rises test p q le cs,
      )
    ]

-- LISTS

each_known : {X : Type 0} (P : X → Type 0) (xs : List X) → ((x : X) → Contains xs x → P x)
    → Each P xs
each_known P xs f = each_from_all P xs (λ k d lt. f (get_or xs k d)
    (k, lt, get_or_default xs k (get_or xs k d) d lt))

each_of : {X : Type 0} (P : X → Type 0) (xs : List X) → Each P xs → (x : X) → Contains xs x → P x
each_of P xs h x (k, lt, e) = subst P e (all_from_each P xs h k x lt)

each_pair_with : {X : Type 0} (A : X → Type 0) (R S : X → X → Type 0)
    → ((x y : X) → A x → A y → R x y → S x y) → (xs : List X) → Each A xs → EachPair R xs
    → EachPair S xs
each_pair_with A R S f [] a r = tt
each_pair_with {X} A R S f (x ∷ xs) a r =
    (own xs a.1 r.0, each_pair_with A R S f xs a.1 r.1)
  where
    own : (ys : List X) → Each A ys → Each (R x) ys → Each (S x) ys
    own [] b k = tt
    own (y ∷ ys) b k = (f x y a.0 b.0 k.0, own ys b.1 k.1)

-- WHAT COMPLETED CALLS DO

puts_item : (done : List Call) (v : ℕ) (p : Call) → IsProduceOf done v p → is_put (item v) p ≡ true
puts_item done v p k = ap (λ op. put_one (item v) op p.reply) k.asks
    ∙ ap (put_one (item v) (Produce v)) k.returns ∙ eq-eqb v v refl

takes_item : (done : List Call) (v : ℕ) (c : Call) → IsConsumeOf done v c
    → is_take (item v) c ≡ true
takes_item done v c k = ap (λ op. took_one (item v) op c.reply) k.asks
    ∙ ap (took_one (item v) Consume) k.returns ∙ eq-eqb v v refl

module _ (n t : ℕ) (done : List Call) (pending : List PendingCall) (cs : List Call)
    (l : IsLinearOrder (IsLegalHistory (initial (Some (Buffer n)))) done pending t cs)
    (h : AreCallsOf (Buffer n) done pending t) where
  -- the items in the order in which they were put in, and those taken before a position
  abbrev items : List ℕ
  items = put_items cs

  abbrev put_before : ℕ → List ℕ
  put_before p = put_items (front p cs)

  abbrev taken : ℕ → List ℕ
  taken p = taken_items (front p cs)

  runs : (p : ℕ) → IsQueueRun n [] (front p cs)
  runs p = run_first n [] (front p cs) (back p cs) (subst (IsQueueRun n []) (front_and_back p cs)
      (queue n t done pending cs l h))

  left : (p : ℕ) → Leaves n [] (front p cs)
  left p = leaves n [] (front p cs) (omega arith) (runs p)

  put_split : (p : ℕ) → items ≡ put_before p ++ put_items (back p cs)
  put_split p = ap put_items (front_and_back p cs) ∙ put_append (front p cs) (back p cs)

  taken_split : (p : ℕ) → items ≡ taken p ++ ((left p).left ++ put_items (back p cs))
  taken_split p = put_split p ∙ ap (λ zs. zs ++ put_items (back p cs)) (left p).same
      ∙ append_assoc (taken p) (left p).left (put_items (back p cs))

  split : (test : Call → Bool) (p : ℕ)
      → count_by test cs ≡ count_by test (front p cs) + count_by test (back p cs)
  split test p = ap (count_by test) (front_and_back p cs)
      ∙ count_append test (front p cs) (back p cs)

  -- what returned before a position was before it
  returned_before : (test : Call → Bool) (p : ℕ) (c : Call) → Contains done c → test c ≡ true
      → c.last < p → 0 < count_by test (front p cs)
  returned_before test p c here passes lt =
      let both : Call → Bool = λ (d : Call). test d && nat_lt d.last p in
      omega (
        arith,
        count_some both done c here
            (and_from (test c) (nat_lt c.last p) passes (lt-ltb c.last p lt)),
        done_counted n t done pending cs l h both,
        split both p,
        count_zero both (λ (d : Call). p ≤ d.last)
            (λ d le. and_right (test d) (nat_lt d.last p) (le-ltb d.last p le)) (back p cs)
            (back_later p cs (all_last n t done pending cs l h)
            (all_keep n t done pending cs l h)),
        count_implied both test (λ d e. (and_parts (test d) (nat_lt d.last p) e).0) (front p cs),
      )

  taken_before : (v p : ℕ) → IsTakenBefore done v p → 0 < times v (taken p)
  taken_before v p k = omega (
    arith,
    count_taken (item v) (front p cs),
    returned_before (is_take (item v)) p k.call k.consume.known
        (takes_item done v k.call k.consume) k.before,
  )

  no_more_taken : (v p : ℕ) → times v (taken p) ≤ times v (put_before p)
  no_more_taken v p =
      let b = (bounded (item v) n (front p cs) (runs p)).taken in
      omega (arith, b, count_taken (item v) (front p cs), count_put (item v) (front p cs))

  in_before : (v p : ℕ) → IsInBefore done v p → 0 < times v (put_before p)
  in_before v p (inl k) = omega (
    arith,
    count_put (item v) (front p cs),
    returned_before (is_put (item v)) p k.call k.produce.known
        (puts_item done v k.call k.produce) k.before,
  )
  in_before v p (inr k) = omega (arith, taken_before v p k, no_more_taken v p)

  -- an item that is put in once
  put_once : (v : ℕ) → IsOnce done pending v → times v items ≤ 1
  put_once v once = omega (
    arith,
    once,
    count_put (item v) cs,
    counted n t done pending cs l h (is_put (item v)) (λ (o : PendingCall). produces (item v) o.op)
        (λ o x e. put_asked (item v) o.op x e),
  )

  -- is not in before its produce was invoked
  not_put_before : (v p f : ℕ) → IsOnce done pending v → IsPutInvoked done pending v f → p ≤ f
      → times v (put_before p) ≡ 0
  not_put_before v p f once invoked le =
      let test : Call → Bool = λ (c : Call). is_put (item v) c && nat_lt c.first p in
      let asked : PendingCall → Bool = λ (o : PendingCall). produces (item v) o.op
      && nat_lt o.first p in
      let bound : count_by test cs ≤ count_by test done + count_by asked pending =
      counted n t done pending cs l h test asked (λ o x e.
      (let parts = and_parts (is_put (item v) (completion t x o)) (nat_lt o.first p) e in
      and_from (produces (item v) o.op) (nat_lt o.first p)
      (put_asked (item v) o.op x parts.0) parts.1)) in
      omega (
        arith,
        count_put (item v) (front p cs),
        count_under (is_put (item v)) test (λ (c : Call). c.first < p)
            (λ c lt e. and_from (is_put (item v) c) (nat_lt c.first p) e (lt-ltb c.first p lt))
            (front p cs) (front_begun p cs),
        split test p,
        bound,
        once,
        fewer invoked,
      )
    where
      fewer : IsPutInvoked done pending v f
          → count_by (λ (c : Call). is_put (item v) c && nat_lt c.first p) done
          + count_by (λ (o : PendingCall). produces (item v) o.op && nat_lt o.first p) pending
          < count_by (is_put (item v)) done
          + count_by (λ (o : PendingCall). produces (item v) o.op) pending
      fewer (inl k) = omega (
        arith,
        count_strictly (λ (c : Call). is_put (item v) c && nat_lt c.first p) (is_put (item v))
            (λ c e. (and_parts (is_put (item v) c) (nat_lt c.first p) e).0) done k.call
            k.produce.known (and_right (is_put (item v) k.call) (nat_lt k.call.first p)
            (le-ltb k.call.first p (omega (arith, k.at, le))))
            (puts_item done v k.call k.produce),
        count_implied (λ (o : PendingCall). produces (item v) o.op && nat_lt o.first p)
            (λ (o : PendingCall). produces (item v) o.op)
            (λ o e. (and_parts (produces (item v) o.op) (nat_lt o.first p) e).0) pending,
      )
      fewer (inr k) = omega (
        arith,
        count_strictly (λ (o : PendingCall). produces (item v) o.op && nat_lt o.first p)
            (λ (o : PendingCall). produces (item v) o.op)
            (λ o e. (and_parts (produces (item v) o.op) (nat_lt o.first p) e).0) pending k.call
            k.known (and_right (produces (item v) k.call.op) (nat_lt k.call.first p)
            (le-ltb k.call.first p (omega (arith, k.at, le))))
            (ap (produces (item v)) k.asks ∙ eq-eqb v v refl),
        count_implied (λ (c : Call). is_put (item v) c && nat_lt c.first p) (is_put (item v))
            (λ c e. (and_parts (is_put (item v) c) (nat_lt c.first p) e).0) done,
      )

  taken_in_all : (v p : ℕ) → times v (taken p) + count_by (is_take (item v)) (back p cs)
      ≤ times v items
  taken_in_all v p =
      let b = (bounded (item v) n cs (queue n t done pending cs l h)).taken in
      omega (
        arith,
        b,
        split (is_take (item v)) p,
        count_taken (item v) (front p cs),
        count_put (item v) cs,
      )

  not_taken_out : (v p : ℕ) → IsOnce done pending v → IsOutFrom done pending v p
      → times v (taken p) ≡ 0
  not_taken_out v p once (inl k) =
      let test : Call → Bool = λ (c : Call). is_take (item v) c && nat_le p c.first in
      omega (
        arith,
        count_some test done k.call k.consume.known (and_from (is_take (item v) k.call)
            (nat_le p k.call.first) (takes_item done v k.call k.consume)
            (le-leb p k.call.first k.from)),
        done_counted n t done pending cs l h test,
        split test p,
        count_zero test (λ (c : Call). c.first < p)
            (λ c lt. and_right (is_take (item v) c) (nat_le p c.first) (lt-leb p c.first lt))
            (front p cs) (front_begun p cs),
        count_implied test (is_take (item v))
            (λ c e. (and_parts (is_take (item v) c) (nat_le p c.first) e).0) (back p cs),
        taken_in_all v p,
        put_once v once,
      )
  not_taken_out v p once (inr (inl k)) = omega (
    arith,
    no_more_taken v p,
    not_put_before v p k.first once k.invoked k.from,
  )
  not_taken_out v p once (inr (inr k)) = omega (
    arith,
    count_taken (item v) (front p cs),
    split (is_take (item v)) p,
    counted n t done pending cs l h (is_take (item v)) (λ (o : PendingCall). is_consume o.op)
        (λ o x e. take_asked (item v) o.op x e),
    k.untaken,
    k.none,
  )

  -- an item that was in before another one was put in stands before it
  stands_before : (z v f : ℕ) → IsOnce done pending v → IsPutInvoked done pending v f
      → IsInBefore done z f → 0 < times z (before v items)
  stands_before z v f once invoked k = omega (
    arith,
    in_before z f k,
    ap (λ zs. times z (before v zs)) (put_split f),
    ap (times z) (all_before v (put_before f) (put_items (back f cs))
        (not_put_before v f f once invoked (omega arith))),
    times_append z (put_before f) (before v (put_items (back f cs))),
  )

  -- what is before an item that was taken was taken
  before_taken : (v z p : ℕ) → 0 < times v (taken p) → times z (before v items)
      ≤ times z (taken p)
  before_taken v z p some = omega (
    arith,
    ap (λ zs. times z (before v zs)) (taken_split p),
    ap (times z) (before_in v (taken p) ((left p).left ++ put_items (back p cs)) some),
    no_more_before v z (taken p),
  )

  -- JOBS

  module _ (end : ℕ) (jobs : List Job) (are : AreJobs done pending end jobs) where
    abbrev all : ℕ
    all = count_by (λ (j : Job). true) jobs

    abbrev pub most : ℕ → ℕ
    most p = if nat_le p end then held jobs (taken p) else all

    abbrev pub rank : Job → ℕ
    rank j = held jobs (before j.item items)

    most_in : (p : ℕ) → p ≤ end → most p ≡ held jobs (taken p)
    most_in p le = ap (λ b. if b then held jobs (taken p) else all) (le-leb p end le)

    most_out : (p : ℕ) → end < p → most p ≡ all
    most_out p lt = ap (λ b. if b then held jobs (taken p) else all) (lt-leb p end lt)

    no_more : (xs : List ℕ) → held jobs xs ≤ all
    no_more xs = count_implied (λ (j : Job). holds xs j.item) (λ (j : Job). true) (λ j e. refl) jobs

    more_taken : (p q : ℕ) → p ≤ q → IsWithin (taken p) (taken q)
    more_taken p q le v some = omega (
      arith,
      some,
      count_taken (item v) (front p cs),
      count_taken (item v) (front q cs),
      front_rises (is_take (item v)) p q le cs,
    )

    rises : (p q : ℕ) → p ≤ q → most p ≤ most q
    rises p q le = elim (cases_lt end q) [
      | inr short ↦ omega (
        arith,
        most_in p (omega (arith, le, short)),
        most_in q short,
        held_within jobs (taken p) (taken q) (more_taken p q le),
      )
      | inl out ↦ elim (cases_lt end p) [
        | inl lt ↦ omega (arith, most_out p lt, most_out q out)
        | inr short ↦ omega (arith, most_in p short, most_out q out, no_more (taken p))
      ]
    ]

    not_taken : (j : Job) → IsJob done pending end j → times j.item (taken j.early) ≡ 0
    not_taken j k = own k.early
      where
        own : IsOutFrom done pending j.item j.early ⊎ IsBehind done pending j.item j.early
            → times j.item (taken j.early) ≡ 0
        own (inl out) = not_taken_out j.item j.early k.once out
        own (inr b) = elim (cases_lt 0 (times j.item (taken j.early))) [
          | inr none ↦ omega (arith, none)
          | inl some ↦ absurd (omega (
            arith,
            stands_before b.other j.item b.first k.once b.invoked b.before,
            before_taken j.item b.other j.early some,
            not_taken_out b.other j.early b.once b.out,
          ))
        ]

    starts : (p : ℕ) → most p ≤ count_by (λ (j : Job). nat_lt j.early p) jobs
    starts p = elim (cases_lt end p) [
      | inl out ↦ omega (
        arith,
        most_out p out,
        count_under (λ (j : Job). true) (λ (j : Job). nat_lt j.early p) (IsJob done pending end)
            (λ j k e. lt-ltb j.early p (omega (arith, k.within, out))) jobs are.each,
      )
      | inr le ↦ omega (
        arith,
        most_in p le,
        count_under (λ (j : Job). holds (taken p) j.item) (λ (j : Job). nat_lt j.early p)
            (IsJob done pending end) (λ j k e. elim (cases_lt j.early p) [
              | inl lt ↦ lt-ltb j.early p lt
              | inr early ↦ absurd (omega (
                arith,
                not_taken j k,
                more_taken p j.early early j.item (some_held (taken p) j.item e),
              ))
            ]) jobs are.each,
      )
    ]

    counts : AreCounts jobs most
    counts = record { rises = rises; started = starts }

    module _ (j : Job) (here : Contains jobs j) (k : IsJob done pending end j) where
      below_all : rank j < all
      below_all = count_strictly (λ (i : Job). holds (before j.item items) i.item)
          (λ (i : Job). true) (λ i e. refl) jobs j here (holds_none (before j.item items) j.item
          (not_before_itself j.item items)) refl

      reached : (p : ℕ) → 0 < times j.item (taken p) → rank j < most p
      reached p some = elim (cases_lt end p) [
        | inl out ↦ omega (arith, most_out p out, below_all)
        | inr le ↦ omega (
          arith,
          most_in p le,
          held_fewer jobs (before j.item items) (taken p)
              (λ v more. omega (arith, more, before_taken j.item v p some)) j here
              (not_before_itself j.item items) some,
        )
      ]

      early : most j.early ≤ rank j
      early = omega (
        arith,
        most_in j.early k.within,
        held_within jobs (taken j.early) (before j.item items) (λ v some. omega (
          arith,
          some,
          ap (λ zs. times v (before j.item zs)) (taken_split j.early),
          ap (times v) (all_before j.item (taken j.early)
              ((left j.early).left ++ put_items (back j.early cs)) (not_taken j k)),
          times_append v (taken j.early)
              (before j.item ((left j.early).left ++ put_items (back j.early cs))),
        )),
      )

      late : rank j < most j.late
      late = own k.late
        where
          own : IsTakenBefore done j.item j.late ⊎ IsAhead done pending j.item j.late
              ⊎ (end < j.late) → rank j < most j.late
          own (inl b) = reached j.late (taken_before j.item j.late b)
          own (inr (inl a)) = reached j.late (omega (
            arith,
            stands_before j.item a.other a.first a.once a.invoked a.before,
            before_taken a.other j.item j.late (taken_before a.other j.late a.taken),
          ))
          own (inr (inr out)) = omega (arith, most_out j.late out, below_all)

      by : rank j < most j.by + n
      by = elim (cases_lt end j.by) [
        | inl out ↦ omega (arith, most_out j.by out, below_all)
        | inr le ↦ omega (
          arith,
          most_in j.by le,
          held_fewer jobs (before j.item items) (put_before j.by) (λ v more. omega (
            arith,
            more,
            ap (λ zs. times v (before j.item zs)) (put_split j.by),
            ap (times v) (before_in j.item (put_before j.by) (put_items (back j.by cs))
                (in_before j.item j.by k.by)),
            no_more_before j.item v (put_before j.by),
          )) j here (not_before_itself j.item items) (in_before j.item j.by k.by),
          ap (held jobs) (left j.by).same,
          held_append jobs are.apart (taken j.by) (left j.by).left,
          (left j.by).fits,
        )
      ]

      timed : IsTimed n most (rank j) j
      timed = record { early = early; late = late; by = by }

      stands : 0 < times j.item items
      stands = omega (
        arith,
        in_before j.item j.by k.by,
        ap (times j.item) (put_split j.by),
        times_append j.item (put_before j.by) (put_items (back j.by cs)),
      )

    -- an item that stands before another one has a lower rank
    lower : (i j : Job) → Contains jobs i → 0 < times i.item (before j.item items)
        → rank i < rank j
    lower i j here some = held_fewer jobs (before i.item items) (before j.item items)
        (λ v more. omega (arith, more, before_before i.item j.item v items some)) i here
        (not_before_itself i.item items) some

    record IsKnown (j : Job) : Type 0 where
      here : Contains jobs j
      is : IsJob done pending end j

    known : Each IsKnown jobs
    known = each_known IsKnown jobs (λ j here. record {
      here = here;
      is = each_of (IsJob done pending end) jobs are.each j here;
    })

    apart : EachPair (λ (i j : Job). rank i ≡ rank j → ⊥) jobs
    apart = each_pair_with IsKnown (λ (i j : Job). i.item ≡ j.item → ⊥)
        (λ (i j : Job). rank i ≡ rank j → ⊥) (λ i j a b differ same.
        elim (one_is_before i.item j.item differ items (stands i a.here a.is)
        (stands j b.here b.is)) [
          | inl r ↦ absurd (omega (arith, same, lower i j a.here r))
          | inr r ↦ absurd (omega (arith, same, lower j i b.here r))
        ]) jobs known are.apart

    pub have_ranks : AreRanks n jobs most rank
    have_ranks = record {
      counts = counts;
      timed = each_weaker IsKnown (λ (j : Job). IsTimed n most (rank j) j)
          (λ j a. timed j a.here a.is) jobs known;
      apart = apart;
    }
