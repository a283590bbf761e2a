-- What was put into a queue and taken out of it.
use Rattle.std.proofs.Common.{◌≡◌, ℕ, ◌+◌, ◌≤◌, Bool, List, [], ◌∷◌, ◌++◌, length}
use Rattle.std.proofs.Common.{refl, ap, sym, ◌∙◌, arith, length-append, append_assoc}
use Rattle.std.proofs.Common.{append-nil, count_by}
use Rattle.std.proofs.lemmas.List.Sums.{count_by-le-length}
use Rattle.calls_core.specs.declared.history.Op.{Op}
use Rattle.calls_core.specs.declared.history.Op.TheVariants.{Advance, Read, Await, Ticket, P, V}
use Rattle.calls_core.specs.declared.history.Op.TheVariants.{PBoth, Put, Get, Produce, Consume}
use Rattle.calls_core.specs.declared.history.Reply.{Reply}
use Rattle.calls_core.specs.declared.history.Reply.TheVariants.{Done, Number, Timeout}
use Rattle.calls_core.specs.declared.history.Call.{Call}
use Rattle.calls_core.proofs.Counting.{one, count_cons, count_append}
use Rattle.calls_buffers.specs.Queues.{Allows, items_after, IsQueueRun}
use Rattle.calls_buffers.specs.Counts.{put_one, took_one, is_put, is_take}

abbrev pub put_by : Op → Reply → List ℕ
put_by (Produce v) Done = v ∷ []
put_by op r = []

abbrev pub taken_by : Op → Reply → List ℕ
taken_by Consume (Number v) = v ∷ []
taken_by op r = []

-- the items that were put in, in order, and those that were taken out
abbrev pub put_items : List Call → List ℕ
put_items [] = []
put_items (c ∷ cs) = put_by c.op c.reply ++ put_items cs

abbrev pub taken_items : List Call → List ℕ
taken_items [] = []
taken_items (c ∷ cs) = taken_by c.op c.reply ++ taken_items cs

pub put_append : (xs ys : List Call) → put_items (xs ++ ys) ≡ put_items xs ++ put_items ys
put_append [] ys = refl
put_append (c ∷ xs) ys = ap (λ zs. put_by c.op c.reply ++ zs) (put_append xs ys)
    ∙ sym (append_assoc (put_by c.op c.reply) (put_items xs) (put_items ys))

pub taken_append : (xs ys : List Call) → taken_items (xs ++ ys) ≡ taken_items xs ++ taken_items ys
taken_append [] ys = refl
taken_append (c ∷ xs) ys = ap (λ zs. taken_by c.op c.reply ++ zs) (taken_append xs ys)
    ∙ sym (append_assoc (taken_by c.op c.reply) (taken_items xs) (taken_items ys))

pub run_first : (n : ℕ) (items : List ℕ) (xs ys : List Call) → IsQueueRun n items (xs ++ ys)
    → IsQueueRun n items xs
run_first n items [] ys h = tt
run_first n items (c ∷ xs) ys h = (
  h.0,
  run_first n (items_after items c.op c.reply) xs ys h.1,
)

-- FIRST IN, FIRST OUT

-- the items before a call and those put in by it are those taken out by it and those after it
record Flows (n : ℕ) (items : List ℕ) (op : Op) (r : Reply) : Type 0 where
  same : items ++ put_by op r ≡ taken_by op r ++ items_after items op r
  fits : length (items_after items op r) ≤ n

flows : (n : ℕ) (items : List ℕ) (op : Op) (r : Reply) → length items ≤ n → Allows n items op r
    → Flows n items op r
flows n items (Produce v) Done le h =
    record { same = refl; fits = omega (arith, length-append items (v ∷ []), h) }
flows n items (Produce v) (Number w) le h = absurd h
flows n items (Produce v) Timeout le h = record { same = append-nil items; fits = le }
flows n [] Consume Done le h = absurd h
flows n (x ∷ items) Consume Done le h = absurd h
flows n [] Consume (Number v) le h = absurd h
flows n (x ∷ items) Consume (Number v) le h = record {
  same = append-nil (x ∷ items) ∙ ap (λ y. y ∷ items) (sym h);
  fits = omega arith;
}
flows n [] Consume Timeout le h = record { same = refl; fits = le }
flows n (x ∷ items) Consume Timeout le h = record { same = append-nil (x ∷ items); fits = le }
flows n [] Advance r le h = absurd h
flows n [] Read r le h = absurd h
flows n [] (Await v) r le h = absurd h
flows n [] Ticket r le h = absurd h
flows n [] (P i) r le h = absurd h
flows n [] (V i) r le h = absurd h
flows n [] (PBoth i j) r le h = absurd h
flows n [] (Put v) r le h = absurd h
flows n [] Get r le h = absurd h
flows n (x ∷ items) Advance r le h = absurd h
flows n (x ∷ items) Read r le h = absurd h
flows n (x ∷ items) (Await v) r le h = absurd h
flows n (x ∷ items) Ticket r le h = absurd h
flows n (x ∷ items) (P i) r le h = absurd h
flows n (x ∷ items) (V i) r le h = absurd h
flows n (x ∷ items) (PBoth i j) r le h = absurd h
flows n (x ∷ items) (Put v) r le h = absurd h
flows n (x ∷ items) Get r le h = absurd h

-- the items at first and those put in are those taken out and some that are left
pub record Leaves (n : ℕ) (items : List ℕ) (cs : List Call) : Type 0 where
  pub left : List ℕ
  pub same : items ++ put_items cs ≡ taken_items cs ++ left
  pub fits : length left ≤ n

pub leaves : (n : ℕ) (items : List ℕ) (cs : List Call) → length items ≤ n → IsQueueRun n items cs
    → Leaves n items cs
leaves n items [] le h = record { left = items; same = append-nil items; fits = le }
leaves n items (c ∷ cs) le h =
    let f = flows n items c.op c.reply le h.0 in
    let next = items_after items c.op c.reply in
    let r = leaves n next cs f.fits h.1 in
    record {
      left = r.left;
      same = sym (append_assoc items (put_by c.op c.reply) (put_items cs))
          ∙ ap (λ ys. ys ++ put_items cs) f.same
          ∙ append_assoc (taken_by c.op c.reply) next (put_items cs)
          ∙ ap (λ ys. taken_by c.op c.reply ++ ys) r.same
          ∙ sym (append_assoc (taken_by c.op c.reply) (taken_items cs) r.left);
      fits = r.fits;
    }

-- COUNTS

module _ (test : ℕ → Bool) where
  one_put : (op : Op) (r : Reply) → count_by test (put_by op r) ≡ one (put_one test op r)
  one_put (Produce v) Done = omega (arith, count_cons test v [])
  one_put (Produce v) (Number w) = refl
  one_put (Produce v) Timeout = refl
  one_put Consume r = refl
  one_put Advance r = refl
  one_put Read r = refl
  one_put (Await v) r = refl
  one_put Ticket r = refl
  one_put (P i) r = refl
  one_put (V i) r = refl
  one_put (PBoth i j) r = refl
  one_put (Put v) r = refl
  one_put Get r = refl

  one_taken : (op : Op) (r : Reply) → count_by test (taken_by op r) ≡ one (took_one test op r)
  one_taken Consume Done = refl
  one_taken Consume (Number v) = omega (arith, count_cons test v [])
  one_taken Consume Timeout = refl
  one_taken (Produce v) r = refl
  one_taken Advance r = refl
  one_taken Read r = refl
  one_taken (Await v) r = refl
  one_taken Ticket r = refl
  one_taken (P i) r = refl
  one_taken (V i) r = refl
  one_taken (PBoth i j) r = refl
  one_taken (Put v) r = refl
  one_taken Get r = refl

  pub count_put : (cs : List Call) → count_by test (put_items cs) ≡ count_by (is_put test) cs
  count_put [] = refl
  count_put (c ∷ cs) = omega (
    arith,
    count_append test (put_by c.op c.reply) (put_items cs),
    one_put c.op c.reply,
    count_put cs,
    count_cons (is_put test) c cs,
  )

  pub count_taken : (cs : List Call) → count_by test (taken_items cs) ≡ count_by (is_take test) cs
  count_taken [] = refl
  count_taken (c ∷ cs) = omega (
    arith,
    count_append test (taken_by c.op c.reply) (taken_items cs),
    one_taken c.op c.reply,
    count_taken cs,
    count_cons (is_take test) c cs,
  )

  -- no more was taken out than was put in, and no more than n is left
  pub record IsBounded (n : ℕ) (cs : List Call) : Type 0 where
    pub taken : count_by (is_take test) cs ≤ count_by (is_put test) cs
    pub left : count_by (is_put test) cs ≤ count_by (is_take test) cs + n

  pub bounded : (n : ℕ) (cs : List Call) → IsQueueRun n [] cs → IsBounded n cs
  bounded n cs h =
      let r = leaves n [] cs (omega arith) h in
      let all = ap (count_by test) r.same in
      let split = count_append test (taken_items cs) r.left in
      let some = count_by-le-length test r.left in
      let short = r.fits in
      record {
        taken = omega (arith, all, split, count_put cs, count_taken cs);
        left = omega (arith, all, split, some, short, count_put cs, count_taken cs);
      }
