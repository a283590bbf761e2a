-- What new numbers for values leave unchanged.
use Rattle.std.proofs.Common.{◌≡◌, ℕ, ◌+◌, ◌-◌, ◌<◌, ◌≤◌, Bool, true, false, ◌==◌, cond, List, []}
use Rattle.std.proofs.Common.{◌∷◌, ◌++◌, map, Option, Some, None, refl, ap, sym, ◌∙◌, arith, subst}
use Rattle.std.proofs.Common.{slice_get}
use Rattle.std.specs.List.{AllPairs}
use Rattle.std.specs.List.Sorted.{IsPermutation}
use Rattle.std.proofs.lemmas.Bool.{eqb-true}
use Rattle.std.proofs.lemmas.List.{map-append}
use Rattle.std.proofs.lemmas.List.Sorted.{All-permutation, IsPermutation-map, IsPermutation-sym}
use Rattle.calls_core.specs.declared.history.Kind.{Kind}
use Rattle.calls_core.specs.declared.history.Kind.TheVariants.{Eventcount, Sequencer, Semaphores}
use Rattle.calls_core.specs.declared.history.Kind.TheVariants.{Cell, Database, Buffer}
use Rattle.calls_core.specs.declared.history.Op.{Op}
use Rattle.calls_core.specs.declared.history.Op.TheVariants.{Advance, Read, Await, Ticket, P, V}
use Rattle.calls_core.specs.declared.history.Op.TheVariants.{PBoth, Put, Get, Produce, Consume}
use Rattle.calls_core.specs.declared.history.Reply.{Reply}
use Rattle.calls_core.specs.declared.history.Reply.TheVariants.{Done, Number, Timeout}
use Rattle.calls_core.specs.declared.history.Action.{Action}
use Rattle.calls_core.specs.declared.history.Action.TheVariants.{Invoke, Respond}
use Rattle.calls_core.specs.declared.history.Event.{Event}
use Rattle.calls_core.specs.declared.history.PendingCall.{PendingCall}
use Rattle.calls_core.specs.declared.history.Call.{Call}
use Rattle.calls_core.specs.Lists.{Each, EachPair}
use Rattle.calls_core.specs.Histories.{clock, pending_of, without, invoked_by, pending_after}
use Rattle.calls_core.specs.Histories.{pending_calls, completion, ended_call, completed_calls}
use Rattle.calls_core.specs.Histories.{Takes, Suits, IsNext, IsHistory}
use Rattle.calls_core.specs.Linearizations.{Gives, after, set_at, initial, start, IsRun, KeepsOrder}
use Rattle.calls_core.specs.Linearizations.{answered_one, answered_calls, IsLinearOrder}
use Rattle.calls_core.specs.Linearizations.{IsAnsweredLinearization}
use Rattle.calls_core.specs.Completions.{IsLinearizable, known_at}
use Rattle.calls_core.specs.Calls.{Earlier, Fitting, IsCompletedCall, AreCalls}
use Rattle.calls_core.proofs.Lists.{each_weaker, each_append, each_map, each_pair_map}
use Rattle.calls_core.proofs.Lists.{all_from_each, all_pairs_from_each}
use Rattle.calls_core.proofs.Filters.{each_from_all}
use Rattle.calls_core.proofs.Positions.{histories_have_calls}
use Rattle.calls_core.proofs.Settling.{each_pair_from_all}
use Rattle.calls_core.proofs.Beginnings.{changed, changed_head}
use Rattle.calls_local.specs.Renamings.{IsNaming, renamed_op, renamed_reply, renamed_action}
use Rattle.calls_local.specs.Renamings.{rename_values, NumbersAreNames}
use Rattle.calls_local.proofs.Completing.{responses_become_answers}
use Rattle.calls_local.proofs.Responding.{unmapped, answers_become_responses}

-- STATES

abbrev pub stores : Op → Bool
stores (Put v) = true
stores Get = true
stores op = false

abbrev pub is_store : Option Kind → Bool
is_store (Some Cell) = true
is_store (Some (Database n)) = true
is_store kind = false

takes_store : (kind : Option Kind) (op : Op) → Takes kind op → is_store kind ≡ stores op
takes_store (Some Cell) (Put v) h = refl
takes_store (Some Cell) Get h = refl
takes_store (Some (Database n)) (Put v) h = refl
takes_store (Some (Database n)) Get h = refl
takes_store (Some (Eventcount n)) Advance h = refl
takes_store (Some (Eventcount n)) Read h = refl
takes_store (Some (Eventcount n)) (Await v) h = refl
takes_store (Some Sequencer) Ticket h = refl
takes_store (Some (Semaphores units)) (P i) h = refl
takes_store (Some (Semaphores units)) (V i) h = refl
takes_store (Some (Semaphores units)) (PBoth i j) h = refl
takes_store (Some (Buffer n)) (Produce v) h = refl
takes_store (Some (Buffer n)) Consume h = refl
takes_store kind op h = absurd h

-- the numbers n of an object whose values are renamed, if it had m
abbrev pub Match : (ℕ → ℕ) → Bool → (ℕ → ℕ) → (ℕ → ℕ) → Type 0
Match g true m n = n 0 ≡ g (m 0)
Match g false m n = (i : ℕ) → n i ≡ m i

gives_same : (m n : ℕ → ℕ) (op : Op) (r : Reply) → ((i : ℕ) → n i ≡ m i) → Gives m op r
    → Gives n op r
gives_same m n Advance r e g = g
gives_same m n Read r e g = g ∙ ap Number (sym (e 0))
gives_same m n (Await v) Done e g = (let le : v ≤ m 0 = g in omega (arith, e 0))
gives_same m n (Await v) (Number k) e g = (
  (let le : v ≤ m 0 = g.0 in omega (arith, e 0)),
  g.1 ∙ sym
      (e 0),
)
gives_same m n (Await v) Timeout e g = (let lt : m 0 < v = g in omega (arith, e 0))
gives_same m n Ticket r e g = g ∙ ap Number (sym (e 0))
gives_same m n (P i) Done e g = (let lt : 0 < m i = g in omega (arith, e i))
gives_same m n (P i) (Number k) e g = g
gives_same m n (P i) Timeout e g = tt
gives_same m n (V i) r e g = g
gives_same m n (PBoth i j) Done e g = (let a : 0 < m i = g.0 in let b : 0 < m j = g.1 in
    (omega (arith, e i), omega (arith, e j)))
gives_same m n (PBoth i j) (Number k) e g = g
gives_same m n (PBoth i j) Timeout e g = tt
gives_same m n (Put v) r e g = g
gives_same m n Get r e g = g ∙ ap Number (sym (e 0))
gives_same m n (Produce v) Done e g = (let lt : m 2 < m 1 + m 0 = g in
    omega (arith, e 0, e 1, e 2))
gives_same m n (Produce v) (Number k) e g = g
gives_same m n (Produce v) Timeout e g = tt
gives_same m n Consume Done e g = g
gives_same m n Consume (Number k) e g = (
  (let lt : m 1 < m 2 = g.0 in omega (arith, e 1, e 2)),
  g.1 ∙ sym (e (3 + m 1)) ∙ ap (λ i. n (3 + i)) (sym (e 1)),
)
gives_same m n Consume Timeout e g = tt

set_same : (i x y : ℕ) (m n : ℕ → ℕ) → y ≡ x → ((j : ℕ) → n j ≡ m j) → (j : ℕ)
    → set_at i y n j ≡ set_at i x m j
set_same i x y m n same e j = elim (i == j) as (λ b. cond b y (n j) ≡ cond b x (m j)) [
  | true ↦
      same
  | false ↦ e j
]

put_same : (v : ℕ) (m n : ℕ → ℕ) → ((j : ℕ) → n j ≡ m j) → (j : ℕ)
    → set_at 2 (n 2 + 1) (set_at (3 + n 2) v n) j ≡ set_at 2 (m 2 + 1) (set_at (3 + m 2) v m) j
put_same v m n e j =
    ap (λ k. set_at 2 (k + 1) (set_at (3 + k) v n) j) (e 2)
    ∙ set_same 2 (m 2 + 1) (m 2 + 1) (set_at (3 + m 2) v m) (set_at (3 + m 2) v n) refl
    (set_same (3 + m 2) v v m n refl e) j

after_same : (m n : ℕ → ℕ) (op : Op) (r : Reply) → ((i : ℕ) → n i ≡ m i) → (j : ℕ)
    → after n op r j ≡ after m op r j
after_same m n Advance r e = set_same 0 (m 0 + 1) (n 0 + 1) m n (ap (λ k. k + 1) (e 0)) e
after_same m n Ticket r e = set_same 0 (m 0 + 1) (n 0 + 1) m n (ap (λ k. k + 1) (e 0)) e
after_same m n (P i) Done e = set_same i (m i - 1) (n i - 1) m n (ap (λ k. k - 1) (e i)) e
after_same m n (V i) r e = set_same i (m i + 1) (n i + 1) m n (ap (λ k. k + 1) (e i)) e
after_same m n (PBoth i j) Done e =
    set_same i (m i - 1) (n i - 1) (set_at j (m j - 1) m) (set_at j (n j - 1) n)
    (ap (λ k. k - 1) (e i)) (set_same j (m j - 1) (n j - 1) m n (ap (λ k. k - 1) (e j)) e)
after_same m n (Put v) r e = set_same 0 v v m n refl e
after_same m n (Produce v) Done e = put_same v m n e
after_same m n Consume (Number i) e = set_same 1 (m 1 + 1) (n 1 + 1) m n (ap (λ k. k + 1) (e 1)) e
after_same m n op r e = e

module _ (g : ℕ → ℕ) (m n : ℕ → ℕ) where
  gives_renamed : (op : Op) (r : Reply) → Match g (stores op) m n → Gives m op r
      → Gives n (renamed_op g op) (renamed_reply g op r)
  gives_renamed (Put v) r e h = h
  gives_renamed Get r e h = ap (renamed_reply g Get) h ∙ ap Number (sym e)
  gives_renamed op r e h = gives_same m n op r e h

  after_renamed : (op : Op) (r : Reply) → Match g (stores op) m n
      → Match g (stores op) (after m op r) (after n (renamed_op g op) (renamed_reply g op r))
  after_renamed (Put v) r e = refl
  after_renamed Get r e = e
  after_renamed op r e = after_same m n op r e

  gives_back : (op : Op) (q : Reply) → Match g (stores op) m n → Gives n (renamed_op g op) q
      → (r : Reply) × (renamed_reply g op r ≡ q) × Gives m op r
  gives_back (Put v) q e h = (q, refl, h)
  gives_back Get q e h = (Number (m 0), ap Number (sym e) ∙ sym h, refl)
  gives_back op q e h = (q, refl, gives_same n m op q (λ i. sym (e i)) h)

initial_match : (kind : Option Kind) (g : ℕ → ℕ) → g 0 ≡ 0 → Match g (is_store kind) (initial kind)
    (initial kind)
initial_match (Some Cell) g e = sym e
initial_match (Some (Database n)) g e = sym e
initial_match kind g e = λ i. refl

-- CALLS

module _ (f : ℕ → ℕ → ℕ) where
  abbrev pub renamed_pending : PendingCall → PendingCall
  renamed_pending o = record {
    worker = o.worker;
    object = o.object;
    op =
        renamed_op (f o.object) o.op;
    first = o.first;
  }

  abbrev pub renamed_call : Call → Call
  renamed_call c = record {
    worker = c.worker;
    object = c.object;
    op = renamed_op (f c.object) c.op;
    reply = renamed_reply (f c.object) c.op c.reply;
    first = c.first;
    last = c.last;
  }

-- LEGAL SEQUENTIAL HISTORIES

module _ (kinds : List Kind) (f : ℕ → ℕ → ℕ) where
  abbrev Fits : Call → Type 0
  Fits c = Takes (slice_get kinds c.object) c.op

  abbrev Matched : (ℕ → ℕ → ℕ) → (ℕ → ℕ → ℕ) → Type 0
  Matched s u = (k : ℕ) → Match (f k) (is_store (slice_get kinds k)) (s k) (u k)

  own_match : (s u : ℕ → ℕ → ℕ) (o : ℕ) (op : Op) → Takes (slice_get kinds o) op → Matched s u
      → Match (f o) (stores op) (s o) (u o)
  own_match s u o op fits h = subst (λ b. Match (f o) b (s o) (u o))
      (takes_store (slice_get kinds o) op fits) (h o)

  matched_next : (s u : ℕ → ℕ → ℕ) (o : ℕ) (op : Op) (r : Reply) → Takes (slice_get kinds o) op
      → Matched s u
      → Matched (set_at o (after (s o) op r) s) (set_at o (after (u o) (renamed_op (f o) op)
      (renamed_reply (f o) op r)) u)
  matched_next s u o op r fits h = λ k.
      elim (o == k) as (λ b. (o == k) ≡ b → Match (f k) (is_store (slice_get kinds k))
      (cond b (after (s o) op r) (s k)) (cond b (after (u o) (renamed_op (f o) op)
      (renamed_reply (f o) op r)) (u k))) [
        | true ↦ λ e. subst (λ j. Match (f j) (is_store (slice_get kinds j)) (after (s o) op r)
            (after (u o) (renamed_op (f o) op) (renamed_reply (f o) op r))) (eqb-true o k e) here
        | false ↦ λ e. h k
      ] refl
    where
      here : Match (f o) (is_store (slice_get kinds o)) (after (s o) op r)
          (after (u o) (renamed_op (f o) op) (renamed_reply (f o) op r))
      here = subst (λ b. Match (f o) b (after (s o) op r) (after (u o) (renamed_op (f o) op)
          (renamed_reply (f o) op r))) (sym (takes_store (slice_get kinds o) op fits))
          (after_renamed (f o) (s o) (u o) op r (own_match s u o op fits h))

  run_renamed : (s u : ℕ → ℕ → ℕ) (cs : List Call) → Each Fits cs → Matched s u → IsRun s cs
      → IsRun u (map (renamed_call f) cs)
  run_renamed s u [] fits m h = tt
  run_renamed s u (c ∷ cs) fits m h =
      let o = c.object in (
        gives_renamed (f o) (s o) (u o) c.op c.reply (own_match s u o c.op fits.0 m) h.0,
        run_renamed (set_at o (after (s o) c.op c.reply) s)
            (set_at o (after (u o) (renamed_op (f o) c.op) (renamed_reply (f o) c.op c.reply)) u) cs
            fits.1 (matched_next s u o c.op c.reply fits.0 m) h.1,
      )

  -- the operation of d is a renamed one, of its object
  abbrev IsRenamed : Call → Type 0
  IsRenamed d = (op : Op) × (renamed_op (f d.object) op ≡ d.op)
      × Takes (slice_get kinds d.object) op

  run_back : (s u : ℕ → ℕ → ℕ) (ds : List Call) → Each IsRenamed ds → Matched s u → IsRun u ds
      → (cs : List Call) × (map (renamed_call f) cs ≡ ds) × IsRun s cs
  run_back s u [] was m h = ([], refl, tt)
  run_back s u (d ∷ ds) was m h =
      let o = d.object in
      let op = was.0.0 in
      let fits = was.0.2 in
      let b = gives_back (f o) (s o) (u o) op d.reply (own_match s u o op fits m)
      (subst (λ p. Gives (u o) p d.reply) (sym was.0.1) h.0) in
      let c : Call = record {
        worker = d.worker;
        object = o;
        op = op;
        reply = b.0;
        first = d.first;
        last = d.last;
      } in
      let same : renamed_call f c ≡ d =
      ap (λ p. record {
        worker = d.worker;
        object = o;
        op = p;
        reply = renamed_reply (f o) op b.0;
        first = d.first;
        last = d.last;
      }) was.0.1
      ∙ ap (λ q. record {
        worker = d.worker;
        object = o;
        op = d.op;
        reply = q;
        first = d.first;
        last = d.last;
      }) b.1 in
      let next : Matched (set_at o (after (s o) op b.0) s) (set_at o (after (u o) d.op d.reply) u) =
      subst (λ p. Matched (set_at o (after (s o) op b.0) s) (set_at o (after (u o) p d.reply) u))
      was.0.1
      (subst (λ q. Matched (set_at o (after (s o) op b.0) s)
      (set_at o (after (u o) (renamed_op (f o) op) q) u)) b.1
      (matched_next s u o op b.0 fits m)) in
      let r = run_back (set_at o (after (s o) op b.0) s) (set_at o (after (u o) d.op d.reply) u) ds
      was.1 next h.1 in
      (c ∷ r.0, ap (λ z. z ∷ map (renamed_call f) r.0) same ∙ ap (λ zs. d ∷ zs) r.1, (b.2, r.2))

-- RENAMING IS ONE TO ONE

same_op : (g : ℕ → ℕ) → ((u v : ℕ) → g u ≡ g v → u ≡ v) → (op other : Op)
    → renamed_op g op ≡ renamed_op g other → op ≡ other
same_op g h (Put u) (Put v) e = ap Put (h u v (let same : g u ≡ g v = cc in same))
same_op g h (Put u) other e = cc
same_op g h op (Put v) e = cc
same_op g h op other e = e

same_reply : (g : ℕ → ℕ) → ((u v : ℕ) → g u ≡ g v → u ≡ v) → (op : Op) (r q : Reply)
    → renamed_reply g op r ≡ renamed_reply g op q → r ≡ q
same_reply g h Get (Number u) (Number v) e = ap Number (h u v (let same : g u ≡ g v = cc in same))
same_reply g h Get (Number u) q e = cc
same_reply g h Get r (Number v) e = cc
same_reply g h Get r q e = e
same_reply g h op r q e = e

same_fields : (c d : Call) → c.worker ≡ d.worker → c.object ≡ d.object → c.op ≡ d.op
    → c.reply ≡ d.reply → c.first ≡ d.first → c.last ≡ d.last → c ≡ d
same_fields c d worker object op reply first last =
    ap (λ w. record {
      worker = w;
      object = c.object;
      op = c.op;
      reply = c.reply;
      first = c.first;
      last = c.last;
    }) worker
    ∙ ap (λ k. record {
      worker = d.worker;
      object = k;
      op = c.op;
      reply = c.reply;
      first = c.first;
      last = c.last;
    }) object
    ∙ ap (λ p. record {
      worker = d.worker;
      object = d.object;
      op = p;
      reply = c.reply;
      first =
          c.first;
      last = c.last;
    }) op
    ∙ ap (λ r. record {
      worker = d.worker;
      object = d.object;
      op = d.op;
      reply = r;
      first = c.first;
      last = c.last;
    }) reply
    ∙ ap (λ n. record {
      worker = d.worker;
      object = d.object;
      op = d.op;
      reply = d.reply;
      first = n;
      last = c.last;
    }) first
    ∙ ap (λ n. record {
      worker = d.worker;
      object = d.object;
      op = d.op;
      reply = d.reply;
      first =
          d.first;
      last = n;
    }) last

module _ (f : ℕ → ℕ → ℕ) (naming : IsNaming f) where
  op_of : (k j : ℕ) (op other : Op) → k ≡ j → renamed_op (f k) op ≡ renamed_op (f j) other
      → op ≡ other
  op_of k j op other e is = same_op (f j) (naming.one_to_one j) op other
      (subst (λ i. renamed_op (f i) op ≡ renamed_op (f j) other) e is)

  same_call : (c d : Call) → renamed_call f c ≡ renamed_call f d → c ≡ d
  same_call c d e =
      let object : c.object ≡ d.object = ap (λ (z : Call). z.object) e in
      let op : c.op ≡ d.op = op_of c.object d.object c.op d.op object (ap (λ (z : Call). z.op) e) in
      let reply : c.reply ≡ d.reply = same_reply (f d.object) (naming.one_to_one d.object) d.op
      c.reply d.reply
      (subst (λ i. renamed_reply (f i) d.op c.reply ≡ renamed_reply (f d.object) d.op d.reply)
      object (subst (λ p. renamed_reply (f c.object) p c.reply ≡ renamed_reply
      (f d.object) d.op d.reply) op (ap (λ (z : Call). z.reply) e))) in
      same_fields c d (ap (λ (z : Call). z.worker) e) object op reply (ap (λ (z : Call). z.first) e)
      (ap (λ (z : Call). z.last) e)

  same_calls : (cs ds : List Call) → map (renamed_call f) cs ≡ map (renamed_call f) ds → cs ≡ ds
  same_calls [] [] e = refl
  same_calls [] (d ∷ ds) e = cc
  same_calls (c ∷ cs) [] e = cc
  same_calls (c ∷ cs) (d ∷ ds) e =
      (let head : renamed_call f c ≡ renamed_call f d = cc in
      let tail : map (renamed_call f) cs ≡ map (renamed_call f) ds = cc in
      ap (λ z. z ∷ cs) (same_call c d head) ∙ ap (λ zs. d ∷ zs) (same_calls cs ds tail))

  -- ANSWERS

  abbrev renamed_answer : PendingCall → Option Reply → Option Reply
  renamed_answer o None = None
  renamed_answer o (Some r) = Some (renamed_reply (f o.object) o.op r)

  one_renamed : (t : ℕ) (o : PendingCall) (z : Option Reply) (xs ys : List Call)
      → xs ≡ map (renamed_call f) ys → answered_one t (renamed_pending f o) (renamed_answer o z)
      ++ xs ≡ map (renamed_call f) (answered_one t o z ++ ys)
  one_renamed t o None xs ys e = e
  one_renamed t o (Some r) xs ys e = ap (λ zs. renamed_call f (completion t r o) ∷ zs) e

  rises_renamed : (o : PendingCall) (os : List PendingCall) → Each (Earlier o) os
      → Each (Earlier (renamed_pending f o)) (map (renamed_pending f) os)
  rises_renamed o os h = each_map (renamed_pending f) (Earlier (renamed_pending f o)) os h

  answers_renamed : (t : ℕ) (answer : PendingCall → Option Reply) (os : List PendingCall)
      → EachPair Earlier os
      → (a : PendingCall → Option Reply) × (answered_calls t a (map (renamed_pending f) os) ≡ map
      (renamed_call f) (answered_calls t answer os))
  answers_renamed t answer [] h = (answer, refl)
  answers_renamed t answer (o ∷ os) h =
      let r = answers_renamed t answer os h.1 in
      let z = renamed_answer o (answer o) in (
        changed (renamed_pending f o) z r.0,
        changed_head (renamed_pending f o) z r.0 t (map (renamed_pending f) os)
            (rises_renamed o os h.0)
            ∙ one_renamed t o (answer o) (answered_calls t r.0 (map (renamed_pending f) os))
            (answered_calls t answer os) r.1,
      )

  -- an answered call that is a renamed one
  same_completion : (t : ℕ) (o : PendingCall) (q : Reply) (u : Call)
      → renamed_call f u ≡ completion t q (renamed_pending f o) → completion t u.reply o ≡ u
  same_completion t o q u e =
      let object : u.object ≡ o.object = ap (λ (z : Call). z.object) e in
      let op : u.op ≡ o.op = op_of u.object o.object u.op o.op object (ap (λ (z : Call). z.op) e) in
      sym (same_fields u (completion t u.reply o) (ap (λ (z : Call). z.worker) e) object op refl
      (ap (λ (z : Call). z.first) e) (ap (λ (z : Call). z.last) e))

  answers_back : (t : ℕ) (answer : PendingCall → Option Reply) (os : List PendingCall)
      (us : List Call) → EachPair Earlier os → map (renamed_call f) us ≡ answered_calls t answer
      (map (renamed_pending f) os)
      → (a : PendingCall → Option Reply) × (answered_calls t a os ≡ us)
  answers_back t answer [] [] h e = (answer, refl)
  answers_back t answer [] (u ∷ us) h e = cc
  answers_back t answer (o ∷ os) us h e = by_answer (λ vs is. answers_back t answer os vs h.1 is)
      (answer (renamed_pending f o)) us e
    where
      by_answer : ((vs : List Call) → map (renamed_call f) vs ≡ answered_calls t answer
          (map (renamed_pending f) os) → (a : PendingCall → Option Reply)
          × (answered_calls t a os ≡ vs)) → (z : Option Reply) (vs : List Call)
          → map (renamed_call f) vs ≡ answered_one t (renamed_pending f o) z
          ++ answered_calls t answer (map (renamed_pending f) os)
          → (a : PendingCall → Option Reply) × (answered_calls t a (o ∷ os) ≡ vs)
      by_answer ih None vs is = (let r = ih vs is in (
        changed o None r.0,
        changed_head o None r.0 t
            os h.0 ∙ r.1,
      ))
      by_answer ih (Some q) [] is = cc
      by_answer ih (Some q) (v ∷ vs) is =
          (let head : renamed_call f v ≡ completion t q (renamed_pending f o) = cc in
          let tail : map (renamed_call f) vs ≡ answered_calls t answer (map (renamed_pending f) os)
          = cc in
          let r = ih vs tail in (
            changed o (Some v.reply) r.0,
            changed_head o (Some v.reply) r.0 t os h.0 ∙ ap (λ zs.
                completion t v.reply o ∷ zs) r.1 ∙ ap (λ z. z ∷ vs) (same_completion t o q v head),
          ))

  -- ORDERS

  cut_map : (xs ys : List Call) (zs : List Call) → map (renamed_call f) zs ≡ xs ++ ys
      → (us : List Call) × (vs : List Call) × (zs ≡ us ++ vs) × (map (renamed_call f) us ≡ xs)
      × (map (renamed_call f) vs ≡ ys)
  cut_map [] ys zs e = ([], zs, refl, refl, e)
  cut_map (x ∷ xs) ys [] e = cc
  cut_map (x ∷ xs) ys (z ∷ zs) e =
      (let head : renamed_call f z ≡ x = cc in
      let tail : map (renamed_call f) zs ≡ xs ++ ys = cc in
      let r = cut_map xs ys zs tail in (
        z ∷ r.0,
        r.1,
        ap (λ ws. z ∷ ws) r.2,
        ap (λ w. w ∷ map (renamed_call f) r.0) head ∙ ap (λ ws.
            x ∷ ws) r.3,
        r.4,
      ))

  joined : (zs us vs xs ys : List Call) → zs ≡ us ++ vs → xs ≡ us → vs ≡ ys → zs ≡ xs ++ ys
  joined zs us vs xs ys e first rest = e ∙ ap (λ ws. us ++ ws) rest ∙ ap (λ ws.
      ws ++ ys) (sym first)

  pairs_back : (cs : List Call) → EachPair KeepsOrder (map (renamed_call f) cs)
      → EachPair KeepsOrder cs
  pairs_back [] h = tt
  pairs_back (c ∷ cs) h = (one cs h.0, pairs_back cs h.1)
    where
      one : (ds : List Call) → Each (KeepsOrder (renamed_call f c)) (map (renamed_call f) ds)
          → Each (KeepsOrder c) ds
      one [] k = tt
      one (d ∷ ds) k = (k.0, one ds k.1)

  once_back : (cs ys xs : List Call) → ys ≡ xs → IsPermutation cs ys → IsPermutation xs cs
  once_back cs ys xs e moved = IsPermutation-sym cs xs (subst (IsPermutation cs) e moved)

  order_kept : (cs ds : List Call) → map (renamed_call f) cs ≡ ds → AllPairs KeepsOrder ds
      → AllPairs KeepsOrder cs
  order_kept cs ds e h = all_pairs_from_each KeepsOrder cs
      (pairs_back cs (subst (EachPair KeepsOrder) (sym e) (each_pair_from_all KeepsOrder ds h)))

  module _ (kinds : List Kind) (done : List Call) (pending : List PendingCall) (t : ℕ)
      (h : AreCalls kinds done pending t) where
    started : Matched kinds f (start kinds) (start kinds)
    started = λ k. initial_match (slice_get kinds k) (f k) (naming.first k)

    fits_answered : (a : PendingCall → Option Reply) (os : List PendingCall)
        → Each (Fitting kinds) os → Each (Fits kinds f) (answered_calls t a os)
    fits_answered a [] k = tt
    fits_answered a (o ∷ os) k = each_append (Fits kinds f) (answered_one t o (a o))
        (answered_calls t a os) (one (a o)) (fits_answered a os k.1)
      where
        one : (z : Option Reply) → Each (Fits kinds f) (answered_one t o z)
        one None = tt
        one (Some r) = (k.0, tt)

    renamed_answered : (a : PendingCall → Option Reply) (os : List PendingCall)
        → Each (Fitting kinds) os → Each (IsRenamed kinds f)
        (answered_calls t a (map (renamed_pending f) os))
    renamed_answered a [] k = tt
    renamed_answered a (o ∷ os) k =
        each_append (IsRenamed kinds f) (answered_one t (renamed_pending f o)
        (a (renamed_pending f o))) (answered_calls t a (map (renamed_pending f) os))
        (one (a (renamed_pending f o))) (renamed_answered a os k.1)
      where
        one : (z : Option Reply) → Each (IsRenamed kinds f) (answered_one t (renamed_pending f o) z)
        one None = tt
        one (Some r) = ((o.op, refl, k.0), tt)

    pub order_renamed : (cs : List Call) → IsLinearOrder (IsRun (start kinds)) done pending t cs
        → IsLinearOrder (IsRun (start kinds)) (map (renamed_call f) done)
        (map (renamed_pending f) pending) t (map (renamed_call f) cs)
    order_renamed cs l =
        let a = answers_renamed t l.answer pending h.pending_calls.rises in
        let all = answered_calls t l.answer pending ++ done in
        let same : map (renamed_call f) all ≡ answered_calls t a.0 (map (renamed_pending f) pending)
        ++ map (renamed_call f) done =
        map-append (renamed_call f) (answered_calls t l.answer pending) done ∙ ap (λ zs.
        zs ++ map (renamed_call f) done) (sym a.1) in
        let fits : Each (Fits kinds f) cs = each_from_all (Fits kinds f) cs
        (All-permutation (Fits kinds f) all cs l.each_once (all_from_each (Fits kinds f) all
        (each_append (Fits kinds f) (answered_calls t l.answer pending) done
        (fits_answered l.answer pending h.pending_calls.fits)
        (each_weaker (IsCompletedCall kinds t) (Fits kinds f) (λ c k.
        k.fits) done h.completed_calls.completed)))) in
        record {
          answer = a.0;
          each_once = subst (λ zs. IsPermutation zs (map (renamed_call f) cs)) same
              (IsPermutation-map (renamed_call f) all cs l.each_once);
          in_order = all_pairs_from_each KeepsOrder (map (renamed_call f) cs)
              (each_pair_map (renamed_call f) KeepsOrder cs
              (each_pair_from_all KeepsOrder cs l.in_order));
          run = run_renamed kinds f (start kinds) (start kinds) cs fits started l.run;
        }

    pub order_back : (ds : List Call) → IsLinearOrder (IsRun (start kinds))
        (map (renamed_call f) done) (map (renamed_pending f) pending) t ds → (cs : List Call)
        × IsLinearOrder (IsRun (start kinds)) done pending t cs
    order_back ds l =
        let answered = answered_calls t l.answer (map (renamed_pending f) pending) in
        let all = answered ++ map (renamed_call f) done in
        let was : Each (IsRenamed kinds f) ds = each_from_all (IsRenamed kinds f) ds
        (All-permutation (IsRenamed kinds f) all ds l.each_once
        (all_from_each (IsRenamed kinds f) all
        (each_append (IsRenamed kinds f) answered (map (renamed_call f) done)
        (renamed_answered l.answer pending h.pending_calls.fits)
        (each_map (renamed_call f) (IsRenamed kinds f) done (each_weaker (IsCompletedCall kinds t)
        (λ (c : Call). IsRenamed kinds f (renamed_call f c)) (λ c k.
        (c.op, refl, k.fits)) done h.completed_calls.completed))))) in
        let r = run_back kinds f (start kinds) (start kinds) ds was started l.run in
        let moved = unmapped (renamed_call f) ds all (IsPermutation-sym all ds l.each_once) r.0 r.1
        in
        let cut = cut_map answered (map (renamed_call f) done) moved.ys moved.is in
        let rest : cut.1 ≡ done = same_calls cut.1 done cut.4 in
        let a = answers_back t l.answer pending cut.0 h.pending_calls.rises cut.3 in
        let same : moved.ys ≡ answered_calls t a.0 pending ++ done =
        joined moved.ys cut.0 cut.1 (answered_calls t a.0 pending) done cut.2 a.1 rest in (
          r.0,
          record {
            answer = a.0;
            each_once = once_back r.0 moved.ys (answered_calls t a.0 pending ++ done) same
                moved.moved;
            in_order = order_kept r.0 ds r.1 l.in_order;
            run = r.2;
          },
        )

-- HISTORIES

takes_renamed : (g : ℕ → ℕ) (kind : Option Kind) (op : Op) → Takes kind op
    → Takes kind (renamed_op g op)
takes_renamed g (Some Cell) (Put v) h = tt
takes_renamed g (Some (Database n)) (Put v) h = tt
takes_renamed g kind (Put v) h = h
takes_renamed g kind op h = h

suits_renamed : (g : ℕ → ℕ) (op : Op) (r : Reply) → Suits op r
    → Suits (renamed_op g op) (renamed_reply g op r)
suits_renamed g (Put v) Done h = tt
suits_renamed g (Put v) r h = absurd h
suits_renamed g Get (Number n) h = tt
suits_renamed g Get r h = absurd h
suits_renamed g op r h = h

module _ (f : ℕ → ℕ → ℕ) where
  abbrev renamed_some : Option PendingCall → Option PendingCall
  renamed_some None = None
  renamed_some (Some o) = Some (renamed_pending f o)

  pending_of_renamed : (w : ℕ) (os : List PendingCall) → pending_of w (map (renamed_pending f) os)
      ≡ renamed_some (pending_of w os)
  pending_of_renamed w [] = refl
  pending_of_renamed w (o ∷ os) =
      elim (o.worker == w) as (λ b. cond b (Some (renamed_pending f o))
      (pending_of w (map (renamed_pending f) os)) ≡ renamed_some
      (cond b (Some o) (pending_of w os))) [ true ↦ refl | false ↦ pending_of_renamed w os ]

  without_renamed : (w : ℕ) (os : List PendingCall) → without w (map (renamed_pending f) os) ≡ map
      (renamed_pending f) (without w os)
  without_renamed w [] = refl
  without_renamed w (o ∷ os) =
      elim (o.worker == w) as (λ b. cond b (map (renamed_pending f) os)
      (renamed_pending f o ∷ without w (map (renamed_pending f) os)) ≡ map (renamed_pending f)
      (cond b os (o ∷ without w os))) [
        | true ↦ refl
        | false ↦ ap (λ zs. renamed_pending f o ∷ zs) (without_renamed w os)
      ]

  abbrev renamed_event : Event → Option PendingCall → Event
  renamed_event x o = record { at = x.at; worker = x.worker; action = renamed_action f x.action o }

  pending_step : (x y : Event) (action : Action) (o : Option PendingCall) (os : List PendingCall)
      → y.worker ≡ x.worker → y.at ≡ x.at → pending_after y (renamed_action f action o)
      (map (renamed_pending f) os) ≡ map (renamed_pending f) (pending_after x action os)
  pending_step x y (Invoke k op) o os w at =
      ap (λ v. map (renamed_pending f) os ++ record {
        worker = v;
        object = k;
        op =
            renamed_op (f k) op;
        first = y.at;
      } ∷ []) w
      ∙ ap (λ n. map (renamed_pending f) os ++ record {
        worker = x.worker;
        object = k;
        op =
            renamed_op (f k) op;
        first = n;
      } ∷ []) at
      ∙ sym (map-append (renamed_pending f) os (invoked_by x k op ∷ []))
  pending_step x y (Respond r) None os w at = ap (λ v. without v (map (renamed_pending f) os)) w
      ∙ without_renamed x.worker os
  pending_step x y (Respond r) (Some o) os w at = ap (λ v. without v (map (renamed_pending f) os)) w
      ∙ without_renamed x.worker os

  pending_renamed : (past : List Event)
      → pending_calls (rename_values f past) ≡ map (renamed_pending f)
      (pending_calls past)
  pending_renamed [] = refl
  pending_renamed (x ∷ past) =
      let o = pending_of x.worker (pending_calls past) in
      let y = renamed_event x o in
      ap (pending_after y (renamed_action f x.action o)) (pending_renamed past)
      ∙ pending_step x y x.action o (pending_calls past) refl refl

  own_renamed : (w : ℕ) (past : List Event) → pending_of w (pending_calls (rename_values f past))
      ≡ renamed_some (pending_of w (pending_calls past))
  own_renamed w past = ap (pending_of w) (pending_renamed past) ∙ pending_of_renamed w
      (pending_calls past)

  completed_step : (x y : Event) (action : Action) (o : Option PendingCall) (cs : List Call)
      → y.at ≡ x.at → ended_call y (renamed_action f action o) (renamed_some o) ++ map
      (renamed_call f) cs ≡ map (renamed_call f) (ended_call x action o ++ cs)
  completed_step x y (Invoke k op) o cs at = refl
  completed_step x y (Respond r) None cs at = refl
  completed_step x y (Respond r) (Some o) cs at = ap (λ n.
      completion n (renamed_reply (f o.object) o.op r) (renamed_pending f o) ∷ map
      (renamed_call f) cs) at

  completed_renamed : (past : List Event)
      → completed_calls (rename_values f past) ≡ map (renamed_call f)
      (completed_calls past)
  completed_renamed [] = refl
  completed_renamed (x ∷ past) =
      let o = pending_of x.worker (pending_calls past) in
      let y = renamed_event x o in
      ap (λ z. ended_call y (renamed_action f x.action o) z
      ++ completed_calls (rename_values f past))
      (own_renamed x.worker past)
      ∙ ap (λ zs. ended_call y (renamed_action f x.action o) (renamed_some o) ++ zs)
      (completed_renamed past)
      ∙ completed_step x y x.action o (completed_calls past) refl

  clock_renamed : (past : List Event) → clock (rename_values f past) ≡ clock past
  clock_renamed [] = refl
  clock_renamed (x ∷ past) = refl

  next_renamed : (kinds : List Kind) (action : Action) (o : Option PendingCall)
      → IsNext kinds action o → IsNext kinds (renamed_action f action o) (renamed_some o)
  next_renamed kinds (Invoke k op) None h = takes_renamed (f k) (slice_get kinds k) op h
  next_renamed kinds (Invoke k op) (Some o) h = h
  next_renamed kinds (Respond r) None h = h
  next_renamed kinds (Respond r) (Some o) h = suits_renamed (f o.object) o.op r h

  pub history_renamed : (kinds : List Kind) (past : List Event) → IsHistory kinds past
      → IsHistory kinds (rename_values f past)
  history_renamed kinds [] h = tt
  history_renamed kinds (x ∷ past) h =
      let o = pending_of x.worker (pending_calls past) in (
        subst (λ n. n ≤ x.at) (sym (clock_renamed past)) h.0,
        subst (IsNext kinds (renamed_action f x.action o)) (sym (own_renamed x.worker past))
            (next_renamed kinds x.action o h.1),
        history_renamed kinds past h.2,
      )

  -- an order of the renamed history's calls, by the calls of the history
  abbrev RenamedOrder : List Kind → List Event → List Call → Type 0
  RenamedOrder kinds past ds = IsLinearOrder (IsRun (start kinds))
      (map (renamed_call f) (completed_calls past)) (map (renamed_pending f) (pending_calls past))
      (clock past) ds

  to_renamed : (kinds : List Kind) (past : List Event) (ds : List Call) → RenamedOrder kinds past ds
      → IsAnsweredLinearization kinds (rename_values f past) ds
  to_renamed kinds past ds l =
      subst (λ n. IsLinearOrder (IsRun (start kinds)) (completed_calls (rename_values f past))
      (pending_calls (rename_values f past)) n ds) (sym (clock_renamed past))
      (subst (λ xs. IsLinearOrder (IsRun (start kinds)) xs (pending_calls (rename_values f past))
      (clock past) ds) (sym (completed_renamed past))
      (subst (λ ys. IsLinearOrder (IsRun (start kinds))
      (map (renamed_call f) (completed_calls past)) ys (clock past) ds)
      (sym (pending_renamed past)) l))

  from_renamed : (kinds : List Kind) (past : List Event) (ds : List Call)
      → IsAnsweredLinearization kinds (rename_values f past) ds → RenamedOrder kinds past ds
  from_renamed kinds past ds l =
      subst (λ n. IsLinearOrder (IsRun (start kinds)) (map (renamed_call f) (completed_calls past))
      (map (renamed_pending f) (pending_calls past)) n ds) (clock_renamed past)
      (subst (λ xs. IsLinearOrder (IsRun (start kinds)) xs
      (map (renamed_pending f) (pending_calls past)) (clock (rename_values f past)) ds)
      (completed_renamed past)
      (subst (λ ys. IsLinearOrder (IsRun (start kinds)) (completed_calls (rename_values f past)) ys
      (clock (rename_values f past)) ds) (pending_renamed past) l))

module _ (kinds : List Kind) (f : ℕ → ℕ → ℕ) (past : List Event) (naming : IsNaming f)
    (h : IsHistory kinds past) where
  renamed_is_linearizable : IsLinearizable kinds past → IsLinearizable kinds (rename_values f past)
  renamed_is_linearizable l =
      let cs = map (known_at (clock past)) l.0 in
      let order = order_renamed f naming kinds (completed_calls past) (pending_calls past)
      (clock past) (histories_have_calls kinds past h) cs
      (responses_become_answers kinds past l.0 h l.1) in
      let r = answers_become_responses kinds (rename_values f past) (map (renamed_call f) cs)
      (history_renamed f kinds past h) (to_renamed f kinds past (map (renamed_call f) cs) order)
      in
      (r.0, r.1)

  is_linearizable_back : IsLinearizable kinds (rename_values f past) → IsLinearizable kinds past
  is_linearizable_back l =
      let ds = map (known_at (clock (rename_values f past))) l.0 in
      let order = from_renamed f kinds past ds (responses_become_answers kinds
      (rename_values f past) l.0 (history_renamed f kinds past h) l.1) in
      let back = order_back f naming kinds (completed_calls past) (pending_calls past) (clock past)
      (histories_have_calls kinds past h) ds order in
      let r = answers_become_responses kinds past back.0 h back.1 in
      (r.0, r.1)

pub numbers_are_names : NumbersAreNames
numbers_are_names = λ kinds f past naming h. (
  history_renamed f kinds past h,
  (
    λ l.
        renamed_is_linearizable kinds f past naming h l,
    λ l.
        is_linearizable_back kinds f past naming h l,
  ),
)
