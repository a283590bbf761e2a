-- A history that shows a fault has no linearization.
use Rattle.std.proofs.Common.{◌≡◌, ◌≢◌, ℕ, zero, suc, ◌+◌, ◌<◌, ◌≤◌, ◌⊎◌, inl, inr, Bool, true}
use Rattle.std.proofs.Common.{false, not, ◌&&◌, ◌==◌, nat_le, List, [], ◌∷◌, ◌++◌, length}
use Rattle.std.proofs.Common.{Option, Some, None, refl, ap, sym, ◌∙◌, arith, subst, count_by}
use Rattle.std.proofs.Common.{get_or}
use Rattle.std.specs.List.{AllPairs, Contains}
use Rattle.std.proofs.lemmas.Bool.{eq-eqb, eqb-true, le-leb, leb-true, and_from, and_parts}
use Rattle.std.proofs.lemmas.Bool.{cases_lt, cases_eq, cases_order}
use Rattle.std.proofs.lemmas.List.{get_or_default}
use Rattle.std.proofs.lemmas.List.Elements.{Contains-append_right}
use Rattle.std.proofs.lemmas.List.Sorted.{Contains-permutation, All-permutation}
use Rattle.calls_core.specs.declared.history.Op.{Op}
use Rattle.calls_core.specs.declared.history.Op.TheVariants.{Advance, Read, Await, Ticket, P, V}
use Rattle.calls_core.specs.declared.history.Op.TheVariants.{PBoth, Put, Get, Produce, Consume}
use Rattle.calls_core.specs.declared.history.Reply.{Reply}
use Rattle.calls_core.specs.declared.history.Reply.TheVariants.{Done}
use Rattle.calls_core.specs.declared.history.PendingCall.{PendingCall}
use Rattle.calls_core.specs.declared.history.Call.{Call}
use Rattle.calls_core.specs.Lists.{Each}
use Rattle.calls_core.specs.Histories.{completion}
use Rattle.calls_core.specs.Linearizations.{Gives, after, IsLegalHistory, Precedes, KeepsOrder}
use Rattle.calls_core.specs.Linearizations.{answered_one, answered_calls, IsLinearOrder}
use Rattle.calls_core.proofs.Lists.{each_weaker, each_append, all_from_each}
use Rattle.calls_core.proofs.Filters.{each_from_all}
use Rattle.calls_core.proofs.Counting.{one, one_yes, count_cons, count_append, count_moved}
use Rattle.calls_core.proofs.Counting.{count_less, split_at, pairs_left}
use Rattle.calls_distinct.specs.declared.cell.Fault.{Fault}
use Rattle.calls_distinct.specs.declared.cell.Fault.TheVariants.{Nowhere, Stale, Alternate}
use Rattle.calls_distinct.specs.Cells.{is_put, returned_value, value_put_or_returned, value, put_call}
use Rattle.calls_distinct.specs.Cells.{put_pending, times, IsDistinct, put_by, put_pending_by}
use Rattle.calls_distinct.specs.Cells.{FromNowhere, IsStale, IsBegun, IsAlternation}
use Rattle.calls_distinct.specs.Cells.{ShowsOf}
use Rattle.calls_distinct.proofs.Accesses.{IsAccess, IsCompletedAccess, IsPendingAccess}
use Rattle.calls_distinct.proofs.Accesses.{AreAccesses}

-- LEGAL SEQUENTIAL HISTORIES

abbrev Access : Call → Type 0
Access c = IsAccess c.op

-- after each call its value is stored
abbrev pub Stores : ℕ → List Call → Type 0
Stores v [] = Unit {0}
Stores v (c ∷ cs) = ((is_put c.op ≡ true) ⊎ (value c ≡ v)) × Stores (value c) cs

one_step : (m : ℕ → ℕ) (op : Op) (r : Reply) → IsAccess op → Gives m op r
    → (after m op r 0 ≡ value_put_or_returned op r)
    × ((is_put op ≡ true) ⊎ (value_put_or_returned op r ≡ m 0))
one_step m (Put v) r s g = (refl, inl refl)
one_step m Get r s g = (sym (ap returned_value g), inr (ap returned_value g))
one_step m Advance r s g = absurd s
one_step m Read r s g = absurd s
one_step m (Await v) r s g = absurd s
one_step m Ticket r s g = absurd s
one_step m (P i) r s g = absurd s
one_step m (V i) r s g = absurd s
one_step m (PBoth i j) r s g = absurd s
one_step m (Produce v) r s g = absurd s
one_step m Consume r s g = absurd s

run_stores : (m : ℕ → ℕ) (cs : List Call) → Each Access cs → IsLegalHistory m cs → Stores (m 0) cs
run_stores m [] h run = tt
run_stores m (c ∷ cs) h run =
    let s = one_step m c.op c.reply h.0 run.0 in
    (s.1, subst (λ k. Stores k cs) s.0 (run_stores (after m c.op c.reply) cs h.1 run.1))

-- A VALUE THAT IS NOT PUT

put_is : (v : ℕ) (op : Op) (r : Reply) → is_put op ≡ true → value_put_or_returned op r ≡ v
    → (is_put op && (value_put_or_returned op Done == v)) ≡ true
put_is v (Put w) r p e = eq-eqb w v e
put_is v Get r p e = p
put_is v Advance r p e = p
put_is v Read r p e = p
put_is v (Await w) r p e = p
put_is v Ticket r p e = p
put_is v (P i) r p e = p
put_is v (V i) r p e = p
put_is v (PBoth i j) r p e = p
put_is v (Produce w) r p e = p
put_is v Consume r p e = p

pub put_call_is : (v : ℕ) (c : Call) → is_put c.op ≡ true → value c ≡ v → put_call v c ≡ true
put_call_is v c p e = put_is v c.op c.reply p e

own_put : (v : ℕ) (c : Call) → is_put c.op ≡ true → value c ≡ v → one (put_call v c) ≡ 1
own_put v c p e = one_yes (put_call v c) (put_call_is v c p e)

pub put_value : (v : ℕ) (op : Op) (r : Reply)
    → (is_put op && (value_put_or_returned op Done == v)) ≡ true
    → (is_put op ≡ true) × (value_put_or_returned op r ≡ v)
put_value v (Put w) r p = (refl, eqb-true w v p)
put_value v Get r p = (let no : false ≡ true = p in cc)
put_value v Advance r p = (let no : false ≡ true = p in cc)
put_value v Read r p = (let no : false ≡ true = p in cc)
put_value v (Await w) r p = (let no : false ≡ true = p in cc)
put_value v Ticket r p = (let no : false ≡ true = p in cc)
put_value v (P i) r p = (let no : false ≡ true = p in cc)
put_value v (V i) r p = (let no : false ≡ true = p in cc)
put_value v (PBoth i j) r p = (let no : false ≡ true = p in cc)
put_value v (Produce w) r p = (let no : false ≡ true = p in cc)
put_value v Consume r p = (let no : false ≡ true = p in cc)

-- if v is not stored and not put, no call has this value
never : (v s k : ℕ) (d : Call) (cs : List Call) → s ≢ v → count_by (put_call v) cs ≡ 0 → Stores s cs
    → k < length cs → value (get_or cs k d) ≡ v → ⊥
never v s k d [] ne none run lt e = omega arith
never v s zero d (c ∷ cs) ne none run lt e =
    elim run.0 [
      | inl p ↦ omega (arith, count_cons (put_call v) c cs, own_put v c p e, none)
      | inr same ↦ ne (sym same ∙ e)
    ]
never v s (suc k) d (c ∷ cs) ne none run lt e =
    elim (cases_eq (value c) v) [
      | inl own ↦ elim run.0 [
        | inl p ↦ omega (arith, count_cons (put_call v) c cs, own_put v c p own, none)
        | inr same ↦ ne (sym same ∙ own)
      ]
      | inr other ↦ never v (value c) k d cs other (omega
          (arith, count_cons (put_call v) c cs, none)) run.1 (omega arith) e
    ]

behind : (v s j k : ℕ) (d : Call) (cs : List Call) → Stores s cs → count_by (put_call v) cs ≡ 0
    → j < k → k < length cs → value (get_or cs k d) ≡ v → value (get_or cs j d) ≢ v → ⊥
behind v s j k d [] run none a lt z y = omega arith
behind v s zero zero d (c ∷ cs) run none a lt z y = omega arith
behind v s zero (suc k) d (c ∷ cs) run none a lt z y = never v (value c) k d cs y
    (omega (arith, none, count_cons (put_call v) c cs)) run.1 (omega arith) z
behind v s (suc j) zero d (c ∷ cs) run none a lt z y = omega arith
behind v s (suc j) (suc k) d (c ∷ cs) run none a lt z y =
    behind v (value c) j k d cs run.1 (omega (arith, none, count_cons (put_call v) c cs))
    (omega arith) (omega arith) z y

-- A VALUE'S CALLS ARE TOGETHER

-- v is put once at most, and not at all if it is stored
record IsOnce (v s : ℕ) (cs : List Call) : Type 0 where
  most : count_by (put_call v) cs ≤ 1
  stored : s ≡ v → count_by (put_call v) cs ≡ 0

once_next : (v s : ℕ) (c : Call) (cs : List Call) → ((is_put c.op ≡ true) ⊎ (value c ≡ s))
    → IsOnce v s (c ∷ cs) → IsOnce v (value c) cs
once_next v s c cs r o = record {
  most = omega (arith, o.most, count_cons (put_call v) c cs);
  stored = λ e. elim r [
    | inl p ↦ omega (arith, o.most, count_cons (put_call v) c cs, own_put v c p e)
    | inr same ↦ (let none = o.stored (sym same ∙ e) in
        omega (arith, none, count_cons (put_call v) c cs))
  ];
}

together : (v s i j k : ℕ) (d : Call) (cs : List Call) → Stores s cs → IsOnce v s cs → i < j → j < k
    → k < length cs → value (get_or cs i d) ≡ v → value (get_or cs k d) ≡ v
    → value (get_or cs j d) ≢ v → ⊥
together v s i j k d [] run o a b lt x z y = omega arith
together v s zero zero k d (c ∷ cs) run o a b lt x z y = omega arith
together v s zero (suc zero) zero d (c ∷ cs) run o a b lt x z y = omega arith
together v s zero (suc j) (suc k) d (c ∷ cs) run o a b lt x z y =
    behind v (value c) j k d cs run.1 ((once_next v s c cs run.0 o).stored x) (omega arith)
    (omega arith) z y
together v s zero (suc (suc j)) zero d (c ∷ cs) run o a b lt x z y = omega arith
together v s (suc i) zero k d (c ∷ cs) run o a b lt x z y = omega arith
together v s (suc i) (suc j) zero d (c ∷ cs) run o a b lt x z y = omega arith
together v s (suc i) (suc j) (suc k) d (c ∷ cs) run o a b lt x z y =
    together v (value c) i j k d cs run.1 (once_next v s c cs run.0 o) (omega arith) (omega arith)
    (omega arith) x z y

-- a get of a value that is not stored is after a put of it
put_before : (v s : ℕ) (xs : List Call) (g : Call) (ys : List Call) → s ≢ v → is_put g.op ≡ false
    → value g ≡ v → Stores s (xs ++ g ∷ ys) → 0 < count_by (put_call v) xs
put_before v s [] g ys ne get e run = elim run.0 [
  | inl p ↦ (let both : true ≡ false = sym p ∙ get in
      cc)
  | inr same ↦ absurd (ne (sym same ∙ e))
]
put_before v s (c ∷ xs) g ys ne get e run =
    elim (cases_eq (value c) v) [
      | inl own ↦ elim run.0 [
        | inl p ↦ omega (arith, count_cons (put_call v) c xs, own_put v c p own)
        | inr same ↦ absurd (ne (sym same ∙ own))
      ]
      | inr other ↦ omega (
        arith,
        count_cons (put_call v) c xs,
        put_before v (value c) xs g ys other
            get e run.1,
      )
    ]

-- COMPLETED CALLS

one_counted : (p : Call → Bool) (q : PendingCall → Bool) (t : ℕ) → ((o : PendingCall) (r : Reply)
    → p (completion t r o) ≡ q o) → (o : PendingCall) (r : Option Reply)
    → count_by p (answered_one t o r) ≤ one (q o)
one_counted p q t same o None = omega arith
one_counted p q t same o (Some r) = omega (
  arith,
  count_cons p (completion t r o) [],
  ap one
      (same o r),
)

pub answered_counted : (p : Call → Bool) (q : PendingCall → Bool) (t : ℕ)
    → ((o : PendingCall) (r : Reply) → p (completion t r o) ≡ q o)
    → (answer : PendingCall → Option Reply) (os : List PendingCall)
    → count_by p (answered_calls t answer os) ≤ count_by q os
answered_counted p q t same answer [] = omega arith
answered_counted p q t same answer (o ∷ os) =
    omega (
      arith,
      count_append p (answered_one t o (answer o)) (answered_calls t answer os),
      one_counted p q t same o (answer o),
      answered_counted p q t same answer os,
      count_cons q o
          os,
    )

answered_each : (Q : Call → Type 0) (t : ℕ) (answer : PendingCall → Option Reply)
    (os : List PendingCall) → Each (λ (o : PendingCall). (r : Reply) → answer o ≡ Some r
    → Q (completion t r o)) os → Each Q (answered_calls t answer os)
answered_each Q t answer [] h = tt
answered_each Q t answer (o ∷ os) h = each_append Q (answered_one t o (answer o))
    (answered_calls t answer os) (each_one (answer o) h.0) (answered_each Q t answer os h.1)
  where
    each_one : (r : Option Reply) → ((s : Reply) → r ≡ Some s → Q (completion t s o))
        → Each Q (answered_one t o r)
    each_one None k = tt
    each_one (Some r) k = (k r refl, tt)

-- COUNTS

pub count_known : {X : Type 0} (p : X → Bool) (xs : List X) (x : X) → Contains xs x → p x ≡ true
    → 0 < count_by p xs
count_known p xs x h e =
    let s = split_at xs x h in
    omega (
      arith,
      ap (count_by p) s.is,
      count_append p s.prefix (x ∷ s.back),
      count_cons p x s.back,
      one_yes (p x) e,
    )

pub count_parts : {X : Type 0} (p q : X → Bool) (xs : List X) → count_by p xs ≡ count_by (λ x.
    p x && q x) xs + count_by (λ x. p x && not (q x)) xs
count_parts p q [] = refl
count_parts p q (x ∷ xs) = omega (
  arith,
  count_cons p x xs,
  count_cons (λ y.
      p y && q y) x xs,
  count_cons (λ y. p y && not (q y)) x xs,
  count_parts p q xs,
  both (p x) (q x),
)
  where
    both : (a b : Bool) → one a ≡ one (a && b) + one (a && not b)
    both true true = refl
    both true false = refl
    both false b = refl

pub some_one : {X : Type 0} (p : X → Bool) (xs : List X) → 0 < count_by p xs → (x : X)
    × Contains xs x × (p x ≡ true)
some_one p [] lt = absurd (omega arith)
some_one {X} p (x ∷ xs) lt =
    elim (p x) as (λ b. p x ≡ b → (y : X) × Contains (x ∷ xs) y × (p y ≡ true)) [
      | true ↦ λ e. (x, (zero, omega arith, refl), e)
      | false ↦ λ e. (let r = some_one p xs (omega (arith, count_cons p x xs, ap one e)) in
          (r.0, (suc r.1.0, (let lt : r.1.0 < length xs = r.1.1 in omega arith), r.1.2), r.2))
    ] refl

-- NO LINEARIZATION

abbrev pub late_put : ℕ → ℕ → Call → Bool
late_put v m c = put_call v c && nat_le m c.first

abbrev pub late_pending : ℕ → ℕ → PendingCall → Bool
late_pending v m o = put_pending v o && nat_le m o.first

abbrev pub soon_put : ℕ → ℕ → Call → Bool
soon_put v m c = put_call v c && not (nat_le m c.first)

abbrev pub soon_pending : ℕ → ℕ → PendingCall → Bool
soon_pending v m o = put_pending v o && not (nat_le m o.first)

module _ (done : List Call) (pending : List PendingCall) (t u : ℕ)
    (given : AreAccesses done pending u) (m : ℕ → ℕ) (zero_first : m 0 ≡ 0) (cs : List Call)
    (l : IsLinearOrder (IsLegalHistory m) done pending t cs) where
  here : (c : Call) → Contains done c → Contains cs c
  here c k = Contains-permutation (answered_calls t l.answer pending ++ done) cs c l.each_once
      (Contains-append_right (answered_calls t l.answer pending) done c k)

  stores : Stores 0 cs
  stores =
      let some : Each Access (answered_calls t l.answer pending) =
      answered_each Access t l.answer pending (each_weaker (IsPendingAccess u)
      (λ (o : PendingCall). (r : Reply) → l.answer o ≡ Some r → Access (completion t r o))
      (λ o a r e. a.access) pending given.invoked) in
      let all : Each Access done = each_weaker (IsCompletedAccess u) Access (λ c a.
      a.access) done given.completed in
      subst (λ k. Stores k cs) zero_first (run_stores m cs
      (each_from_all Access cs (All-permutation Access (answered_calls t l.answer pending
      ++ done) cs l.each_once (all_from_each Access (answered_calls t l.answer pending ++ done)
      (each_append Access (answered_calls t l.answer pending) done some all)))) l.run)

  counted : (p : Call → Bool) (q : PendingCall → Bool) → ((o : PendingCall) (r : Reply)
      → p (completion t r o) ≡ q o) → count_by p cs ≤ count_by p done + count_by q pending
  counted p q same = omega (
    arith,
    count_moved p (answered_calls t l.answer pending ++ done) cs
        l.each_once,
    count_append p (answered_calls t l.answer pending) done,
    answered_counted p q t
        same l.answer pending,
  )

  once : (v : ℕ) → IsDistinct done pending v → IsOnce v 0 cs
  once v d = record {
    most = omega (
      arith,
      d.once,
      counted (put_call v) (put_pending v) (λ o r.
          refl),
    );
    stored = λ e. (let none = d.zero_never (sym e) in
        omega (arith, none, counted (put_call v) (put_pending v) (λ o r. refl)));
  }

  nowhere : (g : Call) → FromNowhere done pending g → ⊥
  nowhere g f =
      let s = split_at cs g (here g f.known) in
      let some_put : 0 < count_by (put_call (value g)) s.prefix =
      put_before (value g) 0 s.prefix g s.back (λ e. f.some (sym e)) f.get refl
      (subst (Stores 0) s.is stores) in
      let early = pairs_left KeepsOrder s.prefix g s.back
      (subst (AllPairs KeepsOrder) s.is l.in_order) in
      let all : count_by (put_call (value g)) s.prefix ≤ count_by (put_by (value g) g.last) s.prefix =
      count_less (put_call (value g)) (put_by (value g) g.last) s.prefix (λ i e lt p.
      and_from (put_call (value g) (get_or s.prefix i e))
      (nat_le (get_or s.prefix i e).first g.last) p
      (le-leb (get_or s.prefix i e).first g.last (elim (cases_lt g.last (get_or s.prefix i e).first)
      [ inl fb ↦ absurd (early i e lt fb) | inr le ↦ le ]))) in
      omega (
        arith,
        some_put,
        all,
        f.none,
        counted (put_by (value g) g.last)
            (put_pending_by (value g) g.last) (λ o r. refl),
        ap (count_by (put_by (value g) g.last))
            s.is,
        count_append (put_by (value g) g.last) s.prefix (g ∷ s.back),
      )

  -- in an order, a call is before a call of another value that it precedes
  stands_before : (a b : Call) (i j : ℕ) → i < length cs → j < length cs → get_or cs i a ≡ a
      → get_or cs j b ≡ b → Precedes a b → value a ≢ value b → i < j
  stands_before a b i j li lj ea eb fb ne =
      elim (cases_order i j) [
        | inl same ↦ absurd (ne (ap value (sym ea ∙ ap (λ n. get_or cs n a) same
            ∙ get_or_default cs j a b lj ∙ eb)))
        | inr (inl lt) ↦ lt
        | inr (inr gt) ↦
            (let pair = l.in_order j i a gt li in
            let moved : KeepsOrder b a = subst (λ z. KeepsOrder z a)
            (get_or_default cs j a b lj ∙ eb) (subst (λ z. KeepsOrder (get_or cs j a) z) ea
            pair) in absurd (moved fb))
      ]

  stale : (c g : Call) → IsStale done pending c g → ⊥
  stale c g f =
      let pc = here c f.known_c in
      let pg = here g f.known_g in
      let lc : pc.0 < length cs = pc.1 in
      let lg : pg.0 < length cs = pg.1 in
      let vc : value (get_or cs pc.0 c) ≡ value c = ap value pc.2 in
      let vg : value (get_or cs pg.0 c) ≡ 0 = ap value (get_or_default cs pg.0 c g lg ∙ pg.2)
      ∙ f.zero in
      let lt : pc.0 < pg.0 = stands_before c g pc.0 pg.0 lc lg pc.2 pg.2 f.before (λ e.
      f.other (e ∙ f.zero)) in
      let none = f.never in
      behind 0 0 pc.0 pg.0 c cs stores (omega (
        arith,
        none,
        counted (put_call 0) (put_pending 0)
            (λ o r. refl),
      )) lt lg vg (λ e. f.other (sym vc ∙ e))

  -- a call of b's value that was not invoked before b
  record Found (b : Call) : Type 0 where
    x : Call
    there : Contains cs x
    same : value x ≡ value b
    later : b.first ≤ x.first

  found : (b c : Call) → IsBegun done pending b → Contains done c → value b ≡ value c
      → IsDistinct done pending (value b) ⊎ (b ≡ c) → Found b
  found b c kb kc e d =
      elim d [
        | inr is ↦ record {
          x = c;
          there = here c kc;
          same = sym e;
          later =
              (let le : b.first ≤ c.first = omega (arith, ap (λ (z : Call). z.first) is) in le);
        }
        | inl once ↦ elim kb [
          | inl k ↦ record { x = b; there = here b k; same = refl; later = omega arith }
          | inr k ↦
              (let v = value b in
              let m = b.first in
              let o = k.o in
              let is_b : put_pending v o ≡ true = put_is v o.op Done k.put (ap value k.is) in
              let began : o.first ≡ m = ap (λ (z : Call). z.first) k.is in
              let some_under : 0 < count_by (late_pending v m) pending =
              count_known (late_pending v m) pending o k.there
              (and_from (put_pending v o) (nat_le m o.first) is_b
              (le-leb m o.first (omega arith))) in
              let parts = count_parts (put_pending v) (λ (o : PendingCall). nat_le m o.first)
              pending in
              let most : times done pending v ≤ 1 = once.once in
              let own : v ≡ 0 → ⊥ = λ z. (let none = once.zero_never z in omega arith) in
              let none_done : count_by (put_call v) done ≡ 0 = omega arith in
              let none_soon : count_by (soon_pending v m) pending ≡ 0 = omega arith in
              let soon_done : count_by (soon_put v m) done ≡ 0 =
              (let parts_done = count_parts (put_call v) (λ (z : Call). nat_le m z.first) done
              in omega arith) in
              let get : is_put c.op ≡ false = no_put c (elim (is_put c.op) as (λ y. is_put c.op ≡ y
              → y ≡ true → ⊥) [
                | true ↦ λ p q. (let some_done = count_known (put_call v) done c kc
                    (subst (λ w. put_call w c ≡ true) (sym e) (put_call_is (value c) c p refl)) in
                    omega arith)
                | false ↦ λ p q. (let no : false ≡ true = q in cc)
              ] refl) in
              let s = split_at cs c (here c kc) in
              let some_put : 0 < count_by (put_call v) s.prefix =
              put_before v 0 s.prefix c s.back (λ z. own (sym z)) get (sym e)
              (subst (Stores 0) s.is stores) in
              let whole : count_by (put_call v) cs ≡ count_by (put_call v) s.prefix + count_by
              (put_call v) (c ∷ s.back) = ap (count_by (put_call v)) s.is ∙ count_append
              (put_call v) s.prefix (c ∷ s.back) in
              let parts_cs = count_parts (put_call v) (λ (z : Call). nat_le m z.first) cs in
              let few = counted (soon_put v m) (soon_pending v m) (λ o r. refl) in
              let r = some_one (late_put v m) cs (omega arith) in
              let two = and_parts (put_call v r.0) (nat_le m r.0.first) r.2 in
              record {
                x = r.0;
                there = r.1;
                same = (put_value v r.0.op r.0.reply two.0).1;
                later =
                    leb-true m r.0.first two.1;
              })
        ]
      ]
    where
      no_put : (c : Call) → (is_put c.op ≡ true → ⊥) → is_put c.op ≡ false
      no_put c h = elim (is_put c.op) as (λ y. (y ≡ true → ⊥) → y ≡ false) [
        | true ↦ λ k.
            absurd (k refl)
        | false ↦ λ k. refl
      ] h

  alternate : (a b c d : Call) → IsAlternation done pending a b c d → ⊥
  alternate a b c d f =
      let fab = f.first in
      let fcd = f.second in
      let ka : Contains done a = f.known_a in
      let kc : Contains done c = f.known_c in
      let fb = found b c f.known_b kc f.another (elim f.distinct_b [
        | inl x ↦ inl x
        | inr x ↦
            inr x
      ]) in
      let fd = found d a f.known_d ka (sym f.one) (elim f.distinct_a [
        | inl x ↦
            inl (subst (IsDistinct done pending) f.one x)
        | inr x ↦ inr (sym x)
      ]) in
      let later_b = fb.later in
      let later_d = fd.later in
      let pa = here a ka in
      let pc = here c kc in
      let pb = fb.there in
      let pd = fd.there in
      let la : pa.0 < length cs = pa.1 in
      let lb : pb.0 < length cs = pb.1 in
      let lc : pc.0 < length cs = pc.1 in
      let ld : pd.0 < length cs = pd.1 in
      let va : value (get_or cs pa.0 a) ≡ value a = ap value pa.2 in
      let vb : value (get_or cs pb.0 a) ≡ value b = ap value (get_or_default cs pb.0 a fb.x lb
      ∙ pb.2) ∙ fb.same in
      let vc : value (get_or cs pc.0 a) ≡ value b = ap value (get_or_default cs pc.0 a c lc ∙ pc.2)
      ∙ sym f.another in
      let vd : value (get_or cs pd.0 a) ≡ value a = ap value (get_or_default cs pd.0 a fd.x ld
      ∙ pd.2) ∙ fd.same ∙ sym f.one in
      let ab : pa.0 < pb.0 = stands_before a fb.x pa.0 pb.0 la lb pa.2 pb.2 (omega arith) (λ e.
      f.differ (e ∙ fb.same)) in
      let cd : pc.0 < pd.0 = stands_before c fd.x pc.0 pd.0 lc ld pc.2 pd.2 (omega arith) (λ e.
      f.differ (f.one ∙ sym fd.same ∙ sym e ∙ sym f.another)) in
      let apart : pa.0 ≡ pc.0 → ⊥ = λ same. f.differ (sym va ∙ ap (λ n. value (get_or cs n a)) same
      ∙ vc) in
      elim (cases_order pa.0 pc.0) [
        | inl same ↦ apart same
        | inr (inl lt) ↦ elim f.distinct_a [
          | inl da ↦ together (value a) 0 pa.0 pc.0 pd.0 a cs stores (once (value a) da) lt cd ld va
              vd (λ e. f.differ (sym e ∙ vc))
          | inr ad ↦ (let back : pc.0 < pa.0 = stands_before c a pc.0 pa.0 lc la pc.2 pa.2
              (omega (arith, ap (λ (z : Call). z.first) ad)) (λ e. f.differ (sym e ∙ sym f.another))
              in absurd (omega arith))
        ]
        | inr (inr gt) ↦ elim f.distinct_b [
          | inl db ↦ together (value b) 0 pc.0 pa.0 pb.0 a cs stores (once (value b) db) gt ab lb vc
              vb (λ e. f.differ (sym va ∙ e))
          | inr bc ↦ (let back : pa.0 < pc.0 = stands_before a c pa.0 pc.0 la lc pa.2 pc.2
              (omega (arith, ap (λ (z : Call). z.first) bc)) (λ e. f.differ (e ∙ sym f.another)) in
              absurd (omega arith))
        ]
      ]

pub no_order : (done : List Call) (pending : List PendingCall) (t u : ℕ) (f : Fault) (m : ℕ
    → ℕ) (cs : List Call) → AreAccesses done pending u → m 0 ≡ 0 → ShowsOf done pending f
    → IsLinearOrder (IsLegalHistory m) done pending t cs → ⊥
no_order done pending t u (Nowhere g) m cs h z s l = nowhere done pending t u h m z cs l g s
no_order done pending t u (Stale c g) m cs h z s l = stale done pending t u h m z cs l c g s
no_order done pending t u (Alternate a b c d) m cs h z s l =
    alternate done pending t u h m z cs l a b c d s
