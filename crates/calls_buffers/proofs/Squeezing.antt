-- As many items as there is room for were inside, while one more was put in and not taken out.
use Rattle.std.proofs.Common.{◌≡◌, ℕ, ◌+◌, ◌<◌, ◌≤◌, inl, inr, Bool, true, false, ◌&&◌, ◌||◌}
use Rattle.std.proofs.Common.{nat_le, nat_lt, get_or, List, [], ◌∷◌, ◌++◌, Some, refl, ap, sym, ◌∙◌}
use Rattle.std.proofs.Common.{subst, arith, count_by, append_assoc}
use Rattle.std.proofs.lemmas.Bool.{cases_lt, eq-eqb, leb-true, le-leb, lt-leb, lt-ltb, le-ltb}
use Rattle.std.proofs.lemmas.Bool.{and_from, and_right, and_parts, or_cases}
use Rattle.calls_core.specs.declared.history.Kind.TheVariants.{Buffer}
use Rattle.calls_core.specs.declared.history.Op.{Op}
use Rattle.calls_core.specs.declared.history.Op.TheVariants.{Advance, Read, Await, Ticket, P, V}
use Rattle.calls_core.specs.declared.history.Op.TheVariants.{PBoth, Put, Get, Produce, Consume}
use Rattle.calls_core.specs.declared.history.Reply.{Reply}
use Rattle.calls_core.specs.declared.history.Reply.TheVariants.{Done, Number, Timeout}
use Rattle.calls_core.specs.declared.history.PendingCall.{PendingCall}
use Rattle.calls_core.specs.declared.history.Call.{Call}
use Rattle.calls_core.specs.Lists.{Each, EachPair}
use Rattle.calls_core.specs.Histories.{completion}
use Rattle.calls_core.specs.Linearizations.{IsLegalHistory, KeepsOrder, initial, IsLinearOrder}
use Rattle.calls_core.specs.Calls.{AreCallsOf}
use Rattle.calls_core.proofs.Lists.{each_weaker, each_append, each_right, each_pair_across}
use Rattle.calls_core.proofs.Counting.{one, one_yes, one_no, one_less, count_cons, count_append}
use Rattle.calls_core.proofs.Counting.{count_less}
use Rattle.calls_buffers.specs.Queues.{IsQueueRun}
use Rattle.calls_buffers.specs.Counts.{item, is_consume, put_one, took_one, is_put, is_take}
use Rattle.calls_buffers.specs.Counts.{invoked_puts, all_puts, invoked_takes}
use Rattle.calls_buffers.specs.Counts.{pending_takes, untaken, produces}
use Rattle.calls_buffers.specs.Faults.{FromSqueezed}
use Rattle.calls_buffers.proofs.Flows.{run_first, IsBounded, bounded}
use Rattle.calls_buffers.proofs.Cuts.{Lasts, not_before}
use Rattle.calls_buffers.proofs.Tallies.{all_last, all_keep, queue, done_counted, counted}
use Rattle.calls_buffers.proofs.Tallies.{front_invoked, count_under}
use Rattle.calls_buffers.proofs.Asking.{put_asked, take_asked, count_some, none_untaken}

-- THE LAST ONE THAT PASSES A TEST

record LastOne (test : Call → Bool) (cs : List Call) : Type 0 where
  prefix : List Call
  x : Call
  back : List Call
  is : cs ≡ prefix ++ x ∷ back
  yes : test x ≡ true
  none : count_by test back ≡ 0

last_one : (test : Call → Bool) (cs : List Call) → 0 < count_by test cs → LastOne test cs
last_one test [] lt = absurd (omega arith)
last_one test (y ∷ cs) lt =
    elim (cases_lt 0 (count_by test cs)) [
      | inl more ↦ (let r = last_one test cs more in record {
        prefix = y ∷ r.prefix;
        x = r.x;
        back = r.back;
        is = ap (λ zs. y ∷ zs) r.is;
        yes = r.yes;
        none = r.none;
      })
      | inr le ↦ record {
        prefix = [];
        x = y;
        back = cs;
        is = refl;
        yes = own (test y) refl le;
        none = omega arith;
      }
    ]
  where
    own : (b : Bool) → test y ≡ b → count_by test cs ≤ 0 → b ≡ true
    own true e le = refl
    own false e le = absurd (omega (arith, lt, count_cons test y cs, one_no (test y) e))

-- COUNTS

count_both : (a b c : Call → Bool) → ((x : Call) → one (a x) + one (b x) ≤ one (c x))
    → (xs : List Call) → count_by a xs + count_by b xs ≤ count_by c xs
count_both a b c f [] = omega arith
count_both a b c f (x ∷ xs) = omega (
  arith,
  count_both a b c f xs,
  f x,
  count_cons a x xs,
  count_cons b x xs,
  count_cons c x xs,
)

count_sum : (a b c : Call → Bool) → ((x : Call) → one (c x) ≤ one (a x) + one (b x))
    → (xs : List Call) → count_by c xs ≤ count_by a xs + count_by b xs
count_sum a b c f [] = omega arith
count_sum a b c f (x ∷ xs) = omega (
  arith,
  count_sum a b c f xs,
  f x,
  count_cons a x xs,
  count_cons b x xs,
  count_cons c x xs,
)

count_under_all : {X : Type 0} (p q : X → Bool) → ((x : X) → p x ≡ true → q x ≡ true)
    → (xs : List X) → count_by p xs ≤ count_by q xs
count_under_all p q f xs = count_less p q xs (λ k d lt e. f (get_or xs k d) e)

or_first : (a b : Bool) → a ≡ true → (a || b) ≡ true
or_first true b e = refl
or_first false b e = absurd (cc)

or_second : (a b : Bool) → b ≡ true → (a || b) ≡ true
or_second true b e = refl
or_second false b e = e

or_one : (a b : Bool) → one (a || b) ≤ one a + one b
or_one true b = omega arith
or_one false b = omega arith

and_earlier : (b : Bool) (k m n : ℕ) → m ≤ n → (b && nat_le k m) ≡ true
    → (b && nat_le k n) ≡ true
and_earlier b k m n le e =
    let parts = and_parts b (nat_le k m) e in
    let within = leb-true k m parts.1 in
    and_from b (nat_le k n) parts.0 (le-leb k n (omega arith))

-- one test that is weaker than another
put_weaker : (t u : ℕ → Bool) → ((v : ℕ) → t v ≡ true → u v ≡ true) → (op : Op) (r : Reply)
    → put_one t op r ≡ true → put_one u op r ≡ true
put_weaker t u f (Produce v) Done e = f v e
put_weaker t u f (Produce v) (Number w) e = absurd (cc)
put_weaker t u f (Produce v) Timeout e = absurd (cc)
put_weaker t u f Consume r e = absurd (cc)
put_weaker t u f Advance r e = absurd (cc)
put_weaker t u f Read r e = absurd (cc)
put_weaker t u f (Await v) r e = absurd (cc)
put_weaker t u f Ticket r e = absurd (cc)
put_weaker t u f (P i) r e = absurd (cc)
put_weaker t u f (V i) r e = absurd (cc)
put_weaker t u f (PBoth i j) r e = absurd (cc)
put_weaker t u f (Put v) r e = absurd (cc)
put_weaker t u f Get r e = absurd (cc)

-- a produce takes nothing
put_takes_none : (t u : ℕ → Bool) (op : Op) (r : Reply) → put_one t op r ≡ true
    → took_one u op r ≡ false
put_takes_none t u (Produce v) r e = refl
put_takes_none t u Consume r e = absurd (cc)
put_takes_none t u Advance r e = refl
put_takes_none t u Read r e = refl
put_takes_none t u (Await v) r e = refl
put_takes_none t u Ticket r e = refl
put_takes_none t u (P i) r e = refl
put_takes_none t u (V i) r e = refl
put_takes_none t u (PBoth i j) r e = refl
put_takes_none t u (Put v) r e = refl
put_takes_none t u Get r e = refl

took_either : (t u : ℕ → Bool) (op : Op) (r : Reply)
    → one (took_one (λ v. t v || u v) op r) ≤ one (took_one t op r) + one (took_one u op r)
took_either t u Consume (Number v) = or_one (t v) (u v)
took_either t u Consume Done = omega arith
took_either t u Consume Timeout = omega arith
took_either t u (Produce v) r = omega arith
took_either t u Advance r = omega arith
took_either t u Read r = omega arith
took_either t u (Await v) r = omega arith
took_either t u Ticket r = omega arith
took_either t u (P i) r = omega arith
took_either t u (V i) r = omega arith
took_either t u (PBoth i j) r = omega arith
took_either t u (Put v) r = omega arith
took_either t u Get r = omega arith

under_and : (a b c t : Bool) → one c ≤ one a + one b → one (c && t) ≤ one (a && t) + one (b && t)
under_and true b c t h = and_small c t b
  where
    and_small : (c t b : Bool) → one (c && t) ≤ one t + one (b && t)
    and_small true t b = omega arith
    and_small false t b = omega arith
under_and false true c t h = omega (arith, and_less c t)
  where
    and_less : (c t : Bool) → one (c && t) ≤ one t
    and_less true t = omega arith
    and_less false t = omega arith
under_and false false true t h = absurd (omega arith)
under_and false false false t h = omega arith

module _ (n t : ℕ) (done : List Call) (pending : List PendingCall) (cs : List Call)
    (l : IsLinearOrder (IsLegalHistory (initial (Some (Buffer n)))) done pending t cs)
    (h : AreCallsOf (Buffer n) done pending t) (q p : Call) (left asked : ℕ)
    (f : FromSqueezed n done pending q p left asked)
  where
    abbrev inner : ℕ → Bool
    inner = untaken p.last done

    abbrev own : ℕ → Bool
    own = item f.z

    abbrev either : ℕ → Bool
    either = λ v. inner v || own v

    -- a produce of an item that is inside, and the produce of the other
    abbrev early : Call → Bool
    early = λ (c : Call). is_put inner c && nat_le c.last q.last

    abbrev late : Call → Bool
    late = λ (c : Call). is_put own c && (nat_lt q.last c.last && nat_le c.last p.last)

    abbrev last_put : Call → Bool
    last_put = λ (c : Call). early c || late c

    late_self : late p ≡ true
    late_self =
        let puts : is_put own p ≡ true = ap (λ op. put_one own op p.reply) f.produce.asks
        ∙ ap (put_one own (Produce f.z)) f.produce.returns ∙ eq-eqb f.z f.z refl in
        and_from (is_put own p) (nat_lt q.last p.last && nat_le p.last p.last) puts
        (and_from (nat_lt q.last p.last) (nat_le p.last p.last) (lt-ltb q.last p.last f.before)
        (le-leb p.last p.last (omega arith)))

    some_late : 0 < count_by late cs
    some_late = omega (
      arith,
      count_some late done p f.produce.known late_self,
      done_counted n t done pending cs l h late,
    )

    found : LastOne last_put cs
    found = last_one last_put cs (omega (
      arith,
      some_late,
      count_under_all late last_put (λ x e. or_second (early x) (late x) e) cs,
    ))

    abbrev upto : List Call
    upto = found.prefix ++ found.x ∷ []

    is : cs ≡ upto ++ found.back
    is = found.is ∙ sym (append_assoc found.prefix (found.x ∷ []) found.back)

    split : (test : Call → Bool) → count_by test cs ≡ count_by test upto + count_by test found.back
    split test = ap (count_by test) is ∙ count_append test upto found.back

    put_twice : (x : Call) → one (early x) + one (late x) ≤ one (is_put either x)
    put_twice x = elim (cases_lt q.last x.last) [
      | inl lt ↦ omega (
        arith,
        one_no (early x)
            (and_right (is_put inner x) (nat_le x.last q.last) (lt-leb x.last q.last lt)),
        one_less (late x) (is_put either x) (λ e. put_weaker own either
            (λ v k. or_second (inner v) (own v) k) x.op x.reply (and_parts _ _ e).0),
      )
      | inr le ↦ omega (
        arith,
        one_no (late x) (and_right (is_put own x) (nat_lt q.last x.last && nat_le x.last p.last)
            (ap (λ b. b && nat_le x.last p.last) (le-ltb q.last x.last le))),
        one_less (early x) (is_put either x) (λ e. put_weaker inner either
            (λ v k. or_first (inner v) (own v) k) x.op x.reply (and_parts _ _ e).0),
      )
    ]

    -- so many were put in up to there
    put_in : n + pending_takes p.last pending < count_by (is_put either) upto
    put_in = omega (
      arith,
      f.more,
      f.puts,
      f.asks,
      done_counted n t done pending cs l h early,
      some_late,
      split early,
      split late,
      found.none,
      count_under_all early last_put (λ x e. or_first (early x) (late x) e) found.back,
      count_under_all late last_put (λ x e. or_second (early x) (late x) e) found.back,
      count_both early late (is_put either) put_twice upto,
    )

    begun : (u : ℕ) → found.x.last ≤ u → Each (λ (c : Call). c.first ≤ u) upto
    begun u le =
        let pairs : EachPair KeepsOrder (found.prefix ++ found.x ∷ found.back) =
        subst (EachPair KeepsOrder) found.is (all_keep n t done pending cs l h) in
        let lasts : Each Lasts (found.prefix ++ found.x ∷ found.back) =
        subst (Each Lasts) found.is (all_last n t done pending cs l h) in
        let own_last : found.x.first < found.x.last =
        (each_right Lasts found.prefix (found.x ∷ found.back) lasts).0 in
        each_append (λ (c : Call). c.first ≤ u) found.prefix (found.x ∷ [])
        (each_weaker (λ (d : Call). Each (KeepsOrder d) (found.x ∷ found.back)) (λ (d : Call).
        d.first ≤ u) (λ d keeps. omega (arith, not_before d found.x keeps.0, le)) found.prefix
        (each_pair_across KeepsOrder found.prefix (found.x ∷ found.back) pairs))
        (omega (arith, own_last, le), tt)

    taken_by : (test : ℕ → Bool) (u : ℕ) → found.x.last ≤ u
        → count_by (is_take test) upto ≤ invoked_takes test u done + pending_takes u pending
    taken_by test u le = front_invoked n t done pending cs l h upto found.back is (is_take test)
        (λ (o : PendingCall). is_consume o.op) (λ o x e. take_asked test o.op x e) u (begun u le)

    fewer_pending : (u : ℕ) → u ≤ p.last → pending_takes u pending ≤ pending_takes p.last pending
    fewer_pending u le = count_under_all (λ (o : PendingCall). is_consume o.op && nat_le o.first u)
        (λ (o : PendingCall). is_consume o.op && nat_le o.first p.last) (λ o e.
        and_earlier (is_consume o.op) o.first u p.last le e) pending

    fewer_taken : invoked_takes inner q.last done ≤ invoked_takes inner p.last done
    fewer_taken = count_under_all (λ (c : Call). is_take inner c && nat_le c.first q.last)
        (λ (c : Call). is_take inner c && nat_le c.first p.last) (λ c e.
        and_earlier (is_take inner c) c.first q.last p.last (omega (arith, f.before)) e) done

    -- if the last of them is inside before the other is put in
    early_untaken : found.x.last ≤ q.last → invoked_takes own q.last done ≡ 0
        → count_by (is_take either) upto ≤ pending_takes p.last pending
    early_untaken le none = omega (
      arith,
      taken_by either q.last le,
      count_sum (λ (c : Call). is_take inner c && nat_le c.first q.last)
          (λ (c : Call). is_take own c && nat_le c.first q.last)
          (λ (c : Call). is_take either c && nat_le c.first q.last)
          (λ x. under_and (is_take inner x) (is_take own x) (is_take either x)
          (nat_le x.first q.last) (took_either inner own x.op x.reply)) done,
      fewer_taken,
      none_untaken p.last done,
      fewer_pending q.last (omega (arith, f.before)),
    )

    -- which then was invoked by then
    early_put : found.x.last ≤ q.last → invoked_puts own q.last done pending ≡ 0 → ⊥
    early_put le none =
        let test : Call → Bool = λ (c : Call). is_put own c && nat_le c.first q.last in
        let bound : count_by test cs ≤ invoked_puts own q.last done pending =
        counted n t done pending cs l h test
        (λ (o : PendingCall). produces own o.op && nat_le o.first q.last)
        (λ o x e. (let parts = and_parts (is_put own (completion t x o)) (nat_le o.first q.last) e in
        and_from (produces own o.op) (nat_le o.first q.last) (put_asked own o.op x parts.0)
        parts.1)) in
        let invoked : count_by late upto ≤ count_by test upto =
        count_under late test (λ (c : Call). c.first ≤ q.last) (λ c first e.
        and_from (is_put own c) (nat_le c.first q.last) (and_parts _ _ e).0
        (le-leb c.first q.last first)) upto (begun q.last le) in
        omega (
          arith,
          some_late,
          split late,
          split test,
          found.none,
          count_under_all late last_put (λ x e. or_second (early x) (late x) e) found.back,
        )

    case_early : found.x.last ≤ q.last
        → count_by (is_take either) upto ≤ pending_takes p.last pending
    case_early le = elim f.none [
      | inl none ↦ early_untaken le none
      | inr none ↦ absurd (early_put le none)
    ]

    -- and if the other is the last
    case_late : is_put own found.x ≡ true → found.x.last ≤ p.last
        → count_by (is_take either) upto ≤ pending_takes p.last pending
    case_late puts le =
        let all : count_by (is_put own) cs ≤ all_puts own done pending =
        counted n t done pending cs l h (is_put own) (λ (o : PendingCall). produces own o.op)
        (λ o x e. put_asked own o.op x e) in
        let flow : IsBounded own n found.prefix = bounded own n found.prefix (run_first n [] found.prefix
        (found.x ∷ found.back) (subst (IsQueueRun n []) found.is
        (queue n t done pending cs l h))) in
        let no_more = flow.taken in
        omega (
          arith,
          taken_by inner p.last le,
          none_untaken p.last done,
          count_sum (is_take inner) (is_take own) (is_take either) (λ x.
              took_either inner own x.op x.reply) upto,
          count_append (is_take own) found.prefix (found.x ∷ []),
          count_cons (is_take own) found.x [],
          one_no (is_take own found.x)
              (put_takes_none own own found.x.op found.x.reply puts),
          ap (count_by (is_put own)) found.is,
          count_append (is_put own) found.prefix (found.x ∷ found.back),
          count_cons (is_put own) found.x found.back,
          one_yes (is_put own found.x) puts,
          all,
          f.once,
          no_more,
        )

    few_taken : count_by (is_take either) upto ≤ pending_takes p.last pending
    few_taken = elim (or_cases (early found.x) (late found.x) found.yes) [
      | inl e ↦ case_early (leb-true found.x.last q.last
          (and_parts (is_put inner found.x) (nat_le found.x.last q.last) e).1)
      | inr e ↦ (let parts = and_parts (is_put own found.x)
          (nat_lt q.last found.x.last && nat_le found.x.last p.last) e in
          case_late parts.0 (leb-true found.x.last p.last
          (and_parts (nat_lt q.last found.x.last) (nat_le found.x.last p.last) parts.1).1))
    ]

    pub no_squeeze : ⊥
    no_squeeze =
        let b = (bounded either n upto (run_first n [] upto found.back (subst (IsQueueRun n []) is
        (queue n t done pending cs l h)))).left in
        omega (arith, put_in, few_taken)
