-- Tickets that show a fault have no linearization.
use Rattle.std.proofs.Common.{◌≡◌, ℕ, zero, suc, ◌+◌, ◌<◌, ◌≤◌, ◌⊎◌, inl, inr, Bool, true, ◌&&◌}
use Rattle.std.proofs.Common.{nat_le, List, [], ◌∷◌, ◌++◌, length, Option, Some, None, refl, ap}
use Rattle.std.proofs.Common.{sym, ◌∙◌, arith, subst, count_by, append_assoc}
use Rattle.std.specs.List.{All, AllPairs, Contains}
use Rattle.std.proofs.lemmas.Bool.{le-leb, cases_lt, and_from, and_parts}
use Rattle.std.proofs.lemmas.List.Elements.{All-contains, Contains-append_right}
use Rattle.std.proofs.lemmas.List.Sorted.{Contains-permutation, All-permutation}
use Rattle.calls_core.specs.declared.history.Op.{Op}
use Rattle.calls_core.specs.declared.history.Op.TheVariants.{Ticket}
use Rattle.calls_core.specs.declared.history.Reply.{Reply}
use Rattle.calls_core.specs.declared.history.PendingCall.{PendingCall}
use Rattle.calls_core.specs.declared.history.Call.{Call}
use Rattle.calls_tickets.specs.declared.fault.Fault.{Fault}
use Rattle.calls_tickets.specs.declared.fault.Fault.TheVariants.{Twice, Turned, Drawn}
use Rattle.calls_core.specs.Lists.{Each}
use Rattle.calls_core.specs.Histories.{completion}
use Rattle.calls_core.specs.Linearizations.{Gives, after, IsLegalHistory, KeepsOrder, answered_one}
use Rattle.calls_core.specs.Linearizations.{answered_calls, initial}
use Rattle.calls_core.specs.declared.history.Kind.TheVariants.{Sequencer}
use Rattle.calls_tickets.specs.Faults.{ticket_number, number, FromTwice, FromTurned, FromDrawn, ShowsIn}
use Rattle.calls_tickets.specs.kept.Tables.{ReturnedTicket, InvokedTicket, AreTickets}
use Rattle.calls_tickets.specs.kept.Tables.{IsTicketOrder}
use Rattle.calls_core.proofs.Lists.{each_weaker, each_both, each_append, all_from_each}
use Rattle.calls_core.proofs.Filters.{each_from_all}
use Rattle.calls_core.proofs.Counting.{one, one_yes, one_less, count_cons, count_append}
use Rattle.calls_core.proofs.Counting.{count_moved, count_less, count_every, Split, split_at}
use Rattle.calls_core.proofs.Counting.{in_either, pairs_left}

abbrev pub IsTicket : Call → Type 0
IsTicket c = c.op ≡ Ticket

-- LEGAL SEQUENTIAL HISTORIES OF TICKETS

abbrev empty : ℕ → ℕ
empty = initial (Some Sequencer)

number_given : (m : ℕ → ℕ) (op : Op) (r : Reply) → op ≡ Ticket → Gives m op r
    → ticket_number r ≡ m 0
number_given m op r e g = ap ticket_number (subst (λ k. Gives m k r) e g)

after_ticket : (m : ℕ → ℕ) (op : Op) (r : Reply) → op ≡ Ticket → after m op r 0 ≡ m 0 + 1
after_ticket m op r e = ap (λ k. after m k r 0) e

pub run_number : (m : ℕ → ℕ) (xs : List Call) (c : Call) (ys : List Call)
    → Each IsTicket (xs ++ c ∷ ys) → IsLegalHistory m (xs ++ c ∷ ys) → number c ≡ m 0 + length xs
run_number m [] c ys t run = number_given m c.op c.reply t.0 run.0 ∙ omega arith
run_number m (x ∷ xs) c ys t run = omega (
  arith,
  run_number (after m x.op x.reply) xs c ys t.1
      run.1,
  after_ticket m x.op x.reply t.0,
)

run_below : (m : ℕ → ℕ) (xs ys : List Call) → Each IsTicket (xs ++ ys)
    → IsLegalHistory m (xs ++ ys) → Each (λ x. number x < m 0 + length xs) xs
run_below m [] ys t run = tt
run_below m (x ∷ xs) ys t run =
    let e = after_ticket m x.op x.reply t.0 in
    let same : number x ≡ m 0 = number_given m x.op x.reply t.0 run.0 in (
      omega arith,
      each_weaker (λ y. number y < after m x.op x.reply 0 + length xs) (λ y.
          number y < m 0 + suc (length xs)) (λ y lt. omega arith) xs
          (run_below (after m x.op x.reply) xs ys t.1 run.1),
    )

-- ALL ARE TICKETS

one_tickets : (t : ℕ) (o : PendingCall) (r : Option Reply) → o.op ≡ Ticket
    → Each IsTicket (answered_one t o r)
one_tickets t o None e = tt
one_tickets t o (Some r) e = (e, tt)

answered_tickets : (t : ℕ) (answer : PendingCall → Option Reply) (os : List PendingCall)
    → Each (λ (o : PendingCall). o.op ≡ Ticket) os → Each IsTicket (answered_calls t answer os)
answered_tickets t answer [] h = tt
answered_tickets t answer (o ∷ os) h = each_append IsTicket (answered_one t o (answer o))
    (answered_calls t answer os) (one_tickets t o (answer o) h.0) (answered_tickets t answer os h.1)

-- COUNTS

module _ (k m : ℕ) where
  -- a call that may be among the first k + 1, if the last of these was returned at m
  abbrev pub early_number : Call → Bool
  early_number x = nat_le (number x) k && nat_le x.first m

  one_early : (t : ℕ) (o : PendingCall) (r : Option Reply)
      → count_by early_number (answered_one t o r) ≤ one (nat_le o.first m)
  one_early t o None = omega arith
  one_early t o (Some r) = omega (
    arith,
    count_cons early_number (completion t r o) [],
    one_less
        (early_number (completion t r o)) (nat_le o.first m) (λ e.
        (and_parts (nat_le (ticket_number r) k) (nat_le o.first m) e).1),
  )

  answered_early : (t : ℕ) (answer : PendingCall → Option Reply) (os : List PendingCall)
      → count_by early_number (answered_calls t answer os) ≤ count_by
      (λ (o : PendingCall). nat_le o.first m) os
  answered_early t answer [] = omega arith
  answered_early t answer (o ∷ os) =
      omega (
        arith,
        count_append early_number (answered_one t o (answer o)) (answered_calls t answer os),
        one_early t o (answer o),
        answered_early t answer os,
        count_cons (λ (p : PendingCall). nat_le p.first m) o os,
      )

  done_early : (cs : List Call) → count_by early_number cs ≤ count_by
      (λ (d : Call). nat_le (number d) k) cs
  done_early cs = count_less early_number (λ (d : Call). nat_le (number d) k) cs (λ i d lt. λ e.
      (and_parts _ _ e).0)

-- NO LINEARIZATION

module _ (done : List Call) (pending : List PendingCall) (t : ℕ) (given : AreTickets done pending t)
    (cs : List Call) (l : IsTicketOrder done pending t cs) where
  tickets : Each IsTicket cs
  tickets =
      each_from_all IsTicket cs
      (All-permutation IsTicket (answered_calls t l.answer pending ++ done) cs l.each_once
      (all_from_each IsTicket (answered_calls t l.answer pending ++ done)
      (each_append IsTicket (answered_calls t l.answer pending) done
      (answered_tickets t l.answer pending (each_weaker (InvokedTicket t)
      (λ (o : PendingCall). o.op ≡ Ticket) (λ o a. a.ticket) pending given.invoked))
      (each_weaker (ReturnedTicket t) IsTicket (λ c a. a.ticket) done given.returned))))

  known_in : (c : Call) → Contains done c → Contains cs c
  known_in c h = Contains-permutation (answered_calls t l.answer pending ++ done) cs c l.each_once
      (Contains-append_right (answered_calls t l.answer pending) done c h)

  number_at : (xs : List Call) (c : Call) (ys : List Call) → cs ≡ xs ++ c ∷ ys
      → number c ≡ length xs
  number_at xs c ys is =
      run_number empty xs c ys (subst (Each IsTicket) is tickets)
      (subst (IsLegalHistory empty) is l.run) ∙ omega arith

  -- in the order b is before a, or they are the same, or b is after a
  standing : (a b : Call) → Contains done a → Contains done b
      → ((number b < number a) × KeepsOrder b a) ⊎ ((a ≡ b) ⊎ (number a < number b))
  standing a b ka kb =
      let s = split_at cs a (known_in a ka) in
      let na = number_at s.prefix a s.back s.is in
      elim (in_either s.prefix a s.back b (subst (λ zs. Contains zs b) s.is (known_in b kb))) [
        | inl r ↦
            let whole : cs ≡ r.prefix ++ b ∷ (r.back ++ a ∷ s.back) =
            s.is ∙ ap (λ zs. zs ++ a ∷ s.back) r.is ∙ append_assoc r.prefix (b ∷ r.back)
            (a ∷ s.back) in
            let nb = number_at r.prefix b (r.back ++ a ∷ s.back) whole in
            let longer : length s.prefix ≡ length (r.prefix ++ b ∷ r.back) = ap length r.is in
            let before : All (λ x. KeepsOrder x a) s.prefix =
            pairs_left KeepsOrder s.prefix a s.back (subst (AllPairs KeepsOrder) s.is l.in_order)
            in
            inl (
              omega (arith, na, nb, longer, length_of r.prefix b r.back),
              All-contains (λ x.
                  KeepsOrder x a) s.prefix b before (contains_split s.prefix b r),
            )
        | inr (inl e) ↦ inr (inl e)
        | inr (inr r) ↦
            let whole : cs ≡ (s.prefix ++ a ∷ r.prefix) ++ b ∷ r.back =
            s.is ∙ ap (λ zs. s.prefix ++ a ∷ zs) r.is ∙ sym (append_assoc s.prefix (a ∷ r.prefix)
            (b ∷ r.back)) in
            let nb = number_at (s.prefix ++ a ∷ r.prefix) b r.back whole in
            inr (inr (omega (arith, na, nb, length_of s.prefix a r.prefix)))
      ]
    where
      length_of : (xs : List Call) (x : Call) (ys : List Call)
          → length (xs ++ x ∷ ys) ≡ length xs + suc (length ys)
      length_of [] x ys = omega arith
      length_of (y ∷ xs) x ys = omega (arith, length_of xs x ys)

      contains_split : (xs : List Call) (x : Call) → Split xs x → Contains xs x
      contains_split xs x r = subst (λ zs. Contains zs x) (sym r.is) (Contains-append_right r.prefix
          (x ∷ r.back) x (zero, omega arith, refl))

  not_twice : (a b : Call) → FromTwice done a b → ⊥
  not_twice a b f =
      elim (standing a b f.first f.second) [
        | inl h ↦ (let lt : number b < number a = h.0 in absurd (omega (arith, f.same)))
        | inr (inl e) ↦ f.apart (ap (λ (c : Call). c.last) e)
        | inr (inr lt) ↦ absurd (omega (arith, f.same))
      ]

  not_turned : (a b : Call) → FromTurned done a b → ⊥
  not_turned a b f =
      elim (standing a b f.first f.second) [
        | inl h ↦ h.1 f.before
        | inr (inl e) ↦ (let same : number a ≡ number b = ap number e in
            absurd (omega (arith, f.more)))
        | inr (inr lt) ↦ absurd (omega (arith, f.more))
      ]

  not_drawn : (c : Call) → FromDrawn done pending c → ⊥
  not_drawn c f =
      let s = split_at cs c (known_in c f.known) in
      let k = number c in
      let nc : k ≡ length s.prefix = number_at s.prefix c s.back s.is in
      let own : ReturnedTicket t c = All-contains (ReturnedTicket t) done c
      (all_from_each (ReturnedTicket t) done given.returned) f.known in
      let below : Each (λ x. number x < 0 + length s.prefix) s.prefix =
      run_below empty s.prefix (c ∷ s.back) (subst (Each IsTicket) s.is tickets)
      (subst (IsLegalHistory empty) s.is l.run) in
      let before : All (λ x. KeepsOrder x c) s.prefix = pairs_left KeepsOrder s.prefix c s.back
      (subst (AllPairs KeepsOrder) s.is l.in_order) in
      let prefix : count_by (early_number k c.last) s.prefix ≡ length s.prefix =
      count_every (early_number k c.last) s.prefix (all_from_each (λ x.
      early_number k c.last x ≡ true) s.prefix
      (each_both (λ x. number x < 0 + length s.prefix) (λ x. KeepsOrder x c) (λ x.
      early_number k c.last x ≡ true) (λ x lt h. front_one x lt h nc) s.prefix below
      (each_from_all (λ x. KeepsOrder x c) s.prefix before))) in
      let here : one (early_number k c.last c) ≡ 1 = one_yes (early_number k c.last c)
      (and_from (nat_le (number c) k) (nat_le c.first c.last)
      (le-leb (number c) k (omega arith)) (le-leb c.first c.last own.lasts)) in
      let whole : count_by (early_number k c.last) cs ≡ count_by (early_number k c.last) s.prefix +
      (one (early_number k c.last c) + count_by (early_number k c.last) s.back) =
      ap (count_by (early_number k c.last)) s.is ∙ count_append (early_number k c.last) s.prefix
      (c ∷ s.back) ∙ ap (λ n. count_by (early_number k c.last) s.prefix + n)
      (count_cons (early_number k c.last) c s.back) in
      let moved = count_moved (early_number k c.last) (answered_calls t l.answer pending ++ done) cs
      l.each_once in
      omega (
        arith,
        nc,
        prefix,
        here,
        whole,
        moved,
        count_append (early_number k c.last) (answered_calls t l.answer pending) done,
        answered_early k c.last t l.answer pending,
        done_early k c.last done,
        f.few,
      )
    where
      front_one : (x : Call) → number x < 0 + length (split_at cs c (known_in c f.known)).prefix
          → KeepsOrder x c → number c ≡ length (split_at cs c (known_in c f.known)).prefix
          → early_number (number c) c.last x ≡ true
      front_one x lt h e =
          and_from (nat_le (number x) (number c)) (nat_le x.first c.last)
          (le-leb (number x) (number c) (omega arith))
          (le-leb x.first c.last (elim (cases_lt c.last x.first) [
            | inl f ↦
                absurd (h f)
            | inr le ↦ le
          ]))

  pub no_order : (f : Fault) → ShowsIn done pending f → ⊥
  no_order (Twice a b) h = not_twice a b h
  no_order (Turned a b) h = not_turned a b h
  no_order (Drawn c) h = not_drawn c h
