-- Tickets have a linearization or show a fault, whatever the code.
use Rattle.std.proofs.Common.{◌≡◌, ℕ, zero, suc, ◌+◌, ◌-◌, ◌<◌, ◌≤◌, ◌⊎◌, inl, inr, List, [], ◌∷◌}
use Rattle.std.proofs.Common.{◌++◌, length, take, get_or, set, replicate, Option, Some, None, refl}
use Rattle.std.proofs.Common.{sym, ◌∙◌, arith, subst, length-set}
use Rattle.std.proofs.lemmas.Bool.{cases_lt}
use Rattle.std.proofs.lemmas.List.{take_all, length-replicate}
use Rattle.std.proofs.lemmas.List.Sums.{count_by-le-length}
use Rattle.std.specs.Prelude.{nat_le}
use Rattle.calls_core.specs.declared.history.Kind.TheVariants.{Sequencer}
use Rattle.calls_core.specs.declared.history.Op.{Op}
use Rattle.calls_core.specs.declared.history.Op.TheVariants.{Ticket, Advance, Read, Await, P, V}
use Rattle.calls_core.specs.declared.history.Op.TheVariants.{PBoth, Put, Get, Produce, Consume}
use Rattle.calls_core.specs.declared.history.Reply.{Reply}
use Rattle.calls_core.specs.declared.history.Reply.TheVariants.{Done, Number, Timeout}
use Rattle.calls_core.specs.declared.history.PendingCall.{PendingCall}
use Rattle.calls_core.specs.declared.history.Call.{Call}
use Rattle.calls_core.specs.Lists.{Each, EachPair}
use Rattle.calls_core.specs.Histories.{completion, Takes, Suits}
use Rattle.calls_core.specs.Calls.{AreCallsOf, IsCallOf, Early}
use Rattle.calls_core.proofs.Lists.{each_weaker, each_both}
use Rattle.calls_tickets.specs.declared.fault.Fault.{Fault}
use Rattle.calls_tickets.specs.declared.fault.Fault.TheVariants.{Twice, Turned, Drawn}
use Rattle.calls_tickets.specs.Faults.{ticket_number, number, ShowsIn}
use Rattle.calls_tickets.specs.kept.Tables.{IsReturnedNumber, ReturnedTicket, InvokedTicket}
use Rattle.calls_tickets.specs.kept.Tables.{AreTickets, IsTicketOrder, IsTable, IsBroken, IsWritten}
use Rattle.calls_tickets.specs.kept.Tables.{fault_of}
use Rattle.calls_tickets.proofs.Tables.{at, table_start, made_more, returned_twice, returned_beyond}
use Rattle.calls_tickets.proofs.Tables.{known_at}
use Rattle.calls_tickets.proofs.Writing.{written_start}
use Rattle.calls_tickets.proofs.Written.{blamed, returned_step, free_step, all_written}

-- THE CALLS OF A SEQUENCER ARE TICKETS

ticket_taken : (op : Op) → Takes (Some Sequencer) op → op ≡ Ticket
ticket_taken Advance h = absurd h
ticket_taken Read h = absurd h
ticket_taken (Await v) h = absurd h
ticket_taken Ticket h = refl
ticket_taken (P i) h = absurd h
ticket_taken (V i) h = absurd h
ticket_taken (PBoth i j) h = absurd h
ticket_taken (Put v) h = absurd h
ticket_taken Get h = absurd h
ticket_taken (Produce v) h = absurd h
ticket_taken Consume h = absurd h

number_suits : (r : Reply) → Suits Ticket r → r ≡ Number (ticket_number r)
number_suits Done h = absurd h
number_suits (Number n) h = refl
number_suits Timeout h = absurd h

pub ticket_suits : (op : Op) (r : Reply) → Takes (Some Sequencer) op → Suits op r
    → r ≡ Number (ticket_number r)
ticket_suits op r h k = number_suits r (subst (λ o. Suits o r) (ticket_taken op h) k)

pub tickets_of : (done : List Call) (pending : List PendingCall) (t u : ℕ) → t ≤ u + 1
    → AreCallsOf Sequencer done pending t → AreTickets done pending u
tickets_of done pending t u le h = record {
  returned = each_weaker (IsCallOf Sequencer t) (ReturnedTicket u) (λ (c : Call) k. record {
    ticket = ticket_taken c.op k.fits;
    returned = ticket_suits c.op c.reply k.fits k.suits;
    lasts = omega (arith, k.lasts);
    early = omega (arith, k.early);
  }) done h.completed;
  falls = h.falls;
  invoked = each_both (Early t) (λ (o : PendingCall). Takes (Some Sequencer) o.op) (InvokedTicket u)
      (λ (o : PendingCall) e k. record { ticket = ticket_taken o.op k; early = omega (arith, e) })
      pending h.early h.fits;
  rises = h.rises;
}

-- A TABLE

nobody : Call
nobody = record { worker = 0; object = 0; op = Ticket; reply = Done; first = 0; last = 0 }

abbrev pub waiting : PendingCall
waiting = record { worker = 0; object = 0; op = Ticket; first = 0 }

record Tabled (done : List Call) (size : ℕ) : Type 0 where
  slots : List (Option Call)
  table : IsTable done slots
  long : length slots ≡ size

table_or : (done : List Call) (size : ℕ) → Each IsReturnedNumber done
    → EachPair (λ (a b : Call). b.last < a.last) done → (i : ℕ) → i ≤ length done
    → Tabled (take i done) size ⊎ ((f : Fault) × IsBroken done size f)
table_or done size returned falls zero le = inl (record {
  slots = replicate size None;
  table =
      table_start size (replicate size None) refl;
  long = length-replicate size None;
})
table_or done size returned falls (suc i) le = go (table_or done size returned falls i
    (omega arith))
  where
    c : Call
    c = get_or done i nobody

    more : (slots : List (Option Call)) → IsTable (take i done) slots → length slots ≡ size
        → number c < length slots → (v : Option Call) → get_or slots (number c) None ≡ v
        → Tabled (take (suc i) done) size ⊎ ((f : Fault) × IsBroken done size f)
    more slots table long lt None is = (let same : i + 1 ≡ suc i = omega arith in inl (record {
      slots = set slots (number c) (Some c);
      table = subst (λ k. IsTable (take k done) (set slots (number c) (Some c))) same
          (made_more done i c slots (number c) None (at done i nobody (omega arith)) returned table
          lt (sym is) refl refl);
      long = length-set _ _ _ ∙ long;
    }))
    more slots table long lt (Some a) is = inr (
      Twice a c,
      returned_twice done i c slots
          (number c) None a (at done i nobody (omega arith)) table lt is refl falls,
    )

    go : Tabled (take i done) size ⊎ ((f : Fault) × IsBroken done size f)
        → Tabled (take (suc i) done) size ⊎ ((f : Fault) × IsBroken done size f)
    go (inr f) = inr f
    go (inl w) = elim (cases_lt (number c) (length w.slots)) [
      | inl lt ↦ more w.slots w.table w.long lt (get_or w.slots (number c) None) refl
      | inr ge ↦ inr (
        Drawn c,
        returned_beyond done size c (number c)
            (known_at done i c (at done i nobody (omega arith))) refl (omega (arith, w.long)),
      )
    ]

pub broken_shows : (done : List Call) (pending : List PendingCall) (size : ℕ) (f : Fault)
    → size ≡ length done + length pending → IsBroken done size f → ShowsIn done pending f
broken_shows done pending size (Twice a b) e h = h
broken_shows done pending size (Turned a b) e h = absurd h
broken_shows done pending size (Drawn c) e h = record {
  known = h.known;
  few = omega (
    arith,
    h.great,
    count_by-le-length (λ (d : Call). nat_le (number d) (number c)) done,
    count_by-le-length (λ (o : PendingCall). nat_le o.first c.last) pending,
  );
}

pub returned_numbers : (done : List Call) (pending : List PendingCall) (t : ℕ)
    → AreTickets done pending t → Each IsReturnedNumber done
returned_numbers done pending t h = each_weaker (ReturnedTicket t) IsReturnedNumber (λ c k.
    record { ticket = k.ticket; returned = k.returned }) done h.returned

-- AN ORDER

module _ (done : List Call) (pending : List PendingCall) (t : ℕ) (slots : List (Option Call))
    (tickets : AreTickets done pending t) (table : IsTable done slots)
    (long : length slots ≡ length done + length pending) where
  record Wrote (n : ℕ) : Type 0 where
    order : List Call
    latest : ℕ
    next : ℕ
    owner : Option Call
    is : IsWritten t (take n slots) pending order latest next owner

  abbrev Answer : ℕ → Type 0
  Answer n = Wrote n ⊎ ((f : Fault) × ShowsIn done pending f)

  one_step : (n : ℕ) → n < length slots → (order : List Call) (latest next : ℕ)
      (owner : Option Call) → IsWritten t (take n slots) pending order latest next owner
      → (s : Option Call) → get_or slots n None ≡ s → Answer (n + 1)
  one_step n lt order latest next owner w (Some c) e =
      elim (cases_lt c.last latest) [
        | inl late ↦ inr (
          fault_of c owner,
          blamed done pending t slots tickets table long n
              (get_or slots n None) c order latest next owner (fault_of c owner)
              (at slots n None lt)
              e w late refl,
        )
        | inr low ↦ elim (cases_lt latest c.first) [
          | inl new ↦ inl (record {
            order = order ++ c ∷ [];
            latest = c.first;
            next = next;
            owner = get_or slots n None;
            is = returned_step done pending t slots tickets table long n (get_or slots n None) c c
                order (order ++ c ∷ []) latest next next owner c.first (get_or slots n None)
                (at slots n None lt) e refl refl w low (inl (new, refl, refl)) refl;
          })
          | inr old ↦ inl (record {
            order = order ++ c ∷ [];
            latest = latest;
            next = next;
            owner = owner;
            is = returned_step done pending t slots tickets table long n (get_or slots n None) c c
                order (order ++ c ∷ []) latest next next owner latest owner (at slots n None lt) e
                refl refl w low (inr (old, refl, refl)) refl;
          })
        ]
      ]
  one_step n lt order latest next owner w None e =
      let o = get_or pending (next + 1 - 1) waiting in
      let c = completion t (Number n) o in
      elim (cases_lt latest c.first) [
        | inl new ↦ inl (record {
          order = order ++ c ∷ [];
          latest = c.first;
          next = next + 1;
          owner = get_or slots n None;
          is = free_step done pending t slots tickets table long n (get_or slots n None) waiting c c
              order (order ++ c ∷ []) latest next (next + 1) owner c.first (get_or slots n None)
              (at slots n None lt) e refl refl refl w (inl (new, refl, refl)) refl;
        })
        | inr old ↦ inl (record {
          order = order ++ c ∷ [];
          latest = latest;
          next = next + 1;
          owner = owner;
          is = free_step done pending t slots tickets table long n (get_or slots n None) waiting c c
              order (order ++ c ∷ []) latest next (next + 1) owner latest owner (at slots n None lt)
              e refl refl refl w (inr (old, refl, refl)) refl;
        })
      ]

  all_steps : (n : ℕ) → n ≤ length slots → Answer n
  all_steps zero le = inl (record {
    order = [];
    latest = 0;
    next = 0;
    owner = None;
    is =
        written_start t pending;
  })
  all_steps (suc n) le = go (all_steps n (omega arith))
    where
      go : Answer n → Answer (suc n)
      go (inr f) = inr f
      go (inl w) = (let same : n + 1 ≡ suc n = omega arith in
          subst Answer same (one_step n (omega arith) w.order w.latest w.next w.owner w.is
          (get_or slots n None) refl))

  all_wrote : Answer (length slots) → ((cs : List Call) × IsTicketOrder done pending t cs)
      ⊎ ((f : Fault) × ShowsIn done pending f)
  all_wrote (inr f) = inr f
  all_wrote (inl w) = inl (
    w.order,
    all_written done pending t slots tickets table long
        (length slots) w.order w.latest w.next w.owner (omega arith) w.is,
  )

  pub by_table : ((cs : List Call) × IsTicketOrder done pending t cs)
      ⊎ ((f : Fault) × ShowsIn done pending f)
  by_table = all_wrote (all_steps (length slots) (omega arith))

pub decided : (done : List Call) (pending : List PendingCall) (t : ℕ) → AreTickets done pending t
    → ((cs : List Call) × IsTicketOrder done pending t cs) ⊎ ((f : Fault) × ShowsIn done pending f)
decided done pending t tickets =
    go (table_or done (length done + length pending) (returned_numbers done pending t tickets)
    tickets.falls (length done) (omega arith))
  where
    go : Tabled (take (length done) done) (length done + length pending)
        ⊎ ((f : Fault) × IsBroken done (length done + length pending) f)
        → ((cs : List Call) × IsTicketOrder done pending t cs)
        ⊎ ((f : Fault) × ShowsIn done pending f)
    go (inr f) = inr (f.0, broken_shows done pending (length done + length pending) f.0 refl f.1)
    go (inl w) = by_table done pending t w.slots tickets (subst (λ ds. IsTable ds w.slots)
        (take_all (length done) done (omega arith)) w.table) w.long
