-- The numbers of a buffer are those of a queue.
use Rattle.std.proofs.Common.{◌≡◌, ℕ, ◌+◌, ◌<◌, ◌≤◌, ◌==◌, true, false, cond, List, [], ◌∷◌}
use Rattle.std.proofs.Common.{◌++◌, length, Some, refl, ap, sym, ◌∙◌, subst, arith, length-append}
use Rattle.std.proofs.lemmas.Bool.{eqb-true, eq-eqb}
use Rattle.calls_core.specs.declared.history.Kind.TheVariants.{Buffer}
use Rattle.calls_core.specs.declared.history.Op.{Op}
use Rattle.calls_core.specs.declared.history.Op.TheVariants.{Advance, Read, Await, Ticket, P, V}
use Rattle.calls_core.specs.declared.history.Op.TheVariants.{PBoth, Put, Get, Produce, Consume}
use Rattle.calls_core.specs.declared.history.Reply.{Reply}
use Rattle.calls_core.specs.declared.history.Reply.TheVariants.{Done, Number, Timeout}
use Rattle.calls_core.specs.declared.history.Call.{Call}
use Rattle.calls_core.specs.Lists.{Each}
use Rattle.calls_core.specs.Histories.{Takes}
use Rattle.calls_core.specs.Linearizations.{Gives, after, set_at, IsLegalHistory, initial}
use Rattle.calls_buffers.specs.Queues.{Allows, items_after, IsQueueRun}

abbrev pub IsBufferCall : ℕ → Call → Type 0
IsBufferCall n c = Takes (Some (Buffer n)) c.op

set_other : (k x : ℕ) (f : ℕ → ℕ) (j : ℕ) → (k ≡ j → ⊥) → set_at k x f j ≡ f j
set_other k x f j ne =
    elim (k == j) as (λ b. (k == j) ≡ b → cond b x (f j) ≡ f j) [
      | true ↦ λ e. absurd (ne (eqb-true k j e))
      | false ↦ λ e. refl
    ] refl

set_same : (k x : ℕ) (f : ℕ → ℕ) (j : ℕ) → k ≡ j → set_at k x f j ≡ x
set_same k x f j e = ap (λ b. cond b x (f j)) (eq-eqb k j e)

-- the numbers from place i on are these items
abbrev Stored : (ℕ → ℕ) → ℕ → List ℕ → Type 0
Stored m i [] = Unit {0}
Stored m i (x ∷ xs) = (x ≡ m (3 + i)) × Stored m (i + 1) xs

stored_still : (m m' : ℕ → ℕ) (i : ℕ) (xs : List ℕ)
    → ((j : ℕ) → i ≤ j → j < i + length xs → m' (3 + j) ≡ m (3 + j)) → Stored m i xs
    → Stored m' i xs
stored_still m m' i [] same h = tt
stored_still m m' i (x ∷ xs) same h = (
  h.0 ∙ sym (same i (omega arith) (omega arith)),
  stored_still m m' (i + 1) xs (λ j ge lt. same j (omega arith) (omega arith)) h.1,
)

stored_more : (m : ℕ → ℕ) (i n v : ℕ) (xs : List ℕ) → n ≡ i + length xs → v ≡ m (3 + n)
    → Stored m i xs → Stored m i (xs ++ v ∷ [])
stored_more m i n v [] e is h =
    let same : n ≡ i = omega arith in (is ∙ ap (λ k. m (3 + k)) same, tt)
stored_more m i n v (x ∷ xs) e is h = (
  h.0,
  stored_more m (i + 1) n v xs (omega arith) is h.1,
)

-- the numbers m of a buffer with room for n items say that it holds these
record Mirrors (n : ℕ) (m : ℕ → ℕ) (items : List ℕ) : Type 0 where
  room : m 0 ≡ n
  held : m 2 ≡ m 1 + length items
  stored : Stored m (m 1) items

put_mirrors : (n v : ℕ) (m : ℕ → ℕ) (items : List ℕ) → Mirrors n m items
    → Mirrors n (after m (Produce v) Done) (items ++ v ∷ [])
put_mirrors n v m items h =
    let inner : ℕ → ℕ = set_at (3 + m 2) v m in
    let m' : ℕ → ℕ = set_at 2 (m 2 + 1) inner in
    let apart : (j : ℕ) → j < 3 + m 2 → (2 ≡ j → ⊥) → m' j ≡ m j = λ j lt ne.
    set_other 2 (m 2 + 1) inner j ne ∙ set_other (3 + m 2) v m j (λ e. omega arith) in
    let zeroth : m' 0 ≡ m 0 = apart 0 (omega arith) (λ e. omega arith) in
    let first : m' 1 ≡ m 1 = apart 1 (omega arith) (λ e. omega arith) in
    let second : m' 2 ≡ m 2 + 1 = set_same 2 (m 2 + 1) inner 2 refl in
    let new : m' (3 + m 2) ≡ v = set_other 2 (m 2 + 1) inner (3 + m 2) (λ e. omega arith)
    ∙ set_same (3 + m 2) v m (3 + m 2) refl in
    let held = h.held in
    record {
      room = zeroth ∙ h.room;
      held = omega (arith, length-append items (v ∷ []));
      stored = subst (λ i. Stored m' i (items ++ v ∷ [])) (sym first)
          (stored_more m' (m 1) (m 2) v items held (sym new)
          (stored_still m m' (m 1) items (λ j ge lt. apart (3 + j) (omega arith) (λ e. omega arith))
          h.stored));
    }

take_mirrors : (n v x : ℕ) (m : ℕ → ℕ) (items : List ℕ) → Mirrors n m (x ∷ items)
    → Mirrors n (after m Consume (Number v)) items
take_mirrors n v x m items h =
    let m' : ℕ → ℕ = set_at 1 (m 1 + 1) m in
    let apart : (j : ℕ) → (1 ≡ j → ⊥) → m' j ≡ m j = λ j ne. set_other 1 (m 1 + 1) m j ne in
    let zeroth : m' 0 ≡ m 0 = apart 0 (λ e. omega arith) in
    let first : m' 1 ≡ m 1 + 1 = set_same 1 (m 1 + 1) m 1 refl in
    let second : m' 2 ≡ m 2 = apart 2 (λ e. omega arith) in
    let held = h.held in
    record {
      room = zeroth ∙ h.room;
      held = omega arith;
      stored = subst (λ i. Stored m' i items) (sym first)
          (stored_still m m' (m 1 + 1) items (λ j ge lt. apart (3 + j) (λ e. omega arith))
          h.stored.1);
    }

-- one call
record Agrees (n : ℕ) (m : ℕ → ℕ) (items : List ℕ) (op : Op) (r : Reply) : Type 0 where
  allows : Gives m op r → Allows n items op r
  gives : Allows n items op r → Gives m op r
  next : Allows n items op r → Mirrors n (after m op r) (items_after items op r)

agrees : (n : ℕ) (m : ℕ → ℕ) (items : List ℕ) (op : Op) (r : Reply) → Takes (Some (Buffer n)) op
    → Mirrors n m items → Agrees n m items op r
agrees n m items (Produce v) Done t h =
    let room = h.room in
    let held = h.held in
    record {
      allows = λ g. omega arith;
      gives = λ a. omega arith;
      next = λ a. put_mirrors n v m items h;
    }
agrees n m items (Produce v) (Number w) t h =
    record { allows = λ g. g; gives = λ a. a; next = λ a. absurd a }
agrees n m items (Produce v) Timeout t h =
    record { allows = λ g. tt; gives = λ a. tt; next = λ a. h }
agrees n m [] Consume Done t h = record { allows = λ g. g; gives = λ a. a; next = λ a. absurd a }
agrees n m (x ∷ items) Consume Done t h =
    record { allows = λ g. g; gives = λ a. a; next = λ a. absurd a }
agrees n m [] Consume (Number v) t h =
    let held = h.held in
    record { allows = λ g. omega (arith, g.0); gives = λ a. absurd a; next = λ a. absurd a }
agrees n m (x ∷ items) Consume (Number v) t h =
    let held = h.held in
    record {
      allows = λ g. g.1 ∙ sym h.stored.0;
      gives = λ a. (omega arith, a ∙ h.stored.0);
      next = λ a. take_mirrors n v x m items h;
    }
agrees n m [] Consume Timeout t h =
    record { allows = λ g. tt; gives = λ a. tt; next = λ a. h }
agrees n m (x ∷ items) Consume Timeout t h =
    record { allows = λ g. tt; gives = λ a. tt; next = λ a. h }
agrees n m items Advance r t h = absurd t
agrees n m items Read r t h = absurd t
agrees n m items (Await v) r t h = absurd t
agrees n m items Ticket r t h = absurd t
agrees n m items (P i) r t h = absurd t
agrees n m items (V i) r t h = absurd t
agrees n m items (PBoth i j) r t h = absurd t
agrees n m items (Put v) r t h = absurd t
agrees n m items Get r t h = absurd t

to_queue : (n : ℕ) (m : ℕ → ℕ) (items : List ℕ) (cs : List Call) → Each (IsBufferCall n) cs
    → Mirrors n m items → IsLegalHistory m cs → IsQueueRun n items cs
to_queue n m items [] t h run = tt
to_queue n m items (c ∷ cs) t h run =
    let a = agrees n m items c.op c.reply t.0 h in
    let allowed = a.allows run.0 in (
      allowed,
      to_queue n (after m c.op c.reply) (items_after items c.op c.reply) cs t.1 (a.next allowed)
          run.1,
    )

from_queue : (n : ℕ) (m : ℕ → ℕ) (items : List ℕ) (cs : List Call) → Each (IsBufferCall n) cs
    → Mirrors n m items → IsQueueRun n items cs → IsLegalHistory m cs
from_queue n m items [] t h run = tt
from_queue n m items (c ∷ cs) t h run =
    let a = agrees n m items c.op c.reply t.0 h in (
      a.gives run.0,
      from_queue n (after m c.op c.reply) (items_after items c.op c.reply) cs t.1 (a.next run.0)
          run.1,
    )

empty_mirrors : (n : ℕ) → Mirrors n (initial (Some (Buffer n))) []
empty_mirrors n = record { room = refl; held = refl; stored = tt }

pub is_queue : (n : ℕ) (cs : List Call) → Each (IsBufferCall n) cs
    → IsLegalHistory (initial (Some (Buffer n))) cs → IsQueueRun n [] cs
is_queue n cs t run = to_queue n (initial (Some (Buffer n))) [] cs t (empty_mirrors n) run

pub is_run : (n : ℕ) (cs : List Call) → Each (IsBufferCall n) cs → IsQueueRun n [] cs
    → IsLegalHistory (initial (Some (Buffer n))) cs
is_run n cs t run = from_queue n (initial (Some (Buffer n))) [] cs t (empty_mirrors n) run
