-- P on two semaphores at once. The two tickets are drawn while the worker has the common semaphore,
-- a guard, so that all workers that use the same two are in one order.
use Rattle.std.specs.Prelude.{ℕ, Bool, true, false, ◌==◌, ◌&&◌, ◌||◌, not, List, [], ◌∷◌, Option, Some, None, is_some}
use Rattle.std.specs.List.{list_any}
use Rattle.ec_core.specs.declared.act.Act.{Act}
use Rattle.ec_core.specs.declared.act.Act.TheVariants.{Advance, Await, Ticket}
use Rattle.ec_core.specs.Following.{CompletedCall, Rule}
use Rattle.ec_core.specs.CallLists.{is_due, reply_number}
use Rattle.ec_semaphore.specs.Shapes.{Semaphore}
use Rattle.ec_semaphore.specs.Uses.{threshold, is_on}

-- the critical section, if the tickets are drawn from p and then q: the call that comes after these completed calls, or
-- none
abbrev pub critical_section_call : Semaphore → ℕ → ℕ → List CompletedCall → Option Act
critical_section_call c p q [] = Some (Ticket c.line)
critical_section_call c p q (t ∷ []) = Some (Await c.count (reply_number t.reply))
critical_section_call c p q (t ∷ a ∷ []) = Some (Ticket p)
critical_section_call c p q (t ∷ a ∷ r ∷ []) = Some (Ticket q)
critical_section_call c p q (t ∷ a ∷ r ∷ s ∷ []) = Some (Advance c.count)
critical_section_call c p q (t ∷ a ∷ r ∷ s ∷ v ∷ rest) = None

-- the whole of it: the critical section, and then the waits for the one semaphore and for the other
abbrev pub down_both_call : Semaphore → Semaphore → Semaphore → List CompletedCall → Option Act
down_both_call c one other (t ∷ a ∷ r ∷ s ∷ v ∷ []) = Some (Await one.count (threshold one (reply_number r.reply)))
down_both_call c one other (t ∷ a ∷ r ∷ s ∷ v ∷ b ∷ []) = Some (Await other.count (threshold other (reply_number s.reply)))
down_both_call c one other (t ∷ a ∷ r ∷ s ∷ v ∷ b ∷ d ∷ rest) = None
down_both_call c one other calls = critical_section_call c one.line other.line calls

-- the sequencer that an act draws from
abbrev pub sequencer_number : Act → ℕ
sequencer_number (Ticket q) = q
sequencer_number _ = 0

-- a semaphore is identified by its sequencer: whether q is that of one of these semaphores, and not
-- that of the common one
abbrev pub is_semaphore_sequencer : Semaphore → List Semaphore → ℕ → Bool
is_semaphore_sequencer c shapes q =
    not (q == c.line) && list_any (λ (s : Semaphore). s.line == q) shapes

-- whether the two tickets are drawn from different ones of these sequencers
abbrev pub is_choice : (ℕ → Bool) → List CompletedCall → Act → Bool
is_choice lines (t ∷ a ∷ []) op = lines (sequencer_number op)
is_choice lines (t ∷ a ∷ r ∷ []) op =
    lines (sequencer_number op) && not (sequencer_number r.op == sequencer_number op)
is_choice lines calls op = true

abbrev pub is_begun : List CompletedCall → Bool
is_begun [] = false
is_begun (c ∷ calls) = true

-- a worker's calls on the common semaphore are critical sections, and within one it makes no other call at
-- all
abbrev pub both_rule : Semaphore → (ℕ → Bool) → Rule
both_rule c lines = record {
  concerns = λ b op. is_begun b || is_on c op;
  fits = λ b op. is_due (critical_section_call c (sequencer_number op) (sequencer_number op) b) op && is_choice lines b op;
  ends = λ b. not (is_some (critical_section_call c 0 0 b));
}

abbrev pub both_rules : Semaphore → (ℕ → Bool) → ℕ → Rule
both_rules c lines w = both_rule c lines
