-- Calls that a kernel makes one after another.
use Rattle.std.specs.Prelude.{◌≡◌, ℕ, ◌+◌, ◌-◌, ◌<◌, ◌≤◌, true, false, ◌==◌, ◌&&◌, List, [], ◌∷◌}
use Rattle.std.specs.Prelude.{length, reverse, count_by, None}
use Rattle.std.specs.List.{AllZip}
use Rattle.ec_count.specs.Tables.{Tables}
use Rattle.ec_core.specs.declared.act.Act.{Act}
use Rattle.ec_core.specs.declared.act.Act.TheVariants as acts
use Rattle.ec_core.specs.declared.act.Reply.{Reply as StepReply}
use Rattle.ec_core.specs.declared.act.Reply.TheVariants as replies
use Rattle.ec_core.specs.declared.act.Entry.{Entry}
use Rattle.ec_core.specs.Counts.{is_advance, is_ticket}
use Rattle.ec_core.specs.Calls.{under_way}
use Rattle.ec_core.specs.Acceptance.{IsAccepted, has_right, is_too_large}
use Rattle.ec_order.specs.declared.call.Call.{Call as FinishedCall}
use Rattle.ec_order.specs.Calls.{finished_calls}
use Rattle.calls_core.specs.declared.history.Op.{Op}
use Rattle.calls_core.specs.declared.history.Op.TheVariants.{Advance, Read, Await, Ticket, Put, Get}
use Rattle.calls_core.specs.declared.history.Reply.{Reply}
use Rattle.calls_core.specs.declared.history.Reply.TheVariants.{Done, Number, Timeout}
use Rattle.calls_core.specs.declared.history.Call.{Call}

-- the act that begins a call of object k, if the objects are the declared eventcounts, then the
-- sequencers, then the cells
abbrev pub act_on : Tables → ℕ → Op → Act
act_on t k Advance = acts.Advance k
act_on t k Read = acts.Read k
act_on t k (Await v) = acts.Await k v
act_on t k Ticket = acts.Ticket (k - length t.events)
act_on t k (Put v) = acts.Put (k - length t.events - length t.takers) v
act_on t k Get = acts.Get (k - length t.events - length t.takers)
act_on t k _ = acts.Go

abbrev pub act_of_call : Tables → Call → Act
act_of_call t c = act_on t c.object c.op

-- CALLS WITHIN RIGHTS AND LIMIT

-- the worker is declared and has the right to the call, the value or threshold is not too large,
-- and the call did not give up
pub record IsGranted (t : Tables) (c : Call) : Type 0 where
  pub worker : c.worker < t.workers
  pub right : has_right t [] c.worker (act_of_call t c) ≡ true
  pub small : is_too_large (act_of_call t c) ≡ false
  pub stays : c.reply ≡ Timeout → ⊥

-- the advances of each worker on each eventcount, and the tickets of each sequencer, are at most
-- the limit
pub record KeepsLimit (t : Tables) (cs : List Call) : Type 0 where
  pub advances : (e w : ℕ)
      → count_by (λ (c : Call). is_advance e (act_of_call t c) && (c.worker == w)) cs ≤ t.limit
  pub tickets : (q : ℕ) → count_by (λ (c : Call). is_ticket q (act_of_call t c)) cs ≤ t.limit

-- HOW THEY ARE MADE

-- the reply to a call of this op, and the reply to its last entry. If an await returned no number,
-- the latter is a number that reaches its threshold
abbrev pub IsReplyOf : Op → Reply → StepReply → Type 0
IsReplyOf (Await v) Done (replies.Number n) = v ≤ n
IsReplyOf op Done replies.Done = Unit {0}
IsReplyOf op (Number n) (replies.Number m) = n ≡ m
IsReplyOf _ _ _ = ⊥

pub record IsMadeAs (t : Tables) (d : FinishedCall) (c : Call) : Type 0 where
  pub worker : d.worker ≡ c.worker
  pub act : d.op ≡ act_of_call t c
  pub reply : IsReplyOf c.op c.reply d.reply

-- the completed calls are these calls in this order
abbrev pub AreMadeAs : Tables → List FinishedCall → List Call → Type 0
AreMadeAs t ds cs = AllZip (IsMadeAs t) ds cs

-- each call begins right after the last entry of the call before it, from position i to position n
abbrev pub AreInARow : ℕ → List FinishedCall → ℕ → Type 0
AreInARow i [] n = i ≡ n
AreInARow i (d ∷ ds) n = (d.first ≡ i) × (d.first ≤ d.last) × AreInARow (d.last + 1) ds n

-- an accepted history of steps in which the completed calls are these calls, in this order, each
-- with its entries next to each other. There is no other entry: no call is pending at its end
pub record AreMade (t : Tables) (cs : List Call) : Type 0 where
  pub steps : List Entry
  pub accepted : IsAccepted t (reverse steps)
  pub calls : AreMadeAs t (finished_calls t (reverse steps)) cs
  pub in_a_row : AreInARow 0 (finished_calls t (reverse steps)) (length steps)
  pub ended : (w : ℕ) → under_way w (reverse steps) ≡ None
