-- Orders of the calls so far, with what the buffer holds after them.
use Rattle.std.specs.Prelude.{◌≡◌, ℕ, Option, List, [], ◌∷◌, ◌++◌}
use Rattle.std.specs.List.Sorted.{IsPermutation}
use Rattle.calls_core.specs.declared.history.Op.{Op}
use Rattle.calls_core.specs.declared.history.Reply.{Reply}
use Rattle.calls_core.specs.declared.history.Event.{Event}
use Rattle.calls_core.specs.declared.history.PendingCall.{PendingCall}
use Rattle.calls_core.specs.declared.history.Call.{Call}
use Rattle.calls_core.specs.Lists.{Each, EachPair}
use Rattle.calls_core.specs.Histories.{clock, completed_calls, pending_calls}
use Rattle.calls_core.specs.Linearizations.{KeepsOrder, answered_calls}
use Rattle.calls_buffers.specs.Queues.{Allows, items_after}

-- the calls are possible one after another in a buffer with room for n items that holds these at
-- first, and then it holds `left`
abbrev pub QueuesTo : ℕ → List ℕ → List Call → List ℕ → Type 0
QueuesTo n items [] left = items ≡ left
QueuesTo n items (c ∷ cs) left =
    Allows n items c.op c.reply × QueuesTo n (items_after items c.op c.reply) cs left

-- an order of these calls that keeps the real-time order, and after which the buffer holds `left`
pub record IsQueueOrder (n : ℕ) (calls cs : List Call) (left : List ℕ) : Type 0 where
  pub each_once : IsPermutation calls cs
  pub in_order : EachPair KeepsOrder cs
  pub run : QueuesTo n [] cs left

-- the pending calls that have an answer, by their operation, and the completed calls
abbrev pub calls_with : (Op → Option Reply) → List Event → List Call
calls_with answer past = answered_calls (clock past) (λ (o : PendingCall). answer o.op)
    (pending_calls past) ++ completed_calls past

-- an order of the completed calls, and of the pending ones that have an answer, after which the
-- buffer holds `left`
abbrev pub IsOrderTo : ℕ → List Event → (Op → Option Reply) → List Call → List ℕ → Type 0
IsOrderTo n past answer cs left = IsQueueOrder n (calls_with answer past) cs left

-- both answers are the same for each of these calls
abbrev pub AnswersAlike : (Op → Option Reply) → (Op → Option Reply) → List PendingCall → Type 0
AnswersAlike f g os = Each (λ (o : PendingCall). f o.op ≡ g o.op) os
