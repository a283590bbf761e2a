-- What flows through a buffer with one producer and one consumer.
use Rattle.std.specs.Prelude.{◌≡◌, ◌⊎◌, ℕ, ◌≤◌, List, [], ◌∷◌, ◌++◌, length, reverse, count_by}
use Rattle.std.specs.List.{filter_map}
use Rattle.calls_core.specs.declared.history.Event.{Event}
use Rattle.calls_core.specs.declared.history.PendingCall.{PendingCall}
use Rattle.calls_core.specs.declared.history.Call.{Call}
use Rattle.calls_core.specs.Histories.{completed_calls, pending_calls}
use Rattle.calls_buffers.specs.Accesses.{produced_item, put_item, taken_item}
use Rattle.calls_buffers.specs.Counts.{any_item, produces, is_consume}

-- the items that completed produces put in, in the order of their responses
abbrev pub put_items : List Event → List ℕ
put_items past = filter_map (λ (c : Call). put_item c.op c.reply) (reverse (completed_calls past))

-- the items that completed consumes returned, in the order of their responses
abbrev pub taken_items : List Event → List ℕ
taken_items past =
    filter_map (λ (c : Call). taken_item c.op c.reply) (reverse (completed_calls past))

-- the items of the pending produces, in the order of their invocations
abbrev pub asked_items : List Event → List ℕ
asked_items past = filter_map (λ (o : PendingCall). produced_item o.op) (pending_calls past)

abbrev pub pending_produces : List Event → ℕ
pending_produces past = count_by (λ (o : PendingCall). produces any_item o.op) (pending_calls past)

abbrev pub pending_consumes : List Event → ℕ
pending_consumes past = count_by (λ (o : PendingCall). is_consume o.op) (pending_calls past)

-- one producer and one consumer: at each moment at most one produce and one consume are pending
abbrev pub IsSpsc : List Event → Type 0
IsSpsc [] = Unit {0}
IsSpsc (x ∷ past) = (pending_produces (x ∷ past) ≤ 1) × (pending_consumes (x ∷ past) ≤ 1)
    × IsSpsc past

-- what was returned is a beginning of what was put in, and there is room for n items that are left.
-- A pending produce may have put its item in, and a pending consume may have taken one
pub record Flows (n : ℕ) (past : List Event) : Type 0 where
  -- [], or the items of the pending produces
  pub late_puts : List ℕ
  pub asked : (late_puts ≡ []) ⊎ (late_puts ≡ asked_items past)
  -- what pending consumes have taken
  pub late_takes : List ℕ
  pub few_takes : length late_takes ≤ pending_consumes past
  -- what is left
  pub left : List ℕ
  pub room : length left ≤ n
  pub order : put_items past ++ late_puts ≡ taken_items past ++ late_takes ++ left

-- the items flow at each moment up to now
abbrev pub FlowsAlways : ℕ → List Event → Type 0
FlowsAlways n [] = Unit {0}
FlowsAlways n (x ∷ past) = Flows n (x ∷ past) × FlowsAlways n past
