-- How the state of a monitor represents the history so far.
use Rattle.std.specs.Prelude.{◌≡◌, ◌⊎◌, ℕ, ◌<◌, ◌≤◌, Option, Some, None, IfSome, List, [], ◌∷◌}
use Rattle.std.specs.Prelude.{◌++◌, length, if◌then◌else◌}
use Rattle.calls_core.specs.declared.history.Op.{Op}
use Rattle.calls_core.specs.declared.history.Op.TheVariants.{Produce, Consume}
use Rattle.calls_core.specs.declared.history.Reply.{Reply}
use Rattle.calls_core.specs.declared.history.Reply.TheVariants.{Done, Number}
use Rattle.calls_core.specs.declared.history.Event.{Event}
use Rattle.calls_core.specs.declared.history.PendingCall.{PendingCall}
use Rattle.calls_core.specs.declared.history.Call.{Call}
use Rattle.calls_core.specs.Histories.{pending_calls}
use Rattle.calls_spsc.specs.declared.monitor.TheConstants.{ROOM_MAX}
use Rattle.calls_spsc.specs.declared.monitor.PendingPut.{PendingPut}
use Rattle.calls_spsc.specs.declared.monitor.PendingTake.{PendingTake}
use Rattle.calls_spsc.specs.Flows.{put_items, taken_items}
use Rattle.calls_spsc.specs.kept.Orders.{IsOrderTo}

-- THE PENDING CALLS

abbrev pub put_calls : Option PendingPut → List PendingCall
put_calls None = []
put_calls (Some p) = p.call ∷ []

abbrev pub take_calls : Option PendingTake → List PendingCall
take_calls None = []
take_calls (Some t) = t.call ∷ []

-- the pending calls are this produce, if there is one, and this consume, if there is one
pub record ArePendingAs (os : List PendingCall) (put : Option PendingPut)
    (take : Option PendingTake) : Type 0 where
  pub calls : (os ≡ put_calls put ++ take_calls take) ⊎ (os ≡ take_calls take ++ put_calls put)
  pub produce : IfSome put (λ (p : PendingPut). p.call.op ≡ Produce p.item)
  pub consume : IfSome take (λ (t : PendingTake). t.call.op ≡ Consume)
  pub apart : IfSome put (λ (p : PendingPut).
      IfSome take (λ (t : PendingTake). p.call.worker ≡ t.call.worker → ⊥))

-- THE ITEMS

-- the item of the pending produce, if it was returned
abbrev pub early_item : Option PendingPut → Option ℕ
early_item None = None
early_item (Some p) = if p.returned then Some p.item else None

-- the item that the pending consume has taken
abbrev pub held_item : Option PendingTake → Option ℕ
held_item None = None
held_item (Some t) = t.taken

abbrev pub listed : Option ℕ → List ℕ
listed None = []
listed (Some v) = v ∷ []

abbrev pub done_if : Option ℕ → Option Reply
done_if None = None
done_if (Some v) = Some Done

abbrev pub number_if : Option ℕ → Option Reply
number_if None = None
number_if (Some v) = Some (Number v)

-- what the pending produce and the pending consume will return, if they have taken effect
abbrev pub answers : Option ℕ → Option ℕ → Op → Option Reply
answers early held (Produce v) = done_if early
answers early held Consume = number_if held
answers early held op = None

-- after the history so far a buffer with room for n items holds these, if the item `early` of the
-- pending produce was returned, and the pending consume has taken the item `held`
pub record Holding (n : ℕ) (past : List Event) (items : List ℕ) (early held : Option ℕ) : Type
    0 where
  pub flow : put_items past ++ listed early ≡ taken_items past ++ listed held ++ items
  pub few : length items ≤ n
  -- an item is returned early only if there is no other, and taken only if there is no room
  pub short : IfSome early (λ v. (items ≡ []) × (held ≡ None))
  pub full : IfSome held (λ h. length items ≡ n)
  pub order : (cs : List Call) × IsOrderTo n past (answers early held) cs items

-- what holds of the items and the pending calls, whatever room there is
pub record Following (n : ℕ) (past : List Event) (items : List ℕ) (put : Option PendingPut)
    (take : Option PendingTake) : Type 0 where
  pub some : 0 < n
  pub pending : ArePendingAs (pending_calls past) put take
  pub holds : Holding n past items (early_item put) (held_item take)

-- the state represents the history so far
pub record Watching (n : ℕ) (past : List Event) (room : ℕ) (items : List ℕ)
    (put : Option PendingPut) (take : Option PendingTake) : Type 0 where
  pub room_is : room ≡ n
  pub small : n ≤ ROOM_MAX
  pub follows : Following n past items put take
