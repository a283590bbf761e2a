-- What a monitor represents, and its verdicts.
use Rattle.std.specs.Prelude.{◌≡◌, ◌⊎◌, ℕ, ◌+◌, ◌<◌, ◌≤◌, List, ◌∷◌, ◌++◌, length, Result}
use Rattle.std.specs.Prelude.{Ok, Err, Some, slice_get}
use Rattle.calls_core.specs.declared.history.Kind.TheVariants.{Buffer}
use Rattle.calls_core.specs.declared.history.Op.{Op}
use Rattle.calls_core.specs.declared.history.Op.TheVariants.{Produce, Consume}
use Rattle.calls_core.specs.declared.history.Reply.{Reply}
use Rattle.calls_core.specs.declared.history.Reply.TheVariants.{Done, Number, Timeout}
use Rattle.calls_core.specs.declared.history.Event.{Event}
use Rattle.calls_core.specs.Histories.{completed_calls, IsHistoryOf}
use Rattle.calls_core.specs.Outcomes.{HasOrderOf}
use Rattle.calls_spsc.specs.declared.monitor.Monitor.{Monitor}
use Rattle.calls_spsc.specs.declared.monitor.Refused.{Refused}
use Rattle.calls_spsc.specs.declared.monitor.Refusal.{Refusal}
use Rattle.calls_spsc.specs.declared.monitor.Refusal.TheVariants.{NotNext, Empty, Full, Needed}
use Rattle.calls_spsc.specs.Flows.{IsSpsc, put_items, taken_items, asked_items, pending_consumes}
use Rattle.calls_spsc.specs.kept.Watching.{Watching}

-- the monitor represents the history so far of a buffer with room for n items
abbrev pub Watches : ℕ → List Event → Monitor → Type 0
Watches n past m = Watching n past m.room m.items.items m.put m.take

-- the monitor represents this history, and it has a linearization
pub record IsAccepted (n : ℕ) (past : List Event) (new : Monitor) : Type 0 where
  pub watches : Watches n past new
  pub order : HasOrderOf (Buffer n) past

-- the items that were produced by now, also those of pending produces
abbrev pub produced_items : List Event → List ℕ
produced_items past = put_items past ++ asked_items past

-- more items were put in than could be taken out or be left
abbrev pub IsOverfull : ℕ → List Event → Type 0
IsOverfull n past =
    n + length (taken_items past) + pending_consumes past < length (put_items past)

-- more items were taken out than were produced
abbrev pub IsShort : List Event → Type 0
IsShort past = length (produced_items past) < length (taken_items past)

-- a consume returned w
abbrev pub Takes : Op → Reply → ℕ → Type 0
Takes op r w = (op ≡ Consume) × (r ≡ Number w)

-- it is a produce
abbrev pub Puts : Op → Type 0
Puts op = (v : ℕ) × (op ≡ Produce v)

-- why the history `now` has no linearization. `past` is the history before its last event, by which
-- a call of this operation returned this reply
abbrev pub Says : ℕ → List Event → List Event → Op → Reply → Refusal → Type 0
Says n past now op r (NotNext v) =
    (slice_get (produced_items past) (length (taken_items past)) ≡ Some v)
    × ((w : ℕ) × Takes op r w × (w ≡ v → ⊥))
Says n past now op r Empty =
    (length (produced_items past) ≤ length (taken_items past)) × ((w : ℕ) × Takes op r w)
Says n past now op r Full = IsOverfull n now × Puts op × (r ≡ Done)
Says n past now op r Needed =
    (r ≡ Timeout) × (((op ≡ Consume) × IsOverfull n now) ⊎ (Puts op × IsShort now))

-- with the event x the history has no linearization; x is the response of this call
pub record IsRefused (n : ℕ) (past : List Event) (x : Event) (r : Refused) : Type 0 where
  pub says : Says n past (x ∷ past) r.call.op r.call.reply r.refusal
  pub none : HasOrderOf (Buffer n) (x ∷ past) → ⊥
  pub ended : completed_calls (x ∷ past) ≡ r.call ∷ completed_calls past

abbrev pub Verdict : ℕ → List Event → Event → Monitor → Result Unit Refused → Type 0
Verdict n past x new (Ok u) = IsAccepted n (x ∷ past) new
Verdict n past x new (Err r) = IsRefused n past x r

-- the verdict on the event, for every history that the old monitor represents
abbrev pub Judges : Monitor → Monitor → Event → Result Unit Refused → Type 0
Judges old new x result =
    (n : ℕ) (past : List Event) → IsHistoryOf (Buffer n) (x ∷ past) → IsSpsc (x ∷ past)
    → Watches n past old → Verdict n past x new result
