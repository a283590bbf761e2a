-- Items in the order of their ranks, some of whose calls are pending and return at `end`. These are
-- settled: they are completed with their replies.
use Rattle.std.specs.Prelude.{◌≡◌, ℕ, ◌+◌, ◌<◌, ◌≤◌, ◌⊎◌, ◌==◌, nat_lt, if◌then◌else◌}
use Rattle.std.specs.Prelude.{Option, Some, None, List, [], ◌∷◌, ◌++◌}
use Rattle.std.specs.List.{Contains}
use Rattle.calls_core.specs.declared.history.Op.TheVariants.{Consume}
use Rattle.calls_core.specs.declared.history.Reply.{Reply}
use Rattle.calls_core.specs.declared.history.Reply.TheVariants.{Done, Number}
use Rattle.calls_core.specs.declared.history.PendingCall.{PendingCall}
use Rattle.calls_core.specs.declared.history.Call.{Call}
use Rattle.calls_core.specs.Lists.{Each, EachPair}
use Rattle.calls_core.specs.Linearizations.{answered_calls}
use Rattle.calls_buffers.specs.declared.windows.Window.{Window}
use Rattle.calls_buffers.specs.declared.turns.Turned.{Turned}
use Rattle.calls_buffers.specs.declared.turns.Turned.TheVariants.{Ranked, Refuted}
use Rattle.calls_buffers.specs.Faults.{ShowsIn}
use Rattle.calls_buffers.specs.Jobs.{IsProduceOf, IsConsumeOf}
use Rattle.calls_buffers.specs.kept.Windows.{IsCompletedPut, IsPendingPut, IsCompletedTake}
use Rattle.calls_buffers.specs.kept.Windows.{AreRanked}
use Rattle.calls_buffers.specs.kept.Spans.{HasPut, HasTake}

-- ITS CALLS. What does not happen is at `end`

pub record IsPendingTake (pending : List PendingCall) (end : ℕ) (w : Window) : Type 0 where
  pub call : PendingCall
  pub known : Contains pending call
  pub asks : call.op ≡ Consume
  pub first : call.first ≡ w.take_first
  pub last : w.take_last ≡ end

-- the item was put in, and is not taken out
pub record IsKept (end : ℕ) (w : Window) : Type 0 where
  pub first : w.take_first ≡ end
  pub last : w.take_last ≡ end
  pub put : w.put_last < end

pub record IsGiven (done : List Call) (pending : List PendingCall) (end : ℕ) (w : Window)
    : Type 0 where
  pub put : IsCompletedPut done w ⊎ IsPendingPut pending end w
  pub take : IsCompletedTake done w ⊎ IsPendingTake pending end w ⊎ IsKept end w
  pub first : w.put_first < end
  pub follows : w.put_first ≤ w.take_last

-- windows of all items that a completed call put in or returned, each of other calls, in the order
-- of ranks that they may have. The items that are kept come last
pub record AreGiven (n : ℕ) (done : List Call) (pending : List PendingCall) (end : ℕ)
    (ws : List Window) : Type 0 where
  pub each : Each (IsGiven done pending end) ws
  pub puts : (v : ℕ) (c : Call) → IsProduceOf done v c → HasPut ws v c.first
  pub takes : (v : ℕ) (c : Call) → IsConsumeOf done v c → HasTake ws v c.first
  pub puts_apart : EachPair (λ (x y : Window). x.put_first ≡ y.put_first → ⊥) ws
  pub takes_apart : EachPair (λ (x y : Window). x.take_first ≡ y.take_first → x.take_first ≡ end) ws
  pub kept_last : EachPair (λ (x y : Window). x.take_first ≡ end → y.take_first ≡ end) ws
  pub ranked : AreRanked n ws ws

-- the windows of items in the order of ranks that they may have, or a fault
abbrev pub IsTurned : ℕ → List Call → List PendingCall → ℕ → Turned → Type 0
IsTurned n done pending end (Ranked order) = AreGiven n done pending end order.items
IsTurned n done pending end (Refuted f) = ShowsIn n done pending f

-- SETTLED

-- the reply of the call that was invoked at position p, if it is one of these windows
abbrev pub reply_at : List Window → ℕ → Option Reply
reply_at [] p = None
reply_at (w ∷ ws) p =
    if w.put_first == p then Some Done
    else (if w.take_first == p then Some (Number w.item) else reply_at ws p)

-- the completed calls, and the pending ones of these windows with their replies at `end`
abbrev pub settled_calls : List Window → ℕ → List Call → List PendingCall → List Call
settled_calls ws end done pending =
    done ++ answered_calls end (λ (o : PendingCall). reply_at ws o.first) pending

-- a window for these calls: what does not happen is after `end`
abbrev pub settled_window : ℕ → Window → Window
settled_window end w = record {
  item = w.item;
  put = w.put;
  put_first = w.put_first;
  put_last = w.put_last;
  take = w.take;
  take_first = if nat_lt w.take_first end then w.take_first else end + 1;
  take_last = if nat_lt w.take_first end then w.take_last else end + 1;
}
