-- Items in the order of their ranks, each with its produce and its consume. An item may come again.
use Rattle.std.specs.Prelude.{◌≡◌, ℕ, ◌<◌, ◌≤◌, ◌⊎◌, List}
use Rattle.std.specs.List.{Contains}
use Rattle.calls_core.specs.declared.history.PendingCall.{PendingCall}
use Rattle.calls_core.specs.declared.history.Call.{Call}
use Rattle.calls_core.specs.Lists.{Each, EachPair}
use Rattle.calls_buffers.specs.declared.windows.Window.{Window}
use Rattle.calls_buffers.specs.Jobs.{IsProduceOf, IsConsumeOf}
use Rattle.calls_buffers.specs.kept.Windows.{in_by, IsCompletedPut, IsPendingPut, IsCompletedTake}

-- no two calls were invoked at the same position
pub record AreInvokedApart (done : List Call) (pending : List PendingCall) : Type 0 where
  pub completed : EachPair (λ (c d : Call). c.first ≡ d.first → ⊥) done
  pub across : Each (λ (c : Call). Each (λ (o : PendingCall). c.first ≡ o.first → ⊥) pending) done

-- the item of this window is not taken out
pub record IsLeft (end : ℕ) (w : Window) : Type 0 where
  pub first : w.take_first ≡ end
  pub last : w.take_last ≡ end

pub record IsSpan (done : List Call) (pending : List PendingCall) (end : ℕ) (w : Window)
    : Type 0 where
  pub put : IsCompletedPut done w ⊎ IsPendingPut pending end w
  pub take : IsCompletedTake done w ⊎ IsLeft end w
  pub some : in_by w < end
  pub first : w.put_first < end
  pub follows : w.put_first ≤ w.take_last

-- the call of an item that was invoked at a position has its window
pub record HasPut (ws : List Window) (v first : ℕ) : Type 0 where
  pub window : Window
  pub known : Contains ws window
  pub is : window.item ≡ v
  pub at : window.put_first ≡ first

pub record HasTake (ws : List Window) (v first : ℕ) : Type 0 where
  pub window : Window
  pub known : Contains ws window
  pub is : window.item ≡ v
  pub at : window.take_first ≡ first

-- windows of all items that a completed call put in or returned, each of other calls
pub record AreSpans (done : List Call) (pending : List PendingCall) (end : ℕ) (ws : List Window)
    : Type 0 where
  pub each : Each (IsSpan done pending end) ws
  pub puts : (v : ℕ) (c : Call) → IsProduceOf done v c → HasPut ws v c.first
  pub takes : (v : ℕ) (c : Call) → IsConsumeOf done v c → HasTake ws v c.first
  pub puts_apart : EachPair (λ (x y : Window). x.put_first ≡ y.put_first → ⊥) ws
  pub takes_apart : EachPair (λ (x y : Window). x.take_first ≡ y.take_first → x.take_first ≡ end) ws
