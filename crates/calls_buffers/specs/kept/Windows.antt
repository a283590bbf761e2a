-- The items of a history that are put in once, each with its produce and its consume.
use Rattle.std.specs.Prelude.{◌≡◌, ℕ, ◌<◌, ◌≤◌, ◌⊎◌, min, max, List, [], ◌∷◌, drop, count_by}
use Rattle.std.specs.List.{Contains}
use Rattle.std.specs.List.Sorted.{IsPermutation}
use Rattle.calls_core.specs.declared.history.Op.TheVariants.{Produce}
use Rattle.calls_core.specs.declared.history.PendingCall.{PendingCall}
use Rattle.calls_core.specs.declared.history.Call.{Call}
use Rattle.calls_core.specs.Lists.{Each, EachPair}
use Rattle.calls_buffers.specs.declared.windows.Window.{Window}
use Rattle.calls_buffers.specs.Counts.{item, is_take, all_puts}
use Rattle.calls_buffers.specs.Jobs.{IsProduceOf, IsConsumeOf}

-- the position by which an item was put in, and the one from which it may have been taken out
abbrev pub in_by : Window → ℕ
in_by w = min w.put_last w.take_last

abbrev pub out_from : Window → ℕ
out_from w = max w.put_first w.take_first

-- ITS CALLS. What does not happen is at `end`

pub record IsCompletedPut (done : List Call) (w : Window) : Type 0 where
  pub call : Call
  pub produce : IsProduceOf done w.item call
  pub first : call.first ≡ w.put_first
  pub last : call.last ≡ w.put_last

pub record IsPendingPut (pending : List PendingCall) (end : ℕ) (w : Window) : Type 0 where
  pub call : PendingCall
  pub known : Contains pending call
  pub asks : call.op ≡ Produce w.item
  pub first : call.first ≡ w.put_first
  pub last : w.put_last ≡ end

pub record IsCompletedTake (done : List Call) (w : Window) : Type 0 where
  pub call : Call
  pub consume : IsConsumeOf done w.item call
  pub first : call.first ≡ w.take_first
  pub last : call.last ≡ w.take_last

pub record IsUntaken (done : List Call) (end : ℕ) (w : Window) : Type 0 where
  pub none : count_by (is_take (item w.item)) done ≡ 0
  pub first : w.take_first ≡ end
  pub last : w.take_last ≡ end

-- what happens is before `end`
pub record IsWithin (end : ℕ) (w : Window) : Type 0 where
  pub put : w.put_first ≤ w.put_last
  pub take : w.take_first ≤ w.take_last
  pub put_last : w.put_last ≤ end
  pub take_last : w.take_last ≤ end

pub record IsWindow (done : List Call) (pending : List PendingCall) (end : ℕ) (w : Window)
    : Type 0 where
  pub put : IsCompletedPut done w ⊎ IsPendingPut pending end w
  pub take : IsCompletedTake done w ⊎ IsUntaken done end w
  pub some : in_by w < end
  pub first : w.put_first < end
  pub follows : w.put_first ≤ w.take_last
  pub within : IsWithin end w

-- THEY ARE ALL: each item that a completed call put in or returned has its window, by the items in
-- ascending order. Each item is put in at most once, and returned at most once

pub record HasWindow (ws : List Window) (v : ℕ) : Type 0 where
  pub window : Window
  pub known : Contains ws window
  pub is : window.item ≡ v

pub record AreWindows (done : List Call) (pending : List PendingCall) (end : ℕ) (ws : List Window)
    : Type 0 where
  pub each : Each (IsWindow done pending end) ws
  pub ascend : EachPair (λ (x y : Window). x.item < y.item) ws
  pub puts : (v : ℕ) (c : Call) → IsProduceOf done v c → HasWindow ws v
  pub takes : (v : ℕ) (c : Call) → IsConsumeOf done v c → HasWindow ws v
  pub put_once : (v : ℕ) → all_puts (item v) done pending ≤ 1
  pub taken_once : (v : ℕ) → count_by (is_take (item v)) done ≤ 1

-- RANKS

-- x may have a lower rank than y: y was not in before the produce of x was invoked, and was not
-- taken before x could be
pub record MayPrecede (x y : Window) : Type 0 where
  pub put : x.put_first ≤ in_by y
  pub take : out_from x ≤ y.take_last

-- an item may be put in if the one that comes n before it may be taken out by then
abbrev pub HaveRoom : ℕ → List Window → Type 0
HaveRoom n [] = Unit {0}
HaveRoom n (x ∷ xs) =
    Each (λ (y : Window). out_from x ≤ in_by y) (drop n (x ∷ xs)) × HaveRoom n xs

-- the windows in the order of ranks that they may have, in a buffer with room for n items
pub record AreRanked (n : ℕ) (ws order : List Window) : Type 0 where
  pub all : IsPermutation ws order
  pub pairs : EachPair MayPrecede order
  pub room : HaveRoom n order
