-- Plans of an order: when each item is put in and taken out.
use Rattle.std.specs.Prelude.{◌≡◌, ℕ, ◌+◌, ◌<◌, ◌≤◌, List, length, take, Option, Some, None}
use Rattle.std.specs.Prelude.{slice_index_or, true, false}
use Rattle.calls_core.specs.declared.history.Op.{Op}
use Rattle.calls_core.specs.declared.history.Op.TheVariants.{Produce, Consume}
use Rattle.calls_core.specs.declared.history.Reply.{Reply}
use Rattle.calls_core.specs.declared.history.Reply.TheVariants.{Done, Number}
use Rattle.calls_buffers.specs.declared.ordering.Key.{Key}
use Rattle.calls_buffers.specs.declared.planning.Stay.{Stay}
use Rattle.calls_buffers.specs.declared.accesses.Place.TheVariants.{Completed}
use Rattle.calls_buffers.specs.declared.windows.Window.{Window}
use Rattle.calls_buffers.specs.kept.Orders.{Places}

-- STAYS

abbrev pub no_stay : Stay
no_stay = record { put_at = 0; take_at = 0 }

abbrev pub stay_at : List Stay → ℕ → Stay
stay_at stays k = slice_index_or stays k no_stay

abbrev pub no_window : Window
no_window = record {
  item = 0;
  put = Completed 0;
  put_first = 0;
  put_last = 0;
  take = None;
  take_first = 0;
  take_last = 0;
}

abbrev pub window_at : List Window → ℕ → Window
window_at order k = slice_index_or order k no_window

-- the stay of an item after those of lower ranks, in a buffer with room for n items: it is as early
-- as may be
pub record IsNext (n : ℕ) (w : Window) (before : List Stay) (s : Stay) : Type 0 where
  pub put_own : w.put_first ≤ s.put_at
  pub put_rises : (k : ℕ) → k + 1 ≡ length before → (stay_at before k).put_at ≤ s.put_at
  pub freed : (k : ℕ) → k + n ≡ length before → (stay_at before k).take_at ≤ s.put_at
  pub put_least : (b : ℕ) → w.put_first ≤ b
      → ((k : ℕ) → k + 1 ≡ length before → (stay_at before k).put_at ≤ b)
      → ((k : ℕ) → k + n ≡ length before → (stay_at before k).take_at ≤ b) → s.put_at ≤ b
  pub after : s.put_at ≤ s.take_at
  pub take_own : w.take_first ≤ s.take_at
  pub take_rises : (k : ℕ) → k + 1 ≡ length before → (stay_at before k).take_at ≤ s.take_at
  pub take_least : (b : ℕ) → w.take_first ≤ b → s.put_at ≤ b
      → ((k : ℕ) → k + 1 ≡ length before → (stay_at before k).take_at ≤ b) → s.take_at ≤ b

-- the stays of the items of ranks below i
pub record AreStays (n : ℕ) (order : List Window) (i : ℕ) (stays : List Stay) : Type 0 where
  pub many : length stays ≡ i
  pub each : (k : ℕ) → k < i → IsNext n (window_at order k) (take k stays) (stay_at stays k)

-- PLACES

abbrev pub put_key : List Stay → ℕ → Key
put_key stays k = record { point = (stay_at stays k).put_at; rank = k; takes = false }

abbrev pub take_key : List Stay → ℕ → Key
take_key stays k = record { point = (stay_at stays k).take_at; rank = k; takes = true }

abbrev pub put_pair : Window → ℕ × ℕ
put_pair w = (w.item, w.put_first)

abbrev pub take_pair : Window → ℕ × ℕ
take_pair w = (w.item, w.take_first)

-- an item of a rank below i has this pair and this key
pub record HasPlace (pair : Window → ℕ × ℕ) (key : ℕ → Key) (order : List Window) (i : ℕ)
    (q : ℕ × ℕ) (x : Key) : Type 0 where
  pub rank : ℕ
  pub below : rank < i
  pub own : pair (window_at order rank) ≡ q
  pub is : x ≡ key rank

abbrev pub IsPlace : (Window → ℕ × ℕ) → (ℕ → Key) → List Window → ℕ → ℕ × ℕ → Option Key → Type 0
IsPlace pair key order i q None = (k : ℕ) → k < i → pair (window_at order k) ≡ q → ⊥
IsPlace pair key order i q (Some x) = HasPlace pair key order i q x

-- the places of the produces and consumes of items of ranks below i
abbrev pub ArePlaces : (Window → ℕ × ℕ) → (ℕ → Key) → List Window → ℕ → Places → Type 0
ArePlaces pair key order i places = (q : ℕ × ℕ) → IsPlace pair key order i q (places q)

-- the places that follow from the stays of all items
pub record IsPlan (n : ℕ) (order : List Window) (puts takes : Places) : Type 0 where
  pub stays : List Stay
  pub are : AreStays n order (length order) stays
  pub put_places : ArePlaces put_pair (put_key stays) order (length order) puts
  pub take_places : ArePlaces take_pair (take_key stays) order (length order) takes

-- ANSWERS

abbrev pub put_reply : Option Key → Option Reply
put_reply None = None
put_reply (Some k) = Some Done

abbrev pub take_reply : Option ℕ → Option Reply
take_reply None = None
take_reply (Some v) = Some (Number v)

-- the reply of a pending call, if it takes effect: a produce does if it has a place, and a consume
-- if it takes this item
abbrev pub answer_of : Places → Option ℕ → Op → ℕ → Option Reply
answer_of puts taken (Produce v) first = put_reply (puts (v, first))
answer_of puts taken Consume first = take_reply taken
answer_of puts taken op first = None
