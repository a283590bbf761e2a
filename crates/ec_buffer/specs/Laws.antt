-- What the definitions mean. Histories are in order of time, and entries are counted from 0.
use Rattle.std.specs.Prelude.{◌≡◌, ℕ, ◌+◌, ◌<◌, List, reverse, take}
use Rattle.ec_count.specs.Declares.{KeepsObjects}
use Rattle.ec_count.specs.Tables.{Tables, IsDeclared}
use Rattle.ec_core.specs.declared.act.Entry.{Entry}
use Rattle.ec_core.specs.Acceptance.{IsAccepted}
use Rattle.ec_buffer.specs.declared.delivery.Delivery.{Delivery}
use Rattle.ec_buffer.specs.Shapes.{Buffer, IsShape, Fits}
use Rattle.ec_buffer.specs.Follows.{FollowsBuffer}
use Rattle.ec_buffer.specs.Items.{PutsItem, GetsItem, AreDeliveries, puts_made, gets_made}

-- a buffer that is declared stays so if more is declared
abbrev pub BuffersStay : Type 0
BuffersStay = (b : Buffer) (old new : Tables) → KeepsObjects old new → Fits b old → Fits b new

-- an accepted history that follows a buffer
pub record IsFollowed (t : Tables) (b : Buffer) (h : List Entry) : Type 0 where
  pub declared : IsDeclared t
  pub shape : IsShape b
  pub accepted : IsAccepted t (reverse h)
  pub followed : FollowsBuffer t b (reverse h)

-- item n is put by the n-th put and got by the n-th get
abbrev pub PutsGoByNumber : Type 0
PutsGoByNumber = (t : Tables) (b : Buffer) (h : List Entry) → IsFollowed t b h → (k n worker item : ℕ) → PutsItem t b h k n worker item → puts_made b (take k h) ≡ n

abbrev pub GetsGoByNumber : Type 0
GetsGoByNumber = (t : Tables) (b : Buffer) (h : List Entry) → IsFollowed t b h → (k n worker item : ℕ) → GetsItem t b h k n worker item → gets_made b (take k h) ≡ n

-- no item is put twice, and none is got twice
abbrev pub ItemsArePutOnce : Type 0
ItemsArePutOnce = (t : Tables) (b : Buffer) (h : List Entry) → IsFollowed t b h → (j k n v w x y : ℕ) → PutsItem t b h j n v x → PutsItem t b h k n w y → j ≡ k

abbrev pub ItemsAreGotOnce : Type 0
ItemsAreGotOnce = (t : Tables) (b : Buffer) (h : List Entry) → IsFollowed t b h → (j k n v w x y : ℕ) → GetsItem t b h j n v x → GetsItem t b h k n w y → j ≡ k

-- what is got was put before, with the same number
abbrev pub WhatIsGotWasPut : Type 0
WhatIsGotWasPut = (t : Tables) (b : Buffer) (h : List Entry) → IsFollowed t b h → (k n consumer item : ℕ) → GetsItem t b h k n consumer item
    → (j : ℕ) × (producer : ℕ) × (j < k) × PutsItem t b h j n producer item

-- the cell has been emptied: item n was got before the item that comes into its cell next is put
abbrev pub PutsWaitForRoom : Type 0
PutsWaitForRoom = (t : Tables) (b : Buffer) (h : List Entry) → IsFollowed t b h → (j n producer item : ℕ) → PutsItem t b h j (n + b.cells) producer item
    → (k : ℕ) × (consumer : ℕ) × (got : ℕ) × (k < j) × GetsItem t b h k n consumer got

-- there is only one list of the deliveries
abbrev pub DeliveriesAreDetermined : Type 0
DeliveriesAreDetermined = (t : Tables) (b : Buffer) (h : List Entry) → IsFollowed t b h → (xs ys : List Delivery) → AreDeliveries t b h xs → AreDeliveries t b h ys → xs ≡ ys
