-- The items of a buffer, by number. Item n is produced if a worker puts it in a Produce whose ticket is n, and
-- delivered if a worker gets it in a Consume whose ticket is n. Histories are in order of time, and entries are
-- counted from 0.
use Rattle.std.specs.Prelude.{◌≡◌, ℕ, Bool, true, false, List, Option, Some, None, is_some, length, count_by, if◌then◌else◌, slice_get}
use Rattle.ec_count.specs.Tables.{Tables}
use Rattle.ec_core.specs.declared.act.Act.{Act}
use Rattle.ec_core.specs.declared.act.Act.TheVariants.{Put, Get}
use Rattle.ec_core.specs.declared.act.Entry.{Entry}
use Rattle.ec_core.specs.declared.act.Reply.TheVariants.{Number}
use Rattle.ec_core.specs.Counts.{past_at}
use Rattle.ec_core.specs.Following.{block}
use Rattle.ec_buffer.specs.declared.delivery.Delivery.{Delivery}
use Rattle.ec_buffer.specs.Shapes.{Buffer}
use Rattle.ec_buffer.specs.CallLists.{drawn_ticket}
use Rattle.ec_buffer.specs.Follows.{is_cell, buffer_rules}

-- the value that an act puts into a cell of the buffer
abbrev pub put_on : Buffer → Act → Option ℕ
put_on b (Put x v) = if is_cell b x then Some v else None
put_on b _ = None

-- whether an act gets a cell of the buffer
abbrev pub is_get_on : Buffer → Act → Bool
is_get_on b (Get x) = is_cell b x
is_get_on b _ = false

-- the ticket of the list of calls that w is in at moment k
abbrev pub ticket_at : Tables → Buffer → List Entry → ℕ → ℕ → ℕ
ticket_at t b h k w = drawn_ticket (block (buffer_rules t b w) w (past_at k h))

-- entry k puts this item, with number n
pub record PutsItem (t : Tables) (b : Buffer) (h : List Entry) (k n worker item : ℕ) : Type 0 where
  pub entry : Entry
  pub is : slice_get h k ≡ Some entry
  pub by : entry.worker ≡ worker
  pub puts : put_on b entry.act ≡ Some item
  pub ticket : ticket_at t b h k worker ≡ n

-- entry k gets this item, with number n
pub record GetsItem (t : Tables) (b : Buffer) (h : List Entry) (k n worker item : ℕ) : Type 0 where
  pub entry : Entry
  pub is : slice_get h k ≡ Some entry
  pub by : entry.worker ≡ worker
  pub gets : is_get_on b entry.act ≡ true
  pub returned : entry.reply ≡ Number item
  pub ticket : ticket_at t b h k worker ≡ n

-- item n was produced by this worker
abbrev pub IsProduced : Tables → Buffer → List Entry → ℕ → ℕ → ℕ → Type 0
IsProduced t b h n worker item = (k : ℕ) × PutsItem t b h k n worker item

-- item n was delivered to this worker
abbrev pub IsDelivered : Tables → Buffer → List Entry → ℕ → ℕ → ℕ → Type 0
IsDelivered t b h n worker item = (k : ℕ) × GetsItem t b h k n worker item

-- the puts, and the gets, of a history
abbrev pub puts_made : Buffer → List Entry → ℕ
puts_made b h = count_by (λ (x : Entry). is_some (put_on b x.act)) h

abbrev pub gets_made : Buffer → List Entry → ℕ
gets_made b h = count_by (λ (x : Entry). is_get_on b x.act) h

-- the delivery is that of item n: what its producer put is what its consumer got
pub record IsDelivery (t : Tables) (b : Buffer) (h : List Entry) (n : ℕ) (d : Delivery) : Type 0 where
  pub number : d.number ≡ n
  pub produced : IsProduced t b h n d.producer d.item
  pub delivered : IsDelivered t b h n d.consumer d.item

-- the list has one delivery for each get, by number
pub record AreDeliveries (t : Tables) (b : Buffer) (h : List Entry) (list : List Delivery) : Type 0 where
  pub each_get : length list ≡ gets_made b h
  pub numbered : (n : ℕ) (d : Delivery) → slice_get list n ≡ Some d → IsDelivery t b h n d
