-- How a history of steps of a buffer looks from outside: each whole list of producing or consuming
-- one item is one call. It is invoked right before the first entry of the list, which draws its
-- ticket, and has its response right after the last one, the advance. Both are calls of one entry.
-- A list that has begun and not ended is a pending call.
use Rattle.std.specs.Prelude.{◌≡◌, ℕ, ◌+◌, ◌*◌, ◌==◌, ◌&&◌, List, [], ◌∷◌, ◌++◌, length}
use Rattle.std.specs.Prelude.{Option, Some, None, slice_index_or, if◌then◌else◌}
use Rattle.ec_count.specs.Tables.{Tables}
use Rattle.ec_core.specs.declared.act.Act.{Act}
use Rattle.ec_core.specs.declared.act.Act.TheVariants.{Advance, Ticket}
use Rattle.ec_core.specs.declared.act.Entry.{Entry}
use Rattle.ec_core.specs.CallLists.{reply_number}
use Rattle.ec_buffer.specs.Shapes.{Buffer}
use Rattle.ec_buffer.specs.Items.{put_on, is_get_on, PutsItem}
use Rattle.calls_core.specs.declared.history.Op.TheVariants.{Produce, Consume}
use Rattle.calls_core.specs.declared.history.Reply.TheVariants.{Done, Number}
use Rattle.calls_core.specs.declared.history.Action.TheVariants.{Invoke, Respond}
use Rattle.calls_core.specs.declared.history.Event.{Event}

-- Histories are reversed: the newest entry, or event, is first. The entry after `past` is the one
-- at position `length past`.

-- what w got last from a cell of the buffer
unfoldable pub last_got : Buffer → ℕ → List Entry → ℕ
last_got b w [] = 0
last_got b w (x ∷ past) =
    if (x.worker == w) && is_get_on b x.act then reply_number x.reply else last_got b w past

-- each item that was put is the one with its number: the ticket of its produce. A produce that has
-- not put yet may be of any item
abbrev pub AreItems : Tables → Buffer → List Entry → (ℕ → ℕ) → Type 0
AreItems t b h item = (k n worker v : ℕ) → PutsItem t b h k n worker v → item n ≡ v

abbrev pub put_one : Option ℕ → List ℕ → List ℕ
put_one None vs = vs
put_one (Some v) vs = v ∷ vs

-- what was put into cells of the buffer, in the order of time. This history is in that order too
abbrev pub items_put : Buffer → List Entry → List ℕ
items_put b [] = []
items_put b (x ∷ h) = put_one (put_on b x.act) (items_put b h)

-- item n is the one that was put after n others; 0 if it has not been put
abbrev pub item_of : Buffer → List Entry → ℕ → ℕ
item_of b h n = slice_index_or (items_put b h) n 0

-- the invocation of the call that an act of w at position i begins, if it draws ticket n
abbrev pub invocation_of : Buffer → (ℕ → ℕ) → ℕ → ℕ → ℕ → Act → List Event
invocation_of b item i w n (Ticket q) =
    if q == b.put_seq
    then record { at = 2 * i; worker = w; action = Invoke 0 (Produce (item n)) } ∷ []
    else (
    if q == b.take_seq
    then record { at = 2 * i; worker = w; action = Invoke 0 Consume } ∷ []
    else []
    )
invocation_of b item i w n act = []

-- the response of the call that an act of w at position i ends, if w got n last
abbrev pub response_of : Buffer → ℕ → ℕ → ℕ → Act → List Event
response_of b i w n (Advance e) =
    if e == b.in_count
    then record { at = 2 * i + 1; worker = w; action = Respond Done } ∷ []
    else (
    if e == b.out_count
    then record { at = 2 * i + 1; worker = w; action = Respond (Number n) } ∷ []
    else []
    )
response_of b i w n act = []

-- the events of the calls on the buffer
abbrev pub events_seen : Buffer → (ℕ → ℕ) → List Entry → List Event
events_seen b item [] = []
events_seen b item (x ∷ past) =
    (response_of b (length past) x.worker (last_got b x.worker past) x.act
    ++ invocation_of b item (length past) x.worker (reply_number x.reply) x.act)
    ++ events_seen b item past
