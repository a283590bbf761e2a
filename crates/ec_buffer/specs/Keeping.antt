-- What is kept of a call list, to check the next call of its worker or to ask for it.
use Rattle.std.specs.Prelude.{◌≡◌, ℕ, ◌+◌, ◌<◌, ◌==◌, Bool, List, length, Option, Some, slice_get, if◌then◌else◌}
use Rattle.ec_count.specs.Tables.{Tables, may_take}
use Rattle.ec_core.specs.declared.act.Act.{Act}
use Rattle.ec_core.specs.declared.act.Reply.{Reply}
use Rattle.ec_core.specs.declared.protocol.ListProgress.{ListProgress}
use Rattle.ec_core.specs.Calls.{is_pending}
use Rattle.ec_core.specs.CallLists.{reply_number}
use Rattle.ec_core.specs.Following.{CompletedCall}
use Rattle.ec_buffer.specs.CallLists.{drawn_ticket}
use Rattle.ec_buffer.specs.Shapes.{Buffer}

-- the index in the list, and the ticket
abbrev pub list_progress : List CompletedCall → ListProgress
list_progress calls = record { at = length calls; first = drawn_ticket calls; second = 0 }

-- how many calls are completed after a reply
abbrev pub call_count_after : ℕ → Reply → ℕ
call_count_after at reply = if is_pending reply then at else at + 1

-- the ticket after a reply: the first completed call draws it
abbrev pub turn_after : ℕ → ℕ → Reply → ℕ
turn_after at turn reply = if is_pending reply then turn else (if at == 0 then reply_number reply else turn)

-- the call that comes after further calls, if so many are completed and the first of them drew this
-- ticket
abbrev pub rest_of : (ℕ → List Act) → ℕ → ℕ → List CompletedCall → Option Act
rest_of list at turn calls = slice_get (list (if at == 0 then drawn_ticket calls else turn)) (at + length calls)

-- whether each of the first n workers is a producer, by number
abbrev pub AreProducers : Tables → Buffer → ℕ → List Bool → Type 0
AreProducers t b n table = (w : ℕ) → w < n → slice_get table w ≡ Some (may_take t b.put_seq w)
