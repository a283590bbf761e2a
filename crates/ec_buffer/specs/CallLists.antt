-- The calls of producers and consumers: each whole list, given the ticket that its first call drew.
use Rattle.std.specs.Prelude.{ℕ, ◌+◌, ◌-◌, ◌%◌, List, [], ◌∷◌, length, Option, slice_get}
use Rattle.ec_core.specs.declared.act.Act.{Act}
use Rattle.ec_core.specs.declared.act.Act.TheVariants.{Advance, Await, Ticket, Put, Get}
use Rattle.ec_core.specs.CallLists.{reply_number}
use Rattle.ec_core.specs.Following.{CompletedCall}
use Rattle.ec_buffer.specs.Shapes.{Buffer}

-- one item is put: after the items of earlier tickets, and once the item that was in its cell was
-- got
abbrev pub produce_list : Buffer → ℕ → ℕ → List Act
produce_list b item t =
    Ticket b.put_seq
    ∷ Await b.in_count t
    ∷ Await b.out_count (t + 1 - b.cells)
    ∷ Put (b.first_cell + t % b.cells) item
    ∷ Advance b.in_count
    ∷ []

-- one item is got: after the items of earlier tickets, and once it was put
abbrev pub consume_list : Buffer → ℕ → List Act
consume_list b t =
    Ticket b.take_seq
    ∷ Await b.out_count t
    ∷ Await b.in_count (t + 1)
    ∷ Get (b.first_cell + t % b.cells)
    ∷ Advance b.out_count
    ∷ []

-- the ticket that the first of these completed calls drew; 0 before any is completed
abbrev pub drawn_ticket : List CompletedCall → ℕ
drawn_ticket [] = 0
drawn_ticket (first ∷ others) = reply_number first.reply

-- the call that comes after these completed calls of the list, or none
abbrev pub produce_call : Buffer → ℕ → List CompletedCall → Option Act
produce_call b item calls = slice_get (produce_list b item (drawn_ticket calls)) (length calls)

abbrev pub consume_call : Buffer → List CompletedCall → Option Act
consume_call b calls = slice_get (consume_list b (drawn_ticket calls)) (length calls)
