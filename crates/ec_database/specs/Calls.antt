-- The calls of a writer and of a reader, each list as the call that comes after these completed calls of it, or
-- none.
use Rattle.std.specs.Prelude.{ℕ, zero, suc, ◌+◌, ◌==◌, nat_lt, List, [], ◌∷◌, ◌++◌, length, Option, Some, None, if◌then◌else◌, get_or}
use Rattle.ec_core.specs.declared.act.Act.{Act}
use Rattle.ec_core.specs.declared.act.Act.TheVariants.{Advance, Read, Await, Ticket, Put, Get}
use Rattle.ec_core.specs.Following.{CompletedCall}
use Rattle.ec_core.specs.CallLists.{reply_number}
use Rattle.ec_database.specs.Shapes.{Database}

-- the number that the first of some calls returned
abbrev pub first_number : List CompletedCall → ℕ
first_number [] = 0
first_number (c ∷ calls) = reply_number c.reply

-- a write of these values into all cells: advance the count of starts, draw a turn t, wait until t
-- writes are done, put each value, and advance the count of writes that are done
abbrev pub write_call : Database → List ℕ → List CompletedCall → Option Act
write_call d values [] = Some (Advance d.start)
write_call d values (a ∷ []) = Some (Ticket d.turn)
write_call d values (a ∷ t ∷ []) = Some (Await d.done (reply_number t.reply))
write_call d values (a ∷ t ∷ i ∷ puts) =
    if nat_lt (length puts) d.cells
    then Some (Put (d.first_cell + length puts) (get_or values (length puts) 0))
    else (if length puts == d.cells then Some (Advance d.done) else None)

-- the turn of a write, once it has drawn it
abbrev pub drawn_turn : List CompletedCall → ℕ
drawn_turn [] = 0
drawn_turn (a ∷ calls) = first_number calls

-- one try of a snapshot: read how many writes were started, wait until that many are done, get each
-- cell, and read again how many were started
abbrev pub try_call : Database → List CompletedCall → Option Act
try_call d [] = Some (Read d.start)
try_call d (w ∷ []) = Some (Await d.done (reply_number w.reply))
try_call d (w ∷ a ∷ gets) =
    if nat_lt (length gets) d.cells
    then Some (Get (d.first_cell + length gets))
    else (if length gets == d.cells then Some (Read d.start) else None)

-- THE SAME WRITTEN OUT

-- puts of these values into the cells from index j on, and gets of n cells from there
abbrev pub puts_from : Database → ℕ → List ℕ → List Act
puts_from d j [] = []
puts_from d j (v ∷ values) = Put (d.first_cell + j) v ∷ puts_from d (j + 1) values

abbrev pub gets_from : Database → ℕ → ℕ → List Act
gets_from d j zero = []
gets_from d j (suc n) = Get (d.first_cell + j) ∷ gets_from d (j + 1) n

-- a write whose turn is t, and a try that first reads w
abbrev pub write_list : Database → List ℕ → ℕ → List Act
write_list d values t = Advance d.start ∷ Ticket d.turn ∷ Await d.done t ∷ (puts_from d 0 values ++ Advance d.done ∷ [])

abbrev pub try_list : Database → ℕ → List Act
try_list d w = Read d.start ∷ Await d.done w ∷ (gets_from d 0 d.cells ++ Read d.start ∷ [])
