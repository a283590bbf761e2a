-- One pass over the entries of a run, which keeps the last writer of each cell.
use Rattle.std.specs.Prelude.{ℕ, ◌-◌, List, [], ◌∷◌, ◌++◌, length, Option, Some, None, if◌then◌else◌, replicate, slice_index, slice_set}
use Rattle.ec_core.specs.declared.act.Act.{Act}
use Rattle.ec_core.specs.declared.act.Act.TheVariants.{Put, Get}
use Rattle.ec_core.specs.declared.act.Entry.{Entry}
use Rattle.ec_core.specs.CallLists.{reply_number}
use Rattle.ec_buffer.specs.declared.delivery.Delivery.{Delivery}
use Rattle.ec_buffer.specs.Shapes.{Buffer}
use Rattle.ec_buffer.specs.Follows.{is_cell}

-- the index of a cell in the buffer, counted from 0
abbrev pub cell_index : Buffer → ℕ → Option ℕ
cell_index b x = if is_cell b x then Some (x - b.first_cell) else None

abbrev pub put_place : Buffer → Act → Option ℕ
put_place b (Put x v) = cell_index b x
put_place b _ = None

abbrev pub get_place : Buffer → Act → Option ℕ
get_place b (Get x) = cell_index b x
get_place b _ = None

-- the last writer of each cell, after one more entry
abbrev pub writers_after : Option ℕ → ℕ → List ℕ → List ℕ
writers_after None w writers = writers
writers_after (Some place) w writers = slice_set writers place w

-- the deliveries after one more entry
abbrev pub list_after : Option ℕ → Entry → List ℕ → List Delivery → List Delivery
list_after None x writers list = list
list_after (Some place) x writers list =
    list ++ record { number = length list; producer = slice_index writers place; consumer = x.worker; item = reply_number x.reply } ∷ []

-- the last writer of each cell, and the deliveries, after a history so far
unfoldable pub writers_of : Buffer → List Entry → List ℕ
writers_of b [] = replicate 256 0
writers_of b (x ∷ past) = writers_after (put_place b x.act) x.worker (writers_of b past)

unfoldable pub collected : Buffer → List Entry → List Delivery
collected b [] = []
collected b (x ∷ past) = list_after (get_place b x.act) x (writers_of b past) (collected b past)
