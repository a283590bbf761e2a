-- The totals of the objects after the calls of a linearization, as text.
use Rattle.std.specs.Prelude.{ℕ, ◌+◌, ◌^◌, ◌%◌, ◌==◌, zero, suc, Bool, true, false, ◌&&◌, nat_lt, length}
use Rattle.std.specs.Prelude.{count_by, List, [], ◌∷◌, ◌++◌, codes, decimal, min, if◌then◌else◌}
use Rattle.std.specs.Prelude.{◌-◌, slice_index_or, Option, Some, None, unwrap_or}
use Rattle.std.specs.List.{flat_map}
use Rattle.ec_count.specs.declared.target.Target.{Target}
use Rattle.ec_count.specs.declared.target.Target.TheVariants.{Worker, Event, Sequencer, Cells}
use Rattle.ec_count.specs.declared.target.Target.TheVariants.{Group}
use Rattle.ec_heading.specs.HeadingModel.{HeadingModel}
use Rattle.ec_heading.specs.declared.group.Group as kinds
use Rattle.ec_heading.specs.declared.group.Group.TheVariants as groups
use Rattle.calls_core.specs.declared.history.Op.{Op}
use Rattle.calls_core.specs.declared.history.Op.TheVariants as ops
use Rattle.calls_core.specs.declared.history.Reply.{Reply}
use Rattle.calls_core.specs.declared.history.Reply.TheVariants as replies
use Rattle.calls_core.specs.declared.history.Placed.{Placed}
use Rattle.calls_semaphores.specs.Banks.{takes, is_done}
use Rattle.ec_heading.specs.Groups.{has_event, has_sequencer, has_cell}
use Rattle.calls_text.specs.Recordings.{RecordingModel, first_sequencer, first_cell, first_group}
use Rattle.calls_text.specs.Recordings.{start_count}
use Rattle.calls_text.specs.Spelling.{numbers_of_list}

-- COUNTS OVER THE ORDER

-- an advance, a ticket or a put
abbrev pub is_effect : Op → Bool
is_effect ops.Advance = true
is_effect ops.Ticket = true
is_effect (ops.Put v) = true
is_effect _ = false

abbrev pub has_effect : ℕ → Placed → Bool
has_effect k p = (p.call.object == k) && is_effect p.call.op

-- how many advances, tickets and puts of object k there are
abbrev pub effects : List Placed → ℕ → ℕ
effects order k = count_by (has_effect k) order

-- the value after a call, if it was v before
abbrev pub put_value : ℕ → Op → ℕ
put_value v (ops.Put w) = w
put_value v _ = v

-- the value of object k after these calls, if it was v before
abbrev pub value_after : ℕ → ℕ → List Placed → ℕ
value_after k v [] = v
value_after k v (p ∷ ps) = value_after k (if p.call.object == k then put_value v p.call.op else v)
    ps

-- whether a call adds a unit to the semaphore at index i among the groups
abbrev pub adds_to : ℕ → Op → Bool
adds_to i (ops.V j) = j == i
adds_to i _ = false

abbrev pub added_units : List Placed → ℕ → ℕ
added_units order i = count_by (λ (p : Placed). adds_to i p.call.op) order

-- how many units of the semaphore at index i among the groups were taken
abbrev pub taken_units : List Placed → ℕ → ℕ
taken_units order i = count_by (λ (p : Placed). takes i p.call.op && is_done p.call.reply) order

abbrev pub is_pair : Op → Bool
is_pair (ops.PBoth i j) = true
is_pair _ = false

-- how many times units of two semaphores were taken at once
abbrev pub pairs : List Placed → ℕ
pairs order = count_by (λ (p : Placed). is_pair p.call.op && is_done p.call.reply) order

-- the items that a call puts into its object: one if it is a produce that took effect
abbrev pub items_put : Op → Reply → List ℕ
items_put (ops.Produce v) replies.Done = v ∷ []
items_put _ _ = []

abbrev pub items_into : ℕ → Placed → List ℕ
items_into k p = if p.call.object == k then items_put p.call.op p.call.reply else []

-- the items that were put into object k, in order; the first one has the number 0
abbrev pub produced : List Placed → ℕ → List ℕ
produced order k = flat_map (items_into k) order

-- whether a call takes an item: it is a consume that took effect
abbrev pub takes_item : Op → Reply → Bool
takes_item ops.Consume (replies.Number v) = true
takes_item _ _ = false

-- how many items were taken out of object k
abbrev pub consumed : List Placed → ℕ → ℕ
consumed order k =
    count_by (λ (p : Placed). (p.call.object == k) && takes_item p.call.op p.call.reply) order

-- the last of the first c items whose number is i modulo n, 0 if there is none
abbrev pub last_in_cell : List ℕ → ℕ → ℕ → ℕ → ℕ
last_in_cell vs n i zero = 0
last_in_cell vs n i (suc c) =
    if c % n == i then slice_index_or vs c 0 else last_in_cell vs n i c

-- the item in cell i of the n cells of a buffer after these items were put: item j is put into cell
-- j modulo n
abbrev pub last_item : List ℕ → ℕ → ℕ → ℕ
last_item vs n i = last_in_cell vs n i (length vs)

-- THE OBJECTS OF GROUPS

-- the count of an eventcount by the calls of the group at index i, if it belongs to that group
abbrev pub group_event : HeadingModel → List Placed → ℕ → ℕ → kinds.Group → Option ℕ
group_event h order e i (groups.Buffer b) =
    if has_event (groups.Buffer b) e then
    Some (if b.in_count == e then length (produced order (first_group h + i))
    else consumed order (first_group h + i))
    else None
group_event h order e i (groups.Database d) =
    if has_event (groups.Database d) e then Some (effects order (first_group h + i)) else None
group_event h order e i (groups.Semaphore s) =
    if has_event (groups.Semaphore s) e then Some (added_units order i) else None
group_event h order e i (groups.Both s) =
    if has_event (groups.Both s) e then Some (pairs order) else None

-- how many numbers the calls of the group at index i drew, if the sequencer belongs to that group
abbrev pub group_sequencer : HeadingModel → List Placed → ℕ → ℕ → kinds.Group → Option ℕ
group_sequencer h order q i (groups.Buffer b) =
    if has_sequencer (groups.Buffer b) q then
    Some (if b.put_seq == q then length (produced order (first_group h + i))
    else consumed order (first_group h + i))
    else None
group_sequencer h order q i (groups.Database d) =
    if has_sequencer (groups.Database d) q then Some (effects order (first_group h + i)) else None
group_sequencer h order q i (groups.Semaphore s) =
    if has_sequencer (groups.Semaphore s) q then Some (taken_units order i) else None
group_sequencer h order q i (groups.Both s) =
    if has_sequencer (groups.Both s) q then Some (pairs order) else None

-- the final numbers of a database
abbrev pub final_numbers : RecordingModel → List Placed → ℕ → ℕ → List ℕ
final_numbers r order i cells =
    numbers_of_list r.lists cells (value_after (first_group r.heading + i) 0 order)

-- the final number of a cell of the group at index i, if it belongs to that group
abbrev pub group_cell : RecordingModel → List Placed → ℕ → ℕ → kinds.Group → Option ℕ
group_cell r order x i (groups.Buffer b) =
    if has_cell (groups.Buffer b) x then
    Some (last_item (produced order (first_group r.heading + i)) b.cells (x - b.first_cell))
    else None
group_cell r order x i (groups.Database d) =
    if has_cell (groups.Database d) x then Some (slice_index_or (final_numbers r order i d.cells)
    (x - d.first_cell) 0)
    else None
group_cell r order x i (groups.Semaphore s) = None
group_cell r order x i (groups.Both s) = None

abbrev pub or_else : Option ℕ → Option ℕ → Option ℕ
or_else None other = other
or_else (Some n) other = Some n

-- the first result that f has for one of these groups; the first of them has index i
abbrev pub by_groups : (ℕ → kinds.Group → Option ℕ) → ℕ → List kinds.Group → Option ℕ
by_groups f i [] = None
by_groups f i (g ∷ gs) = or_else (f i g) (by_groups f (i + 1) gs)

-- TOTALS: the final state of each object

-- a count is at most 2 ^ 64 - 1
abbrev pub event_total : RecordingModel → List Placed → ℕ → ℕ
event_total r order e =
    unwrap_or (by_groups (group_event r.heading order e) 0 r.heading.groups)
    (min (start_count r.from e + effects order e) (2 ^ 64 - 1))

abbrev pub sequencer_total : RecordingModel → List Placed → ℕ → ℕ
sequencer_total r order q =
    unwrap_or (by_groups (group_sequencer r.heading order q) 0 r.heading.groups)
    (effects order (first_sequencer r.heading + q))

abbrev pub cell_total : RecordingModel → List Placed → ℕ → ℕ
cell_total r order x =
    unwrap_or (by_groups (group_cell r order x) 0 r.heading.groups)
    (value_after (first_cell r.heading + x) 0 order)

-- AS TEXT

abbrev pub count_line : List ℕ → List ℕ → ℕ → List ℕ
count_line sort word n = sort ++ word ++ codes " " ++ decimal n ++ codes "\n"

abbrev pub cell_line : List ℕ → ℕ → ℕ → List ℕ
cell_line word i n =
    codes "cell " ++ word ++ codes "[" ++ decimal i ++ codes "] " ++ decimal n ++ codes "\n"

-- the lines of n cells of a block, from its i-th on. The block begins at cell first, and there are
-- 256 cells
unfoldable pub cell_lines : RecordingModel → List Placed → List ℕ → ℕ → ℕ → ℕ → List ℕ
cell_lines r order word first i zero = []
cell_lines r order word first i (suc n) =
    (if nat_lt (first + i) 256 then cell_line word i (cell_total r order (first + i)) else [])
    ++ cell_lines r order word first (i + 1) n

-- the lines of the objects that a word names
abbrev pub word_totals : RecordingModel → List Placed → List ℕ → Target → List ℕ
word_totals r order word (Event e) = count_line (codes "eventcount ") word (event_total r order e)
word_totals r order word (Sequencer q) = count_line (codes "sequencer ") word
    (sequencer_total r order q)
word_totals r order word (Cells first n) = cell_lines r order word first 0 n
word_totals r order word (Worker w) = []
word_totals r order word (Group g) = []

-- the same of the word at an index, if there is one
abbrev pub totals_at : RecordingModel → List Placed → Option (List ℕ × Target) → List ℕ
totals_at r order None = []
totals_at r order (Some e) = word_totals r order e.0 e.1

-- the totals, in the order of the declarations and of the objects of each
abbrev pub totals_text : RecordingModel → List Placed → List ℕ
totals_text r order =
    flat_map (λ (e : List ℕ × Target). word_totals r order e.0 e.1) r.heading.words
