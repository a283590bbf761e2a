-- The text of calls and replies. Words are separated by one space.
use Rattle.std.specs.Prelude.{ℕ, ◌-◌, ◌==◌, nat_lt, List, [], ◌∷◌, ◌++◌, replicate, codes, decimal}
use Rattle.std.specs.Prelude.{unwrap_or, slice_index_or, if◌then◌else◌}
use Rattle.std.specs.List.{flat_map}
use Rattle.ec_count.specs.Names.{name_of}
use Rattle.ec_count.specs.declared.target.Target.TheVariants.{Worker, Event, Sequencer, Group}
use Rattle.ec_heading.specs.HeadingModel.{HeadingModel}
use Rattle.ec_heading.specs.Spelling.{target_name, cell_word}
use Rattle.calls_core.specs.declared.history.Op.{Op}
use Rattle.calls_core.specs.declared.history.Op.TheVariants as ops
use Rattle.calls_core.specs.declared.history.Reply.{Reply}
use Rattle.calls_core.specs.declared.history.Reply.TheVariants as replies
use Rattle.calls_text.specs.Recordings.{first_sequencer, first_cell, first_group, numbers_of}

-- WORDS: those of workers and objects within the bounds of a header, nothing for others

abbrev pub worker_word : HeadingModel → ℕ → List ℕ
worker_word h w = if nat_lt w 16 then target_name h.words (Worker w) else []

abbrev pub event_word : HeadingModel → ℕ → List ℕ
event_word h k = if nat_lt k 32 then target_name h.words (Event k) else []

abbrev pub sequencer_word : HeadingModel → ℕ → List ℕ
sequencer_word h q = if nat_lt q 32 then target_name h.words (Sequencer q) else []

abbrev pub cell_name : HeadingModel → ℕ → List ℕ
cell_name h x = if nat_lt x 256 then cell_word h.words x else []

-- the name of a group; the one without a name is `both`
abbrev pub group_word : HeadingModel → ℕ → List ℕ
group_word h i = unwrap_or (name_of (Group i) h.names) (codes "both")

-- the word of the object with this index, a cell or a database
abbrev pub store_word : HeadingModel → ℕ → List ℕ
store_word h k =
    if nat_lt k (first_group h) then cell_name h (k - first_cell h)
    else group_word h (k - first_group h)

-- VALUES

-- the list with this number, as the value of a database with so many cells
abbrev pub numbers_of_list : List (List ℕ) → ℕ → ℕ → List ℕ
numbers_of_list lists cells n =
    if n == 0 then replicate cells 0 else slice_index_or lists (n - 1) []

-- the numbers of a value of the object with this index: a cell has one, a database a list
abbrev pub numbers_of_value : HeadingModel → List (List ℕ) → ℕ → ℕ → List ℕ
numbers_of_value h lists k n =
    if nat_lt k (first_group h) then n ∷ [] else numbers_of_list lists (numbers_of h k) n

-- each number after a space
abbrev pub numbers_after_spaces : List ℕ → List ℕ
numbers_after_spaces ns = flat_map (λ n. 32 ∷ decimal n) ns

-- CALLS AND REPLIES

abbrev pub put_word : HeadingModel → ℕ → List ℕ
put_word h k = if nat_lt k (first_group h) then codes "put " else codes "write "

abbrev pub get_word : HeadingModel → ℕ → List ℕ
get_word h k = if nat_lt k (first_group h) then codes "get " else codes "snapshot "

-- a call of the object with this index
abbrev pub call_text : HeadingModel → List (List ℕ) → ℕ → Op → List ℕ
call_text h lists k ops.Advance = codes "advance " ++ event_word h k
call_text h lists k ops.Read = codes "read " ++ event_word h k
call_text h lists k (ops.Await n) = codes "await " ++ event_word h k ++ 32 ∷ decimal n
call_text h lists k ops.Ticket = codes "ticket " ++ sequencer_word h (k - first_sequencer h)
call_text h lists k (ops.P i) = codes "p " ++ group_word h i
call_text h lists k (ops.V i) = codes "v " ++ group_word h i
call_text h lists k (ops.PBoth i j) = codes "pboth " ++ group_word h i ++ 32 ∷ group_word h j
call_text h lists k (ops.Put n) = put_word h k ++ store_word h k
    ++ numbers_after_spaces (numbers_of_value h lists k n)
call_text h lists k ops.Get = get_word h k ++ store_word h k
call_text h lists k (ops.Produce v) =
    codes "produce " ++ group_word h (k - first_group h) ++ 32 ∷ decimal v
call_text h lists k ops.Consume = codes "consume " ++ group_word h (k - first_group h)

-- the numbers that a call of the object with this index returns
abbrev pub returned_value : HeadingModel → List (List ℕ) → ℕ → Op → ℕ → List ℕ
returned_value h lists k ops.Get n = numbers_of_value h lists k n
returned_value h lists k _ n = n ∷ []

-- a reply to a call of the object with this index, after a space
abbrev pub spaced_reply : HeadingModel → List (List ℕ) → ℕ → Op → Reply → List ℕ
spaced_reply h lists k op replies.Done = codes " done"
spaced_reply h lists k op replies.Timeout = codes " timeout"
spaced_reply h lists k op (replies.Number n) = numbers_after_spaces (returned_value h lists k op n)
