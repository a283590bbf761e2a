-- The canonical encoding of headers, entries and traces. Words are separated by one space, and each
-- line ends in one LF.
use Rattle.std.specs.Prelude.{ℕ, ◌+◌, ◌-◌, Bool, false, ◌&&◌, nat_le, nat_lt, List, [], ◌∷◌, ◌++◌, map, Option, Some, None, if◌then◌else◌, unwrap_or, slice_index_or, codes, decimal}
use Rattle.std.specs.List.{join_with_byte, flat_map}
use Rattle.ec_count.specs.Names.{name_of}
use Rattle.ec_count.specs.declared.target.Target.{Target}
use Rattle.ec_count.specs.declared.target.Target.TheVariants.{Worker, Event, Sequencer, Cells}
use Rattle.ec_core.specs.declared.act.Act.{Act}
use Rattle.ec_core.specs.declared.act.Act.TheVariants as acts
use Rattle.ec_core.specs.declared.act.Reply.{Reply}
use Rattle.ec_core.specs.declared.act.Reply.TheVariants.{Done, Number, Pending}
use Rattle.ec_core.specs.declared.act.Entry.{Entry}
use Rattle.ec_heading.specs.declared.decl_kind.DeclKind.{DeclKind}
use Rattle.ec_heading.specs.DeclKinds.{sort_word, has_name, has_number, opener, second_opener}
use Rattle.ec_heading.specs.declared.version.Version.{Version}
use Rattle.ec_heading.specs.declared.version.Version.TheVariants.{One, Two}
use Rattle.ec_heading.specs.HeaderTree.{Declaration, HeaderTree, heading_of_tree}
pub use Rattle.ec_heading.specs.Lists.{NameTable}

-- HEADERS

abbrev pub limit_line : ℕ → List ℕ
limit_line limit = codes "limit " ++ decimal limit

abbrev pub workers_line : List (List ℕ) → List ℕ
workers_line workers = join_with_byte 32 (codes "workers" ∷ workers)

-- the names of the workers in a list
abbrev pub list_words : List (List ℕ) → List ℕ → List (List ℕ)
list_words workers ids = map (λ i. slice_index_or workers i []) ids

abbrev pub name_words : DeclKind → List ℕ → List (List ℕ)
name_words s name = if has_name s then name ∷ [] else []

abbrev pub number_words : DeclKind → ℕ → List (List ℕ)
number_words s n = if has_number s then decimal n ∷ [] else []

-- the second list, left out if it is empty
abbrev pub second_words : List (List ℕ) → Option (List ℕ) → List ℕ → List (List ℕ)
second_words workers None ids = []
second_words workers (Some word) [] = []
second_words workers (Some word) (i ∷ ids) = word ∷ list_words workers (i ∷ ids)

abbrev pub declaration_words : List (List ℕ) → Declaration → List (List ℕ)
declaration_words workers d =
    sort_word d.sort ∷ name_words d.sort d.name ++ number_words d.sort d.number
    ++ opener d.sort ∷ list_words workers d.first ++ second_words workers (second_opener d.sort) d.second

abbrev pub declaration_line : List (List ℕ) → Declaration → List ℕ
declaration_line workers d = join_with_byte 32 (declaration_words workers d)

-- ENTRIES

-- the name of a target
abbrev pub target_name : NameTable → Target → List ℕ
target_name names target = unwrap_or (name_of target names) []

-- a cell is written as the name of its block and its number there
abbrev pub cell_in : ℕ → Target → Bool
cell_in x (Cells first n) = nat_le first x && nat_lt x (first + n)
cell_in x _ = false

abbrev pub target_index : Target → ℕ
target_index (Cells first n) = first
target_index _ = 0

unfoldable pub cell_word : NameTable → ℕ → List ℕ
cell_word [] x = []
cell_word (e ∷ es) x = if cell_in x e.1 then e.0 ++ codes "[" ++ decimal (x - target_index e.1) ++ codes "]" else cell_word es x

abbrev pub act_words : NameTable → Act → List (List ℕ)
act_words names (acts.Advance e) = codes "advance" ∷ target_name names (Event e) ∷ []
act_words names (acts.Read e) = codes "read" ∷ target_name names (Event e) ∷ []
act_words names (acts.Await e v) = codes "await" ∷ target_name names (Event e) ∷ decimal v ∷ []
act_words names acts.Go = codes "go" ∷ []
act_words names (acts.Ticket q) = codes "ticket" ∷ target_name names (Sequencer q) ∷ []
act_words names (acts.Put x v) = codes "put" ∷ cell_word names x ∷ decimal v ∷ []
act_words names (acts.Get x) = codes "get" ∷ cell_word names x ∷ []
act_words names (acts.Hand e b) = codes "hand" ∷ target_name names (Event e) ∷ target_name names (Worker b) ∷ []

abbrev pub reply_word : Reply → List ℕ
reply_word Done = codes "done"
reply_word Pending = codes "pending"
reply_word (Number n) = decimal n

abbrev pub entry_words : NameTable → Entry → List (List ℕ)
entry_words names e = target_name names (Worker e.worker) ∷ act_words names e.act ++ codes "=" ∷ reply_word e.reply ∷ []

unfoldable pub entry_line : NameTable → Entry → List ℕ
entry_line names e = join_with_byte 32 (entry_words names e)

-- TRACES

-- the first line of a trace
abbrev pub trace_header : Version → List ℕ
trace_header One = codes "evc-trace 1"
trace_header Two = codes "evc-trace 2"

abbrev pub heading_lines : HeaderTree → List (List ℕ)
heading_lines o = limit_line o.limit ∷ workers_line o.workers ∷ map (declaration_line o.workers) o.declarations

abbrev pub trace_lines : HeaderTree → List Entry → List (List ℕ)
trace_lines o entries =
    trace_header o.version ∷ heading_lines o ++ codes "run" ∷ map (entry_line (heading_of_tree o).words) entries ++ codes "end" ∷ []

-- each line with its LF
abbrev pub ended_line : List ℕ → List ℕ
ended_line line = line ++ 10 ∷ []

abbrev pub lines_text : List (List ℕ) → List ℕ
lines_text lines = flat_map ended_line lines

-- the trace of a history under a header
unfoldable pub trace_text : HeaderTree → List Entry → List ℕ
trace_text o entries = lines_text (trace_lines o entries)
