-- The syntax tree of a header, computed from what it declares, and the text of a trace by it.
use Rattle.std.specs.Prelude.{ℕ, List, [], ◌∷◌, ◌++◌, map, Option, Some, None, option_map, slice_get, codes}
use Rattle.std.specs.List.{filter_map, flat_map, range_with_len}
use Rattle.ec_count.specs.Tables.{Tables, signallers}
use Rattle.ec_count.specs.Lists.{observers, takers, writers, readers}
use Rattle.ec_count.specs.declared.target.Target.{Target}
use Rattle.ec_count.specs.declared.target.Target.TheVariants.{Worker, Event, Sequencer, Cells, Group}
use Rattle.ec_core.specs.declared.act.Entry.{Entry}
use Rattle.ec_heading.specs.declared.group.Group as kinds
use Rattle.ec_heading.specs.declared.group.Group.TheVariants as groups
use Rattle.ec_heading.specs.declared.decl_kind.DeclKind.TheVariants as sorts
use Rattle.ec_heading.specs.DeclKinds.{sort_word, opener, second_opener}
use Rattle.ec_heading.specs.HeadingModel.{HeadingModel}
use Rattle.ec_heading.specs.HeaderTree.{Declaration, HeaderTree}
use Rattle.ec_heading.specs.Spelling.{NameTable, target_name, name_words, number_words, limit_line, workers_line, trace_header, entry_line, ended_line, lines_text}

-- the names of workers
abbrev pub names_of : NameTable → List ℕ → List (List ℕ)
names_of names ids = map (λ i. target_name names (Worker i)) ids

abbrev pub worker_names : HeadingModel → List (List ℕ)
worker_names h = names_of h.words (range_with_len 0 h.setup.workers)

-- what was declared for a group of this name
abbrev pub declared_group : Tables → List ℕ → kinds.Group → Declaration
declared_group t name (groups.Buffer b) = record { sort = sorts.Buffer; name = name; number = b.cells; first = writers t b.first_cell; second = readers t b.first_cell }
declared_group t name (groups.Database d) = record { sort = sorts.Database; name = name; number = d.cells; first = writers t d.first_cell; second = readers t d.first_cell }
declared_group t name (groups.Semaphore s) = record { sort = sorts.Semaphore; name = name; number = s.initial; first = takers t s.line; second = [] }
declared_group t name (groups.Both s) = record { sort = sorts.Both; name = sort_word sorts.Both; number = 0; first = takers t s.line; second = [] }

-- what was declared for a target
abbrev pub declaration_of : HeadingModel → Target → Option Declaration
declaration_of h (Event e) = Some (record { sort = sorts.EventCount; name = target_name h.names (Event e); number = 0; first = signallers h.setup e; second = observers h.setup e })
declaration_of h (Sequencer q) = Some (record { sort = sorts.Sequencer; name = target_name h.names (Sequencer q); number = 0; first = takers h.setup q; second = [] })
declaration_of h (Cells x n) = Some (record { sort = sorts.Cells; name = target_name h.names (Cells x n); number = n; first = writers h.setup x; second = readers h.setup x })
declaration_of h (Group i) = option_map (declared_group h.setup (target_name h.names (Group i))) (slice_get h.groups i)
declaration_of h (Worker w) = None

abbrev pub declarations_of : HeadingModel → List Declaration
declarations_of h = filter_map (declaration_of h) h.declarations

abbrev pub outline_of : HeadingModel → HeaderTree
outline_of h = record { version = h.version; limit = h.setup.limit; workers = worker_names h; declarations = declarations_of h }

-- THE LINES, BY THE NAMES OF THE HEADER

-- each word with a space before it
abbrev pub with_spaces : List (List ℕ) → List ℕ
with_spaces words = flat_map (λ w. 32 ∷ w) words

-- the second list, left out if it is empty
abbrev pub second_names : NameTable → Option (List ℕ) → List ℕ → List (List ℕ)
second_names names None ids = []
second_names names (Some word) [] = []
second_names names (Some word) (i ∷ ids) = word ∷ names_of names (i ∷ ids)

abbrev pub declared_line : NameTable → Declaration → List ℕ
declared_line names d = sort_word d.sort ++ with_spaces (name_words d.sort d.name ++ number_words d.sort d.number ++ opener d.sort ∷ names_of names d.first ++ second_names names (second_opener d.sort) d.second)

-- the line of a declaration, if there is one
abbrev pub declared_text : NameTable → Option Declaration → List ℕ
declared_text names None = []
declared_text names (Some d) = declared_line names d ++ 10 ∷ []

-- the lines of a header after the first one, and `run`
unfoldable pub heading_text : NameTable → HeadingModel → List ℕ
heading_text names h = lines_text (
    limit_line h.setup.limit ∷ workers_line (names_of names (range_with_len 0 h.setup.workers))
    ∷ map (declared_line names) (declarations_of h) ++ codes "run" ∷ [])

-- the lines before the entries
unfoldable pub opening_text : NameTable → HeadingModel → List ℕ
opening_text names h = ended_line (trace_header h.version) ++ heading_text names h

-- the line of an entry, if there is one
abbrev pub entry_text : NameTable → Option Entry → List ℕ
entry_text names None = []
entry_text names (Some e) = entry_line names e ++ 10 ∷ []

-- the trace by these names
abbrev pub written_text : NameTable → HeadingModel → List Entry → List ℕ
written_text names h entries = opening_text names h ++ lines_text (map (entry_line names) entries) ++ codes "end\n"
