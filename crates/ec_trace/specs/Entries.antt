-- The entry that a line encodes, by the words of the line. Whether the version of the text allows
-- it, and whether the history accepts it, is tested later.
use Rattle.std.specs.Prelude.{ℕ, List, [], ◌∷◌, Option, Some, None, bytes_eq, codes, if◌then◌else◌}
use Rattle.ec_core.specs.declared.act.Act.{Act}
use Rattle.ec_core.specs.declared.act.Act.TheVariants as acts
use Rattle.ec_core.specs.declared.act.Reply.{Reply}
use Rattle.ec_core.specs.declared.act.Reply.TheVariants.{Done, Number, Pending}
use Rattle.ec_core.specs.declared.act.Entry.{Entry}
use Rattle.ec_text.specs.Words.{words_of, number_in_word}
use Rattle.ec_heading.specs.Lists.{worker_in}
use Rattle.ec_heading.specs.EntryWords.{NameTable, event_in, sequencer_in, cell_in_word}

infixl 10 ◌>>=◌
abbrev pub ◌>>=◌ : {A B : Type 0} → Option A → (A → Option B) → Option B
(Some x) >>= f = f x
None >>= f = None

-- the act of one word, of a word and an object, and of a word, an object and a value or a worker
unfoldable pub act_alone : List ℕ → Option Act
act_alone verb = if bytes_eq verb (codes "go") then Some acts.Go else None

unfoldable pub act_on : NameTable → List ℕ → List ℕ → Option Act
act_on names verb object =
    if bytes_eq verb (codes "advance") then (event_in names object >>= λ e. Some (acts.Advance e))
    else (if bytes_eq verb (codes "read") then (event_in names object >>= λ e. Some (acts.Read e))
    else (if bytes_eq verb (codes "ticket") then (sequencer_in names object >>= λ q. Some (acts.Ticket q))
    else (if bytes_eq verb (codes "get") then (cell_in_word names object >>= λ x. Some (acts.Get x)) else None)))

unfoldable pub act_with : NameTable → List ℕ → List ℕ → List ℕ → Option Act
act_with names verb object value =
    if bytes_eq verb (codes "await") then (event_in names object >>= λ e. number_in_word value >>= λ v. Some (acts.Await e v))
    else (if bytes_eq verb (codes "put") then (cell_in_word names object >>= λ x. number_in_word value >>= λ v. Some (acts.Put x v))
    else (if bytes_eq verb (codes "hand") then (event_in names object >>= λ e. worker_in names value >>= λ b. Some (acts.Hand e b)) else None))

unfoldable pub parse_reply : List ℕ → Option Reply
parse_reply word =
    if bytes_eq word (codes "done") then Some Done
    else (if bytes_eq word (codes "pending") then Some Pending else (number_in_word word >>= λ n. Some (Number n)))

-- worker, act, `=` and reply
unfoldable pub entry_by : NameTable → List ℕ → Option Act → List ℕ → List ℕ → Option Entry
entry_by names w act equals r =
    act >>= λ a. worker_in names w >>= λ worker.
    if bytes_eq equals (codes "=") then (parse_reply r >>= λ reply. Some (record { worker = worker; act = a; reply = reply })) else None

unfoldable pub entry_in : NameTable → List (List ℕ) → Option Entry
entry_in names (w ∷ verb ∷ equals ∷ r ∷ []) = entry_by names w (act_alone verb) equals r
entry_in names (w ∷ verb ∷ object ∷ equals ∷ r ∷ []) = entry_by names w (act_on names verb object) equals r
entry_in names (w ∷ verb ∷ object ∷ value ∷ equals ∷ r ∷ []) = entry_by names w (act_with names verb object value) equals r
entry_in names _ = None

-- the entry that a line encodes, if it encodes one
unfoldable pub entry_of : NameTable → List ℕ → Option Entry
entry_of names line = entry_in names (words_of line)
