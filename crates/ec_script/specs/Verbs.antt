-- The lines of blocks and of the schedule, as a table over the word that opens them.
use Rattle.std.specs.Prelude.{ℕ, Bool, true, false, List, Option, Some, None, if◌then◌else◌, bytes_eq, codes}
use Rattle.ec_heading.specs.declared.version.Version.{Version}
use Rattle.ec_heading.specs.Versions.{has_transfer}
use Rattle.ec_script.specs.declared.verb.LineWord.{LineWord}
use Rattle.ec_script.specs.declared.verb.LineWord.TheVariants as verbs
use Rattle.ec_script.specs.declared.verb.Tail.{Tail}
use Rattle.ec_script.specs.declared.verb.Tail.TheVariants as tails

-- THE WORDS

-- the words of raw calls
abbrev pub raw_verb_of : List ℕ → Option LineWord
raw_verb_of w =
    if bytes_eq w (codes "advance") then Some verbs.Advance
    else (if bytes_eq w (codes "read") then Some verbs.Read
    else (if bytes_eq w (codes "await") then Some verbs.Await
    else (if bytes_eq w (codes "ticket") then Some verbs.Ticket
    else (if bytes_eq w (codes "put") then Some verbs.Put
    else (if bytes_eq w (codes "get") then Some verbs.Get
    else (if bytes_eq w (codes "hand") then Some verbs.Hand else None))))))

-- the words of procedures
abbrev pub procedure_verb_of : List ℕ → Option LineWord
procedure_verb_of w =
    if bytes_eq w (codes "produce") then Some verbs.Produce
    else (if bytes_eq w (codes "consume") then Some verbs.Consume
    else (if bytes_eq w (codes "write") then Some verbs.Write
    else (if bytes_eq w (codes "snapshot") then Some verbs.Snapshot
    else (if bytes_eq w (codes "p") then Some verbs.Down
    else (if bytes_eq w (codes "v") then Some verbs.Up
    else (if bytes_eq w (codes "pboth") then Some verbs.DownBoth else None))))))

-- the words that structure programs and scripts
abbrev pub item_verb_of : List ℕ → Option LineWord
item_verb_of w =
    if bytes_eq w (codes "repeat") then Some verbs.Repeat
    else (if bytes_eq w (codes "end") then Some verbs.End
    else (if bytes_eq w (codes "worker") then Some verbs.Worker
    else (if bytes_eq w (codes "schedule") then Some verbs.Schedule else None)))

abbrev pub or_else : Option LineWord → Option LineWord → Option LineWord
or_else None other = other
or_else (Some v) other = Some v

-- the line word that a word is
abbrev pub parse_line_word : List ℕ → Option LineWord
parse_line_word w = or_else (raw_verb_of w) (or_else (procedure_verb_of w) (item_verb_of w))

-- IN A VERSION

-- whether its scripts have such lines
abbrev pub has_verb : Version → LineWord → Bool
has_verb v verbs.Hand = has_transfer v
has_verb v _ = true

-- THE FORMS

-- whether the word of an object or of a worker follows it
abbrev pub has_object : LineWord → Bool
has_object verbs.Repeat = false
has_object verbs.End = false
has_object verbs.Schedule = false
has_object _ = true

-- the form of what follows these
abbrev pub tail_of : LineWord → Tail
tail_of verbs.Await = tails.Value
tail_of verbs.Put = tails.Value
tail_of verbs.Produce = tails.Value
tail_of verbs.Write = tails.Values
tail_of verbs.Snapshot = tails.Digits
tail_of verbs.Repeat = tails.Digits
tail_of verbs.DownBoth = tails.Word
tail_of verbs.Hand = tails.Word
tail_of verbs.Schedule = tails.Words
tail_of _ = tails.Nothing

-- WHAT THEY DO

-- whether it signals, writes or produces
abbrev pub is_update : LineWord → Bool
is_update verbs.Advance = true
is_update verbs.Put = true
is_update verbs.Produce = true
is_update verbs.Write = true
is_update _ = false

-- whether it opens a block or goes on with the schedule; otherwise it is inside a block
abbrev pub is_outer : LineWord → Bool
is_outer verbs.Worker = true
is_outer verbs.Schedule = true
is_outer _ = false

-- whether it counts as a command of the block
abbrev pub is_counted : LineWord → Bool
is_counted verbs.End = false
is_counted verbs.Worker = false
is_counted verbs.Schedule = false
is_counted _ = true
