-- The words for operations, as a table.
use Rattle.std.specs.Prelude.{ℕ, Bool, true, false, List, Option, Some, None, if◌then◌else◌}
use Rattle.std.specs.Prelude.{bytes_eq, codes}
use Rattle.calls_text.specs.declared.verb.OpWord.{OpWord}
use Rattle.calls_text.specs.declared.verb.OpWord.TheVariants as verbs
use Rattle.calls_text.specs.declared.verb.Tail.{Tail}
use Rattle.calls_text.specs.declared.verb.Tail.TheVariants as tails

-- the word for an operation
abbrev pub verb_word : OpWord → List ℕ
verb_word verbs.Advance = codes "advance"
verb_word verbs.Read = codes "read"
verb_word verbs.Await = codes "await"
verb_word verbs.Ticket = codes "ticket"
verb_word verbs.Put = codes "put"
verb_word verbs.Get = codes "get"
verb_word verbs.P = codes "p"
verb_word verbs.V = codes "v"
verb_word verbs.PBoth = codes "pboth"
verb_word verbs.Write = codes "write"
verb_word verbs.Snapshot = codes "snapshot"
verb_word verbs.Produce = codes "produce"
verb_word verbs.Consume = codes "consume"

-- the operation on an object of no group that a word names
abbrev pub object_verb_of : List ℕ → Option OpWord
object_verb_of w =
    if bytes_eq w (codes "advance") then Some verbs.Advance
    else (if bytes_eq w (codes "read") then Some verbs.Read
    else (if bytes_eq w (codes "await") then Some verbs.Await
    else (if bytes_eq w (codes "ticket") then Some verbs.Ticket
    else (if bytes_eq w (codes "put") then Some verbs.Put
    else (if bytes_eq w (codes "get") then Some verbs.Get else None)))))

-- the operation on a group that a word names
abbrev pub group_verb_of : List ℕ → Option OpWord
group_verb_of w =
    if bytes_eq w (codes "p") then Some verbs.P
    else (if bytes_eq w (codes "v") then Some verbs.V
    else (if bytes_eq w (codes "pboth") then Some verbs.PBoth
    else (if bytes_eq w (codes "write") then Some verbs.Write
    else (if bytes_eq w (codes "snapshot") then Some verbs.Snapshot
    else (if bytes_eq w (codes "produce") then Some verbs.Produce
    else (if bytes_eq w (codes "consume") then Some verbs.Consume else None))))))

abbrev pub or_else : Option OpWord → Option OpWord → Option OpWord
or_else None other = other
or_else (Some v) other = Some v

-- the operation that a word names
abbrev pub parse_op_word : List ℕ → Option OpWord
parse_op_word w = or_else (object_verb_of w) (group_verb_of w)

-- the form of what follows the object
abbrev pub tail_of : OpWord → Tail
tail_of verbs.Await = tails.Digits
tail_of verbs.Put = tails.Digits
tail_of verbs.Produce = tails.Digits
tail_of verbs.Write = tails.ManyDigits
tail_of verbs.PBoth = tails.Word
tail_of _ = tails.Nothing

-- whether it is an advance, a put, a write or a produce, which need another right than the other
-- calls of their object
abbrev pub is_update : OpWord → Bool
is_update verbs.Advance = true
is_update verbs.Put = true
is_update verbs.Write = true
is_update verbs.Produce = true
is_update _ = false
