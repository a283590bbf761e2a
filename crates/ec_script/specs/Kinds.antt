-- The faults of a line after the declarations: each kind of fault is a test of its own.
use Rattle.std.specs.Prelude.{ℕ, ◌+◌, Bool, true, false, ◌&&◌, ◌||◌, ◌==◌, not, nat_le, nat_lt, List, [], ◌∷◌, length, Option, Some, None, is_some, is_none, unwrap_or, if◌then◌else◌}
use Rattle.std.specs.Option.{option_and_then, option_map_or}
use Rattle.std.specs.List.{list_any}
use Rattle.ec_count.specs.Tables.{Tables, first_that, component_of, may_observe, may_take, may_write, may_read}
use Rattle.ec_count.specs.Members.{is_member}
use Rattle.ec_text.specs.Words.{number_in_word}
use Rattle.ec_machine.specs.Limits.{are_apart}
use Rattle.ec_heading.specs.declared.version.Version.{Version}
use Rattle.ec_heading.specs.declared.version.Version.TheVariants.{One, Two}
use Rattle.ec_heading.specs.HeadingModel.{HeadingModel}
use Rattle.ec_heading.specs.Lists.{has_unknown}
use Rattle.ec_script.specs.declared.fault.Kind.{Kind}
use Rattle.ec_script.specs.declared.fault.Kind.TheVariants as kinds
use Rattle.ec_script.specs.declared.verb.LineWord.{LineWord}
use Rattle.ec_script.specs.declared.verb.LineWord.TheVariants as verbs
use Rattle.ec_script.specs.declared.verb.Tail.{Tail}
use Rattle.ec_script.specs.declared.verb.Tail.TheVariants as tails
use Rattle.ec_script.specs.declared.object.Object.{Object}
use Rattle.ec_script.specs.declared.object.Object.TheVariants.{Nothing, Worker, Event, Sequencer, Cell, Handed, OfBuffer, OfDatabase, OfSemaphore, SemaphorePair}
use Rattle.ec_script.specs.declared.kinds.BlockContext.{BlockContext}
use Rattle.ec_script.specs.declared.kinds.LineContext.{LineContext}
use Rattle.ec_script.specs.Verbs.{has_verb, tail_of, is_update, is_counted}
use Rattle.ec_script.specs.Forms.{Phrase, only_in, value_of}
use Rattle.ec_script.specs.Objects.{is_owned}

-- what the faults of a line depend on: the header, the workers whose blocks began, the block that
-- it is in, if it is in one, and how many names the schedule has
pub record LineContextModel : Type 0 where
  pub heading : HeadingModel
  pub named : List ℕ
  pub block : Option BlockContext
  pub scheduled : ℕ

abbrev pub context_model : LineContext → LineContextModel
context_model v = record { heading = v.heading.now; named = v.named.now; block = v.block; scheduled = v.scheduled }

-- BAD LINE

-- whether a line with this verb is allowed here: commands, `repeat` and `end` in a block; `worker`
-- in a block, where it is badly nested, and before the schedule; `schedule` anywhere
abbrev pub is_allowed : LineWord → Bool → ℕ → Bool
is_allowed verbs.Schedule in_block scheduled = true
is_allowed verbs.Worker in_block scheduled = in_block || scheduled == 0
is_allowed _ in_block scheduled = in_block

-- NAME TAKEN

-- whether the object is a worker whose block began before
abbrev pub is_named_again : List ℕ → Object → Bool
is_named_again named (Worker w) = is_member w named
is_named_again named _ = false

-- UNKNOWN NAME

-- whether a name of the schedule is no worker's
abbrev pub has_unknown_name : HeadingModel → LineWord → List (List ℕ) → Bool
has_unknown_name h verbs.Schedule ws = has_unknown h.words ws
has_unknown_name h _ ws = false

-- BAD NUMBER

abbrev pub is_no_value : List ℕ → Bool
is_no_value w = is_none (value_of w)

-- how many cells a database has, 0 for another object
abbrev pub cells_of : Object → ℕ
cells_of (OfDatabase d) = d.cells
cells_of _ = 0

-- the greatest count of a repeat, or of tries
abbrev pub greatest : LineWord → ℕ
greatest verbs.Repeat = 1000000
greatest _ = 1000

-- whether this is a number from 1 to the greatest
abbrev pub is_count : ℕ → Option ℕ → Bool
is_count most None = false
is_count most (Some n) = nat_le 1 n && nat_le n most

-- whether a number is out of range, or the values are not as many as the cells
abbrev pub is_bad_tail : Tail → LineWord → List (List ℕ) → Object → Bool
is_bad_tail tails.Value v ws o = option_map_or is_no_value (only_in ws) false
is_bad_tail tails.Values v ws o = list_any is_no_value ws || not (length ws == cells_of o)
is_bad_tail tails.Digits v ws o = not (is_count (greatest v) (option_and_then number_in_word (only_in ws)))
is_bad_tail _ v ws o = false

-- TOO MANY

-- whether the commands of the block, or the names of the schedule, become too many
abbrev pub is_too_many : LineWord → List (List ℕ) → Option BlockContext → ℕ → Bool
is_too_many verbs.Schedule ws block scheduled = nat_lt 65536 (scheduled + length ws)
is_too_many v ws None scheduled = false
is_too_many v ws (Some n) scheduled = is_counted v && nat_le 4096 n.commands

-- TWO ROLES

-- whether two of the three semaphores are one
abbrev pub has_two_roles : Object → Bool
has_two_roles (SemaphorePair common one other) = not (are_apart common one other)
has_two_roles _ = false

-- NO RIGHT

-- whether a script may have the worker signal the eventcount: in version 1 only its declared
-- signallers may; in version 2 components may be handed over, so the right is tested when the
-- program runs
abbrev pub may_signal : Version → Tables → ℕ → ℕ → Bool
may_signal One t e w = is_some (component_of t e w)
may_signal Two t e w = nat_lt e (length t.events)

-- so of a `hand` it is tested only that there are such an eventcount and such a worker
abbrev pub are_declared : Tables → ℕ → ℕ → Bool
are_declared t e b = nat_lt e (length t.events) && nat_lt b t.workers

abbrev pub has_right : Version → Tables → ℕ → Bool → Object → Bool
has_right v t w update (Event e) = if update then may_signal v t e w else may_observe t e w
has_right v t w update (Sequencer q) = may_take t q w
has_right v t w update (Cell x) = if update then may_write t x w else may_read t x w
has_right v t w update (Handed e b) = are_declared t e b
has_right v t w update (OfBuffer b) = may_take t (if update then b.put_seq else b.take_seq) w
has_right v t w update (OfDatabase d) = if update then may_take t d.turn w else may_observe t d.start w
has_right v t w update (OfSemaphore s) = may_take t s.line w
has_right v t w update (SemaphorePair common one other) = may_take t common.line w && may_take t one.line w && may_take t other.line w
has_right v t w update _ = true

-- whether the worker of the block lacks the right to use the object as the verb does
abbrev pub lacks_right : HeadingModel → Option BlockContext → LineWord → Object → Bool
lacks_right h None v o = false
lacks_right h (Some n) v o = not (has_right h.version h.setup n.worker (is_update v) o)

-- BAD NESTING

-- whether a line that must not be inside a block is, or a fifth repeat is inside the others, or an
-- `end` closes a repeat without a command
abbrev pub is_badly_nested : LineWord → Option BlockContext → Bool
is_badly_nested v None = false
is_badly_nested verbs.Worker (Some n) = true
is_badly_nested verbs.Schedule (Some n) = true
is_badly_nested verbs.Repeat (Some n) = nat_le 4 n.depth
is_badly_nested verbs.End (Some n) = nat_lt 0 n.depth && n.is_empty
is_badly_nested v (Some n) = false

-- THE LEAST

-- the object of a line, Nothing if no declared one is named
abbrev pub or_nothing : Option Object → Object
or_nothing o = unwrap_or o Nothing

-- the tests of a line that is allowed here, in the order of their kinds
abbrev pub phrase_tests : LineContextModel → Phrase → Option Object → List (Bool × Kind)
phrase_tests s p o =
    (is_named_again s.named (or_nothing o), kinds.NameTaken)
    ∷ (is_none o || has_unknown_name s.heading p.verb p.rest, kinds.UnknownName)
    ∷ (is_bad_tail (tail_of p.verb) p.verb p.rest (or_nothing o), kinds.BadNumber)
    ∷ (is_too_many p.verb p.rest s.block s.scheduled, kinds.TooMany)
    ∷ (is_owned s.heading.groups (or_nothing o), kinds.Hidden)
    ∷ (has_two_roles (or_nothing o), kinds.TwoRoles)
    ∷ (lacks_right s.heading s.block p.verb (or_nothing o), kinds.NoRight)
    ∷ (is_badly_nested p.verb s.block, kinds.BadNesting)
    ∷ []

-- the least fault of a line of one of the forms, which has this object
abbrev pub phrase_fault : LineContextModel → Phrase → Option Object → Option Kind
phrase_fault s p o = first_that ((not (has_verb s.heading.version p.verb && is_allowed p.verb (is_some s.block) s.scheduled), kinds.BadLine) ∷ phrase_tests s p o)
