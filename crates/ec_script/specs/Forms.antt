-- The form of a line of a block or of the schedule, and the values in it.
use Rattle.std.specs.Prelude.{◌≡◌, ℕ, Bool, true, false, ◌||◌, ◌&&◌, ◌==◌, nat_le, List, [], ◌∷◌, length, take, drop, Option, Some, None, option_map, is_some, if◌then◌else◌, bytes_eq, codes, unwrap_or}
use Rattle.std.specs.Option.{option_and_then, option_map_or}
use Rattle.std.specs.List.{list_all}
use Rattle.std.specs.Borrow.{Bor}
use Rattle.ec_text.specs.Words.{words_of, number_in_word, is_number_form}
use Rattle.ec_machine.specs.declared.command.Value.{Value}
use Rattle.ec_machine.specs.declared.command.Value.TheVariants.{Number, Last, LastPlus}
use Rattle.ec_script.specs.Verbs.{parse_line_word, has_object, tail_of}
use Rattle.ec_script.specs.declared.verb.LineWord.{LineWord}
use Rattle.ec_script.specs.declared.verb.LineWord.TheVariants as verbs
use Rattle.ec_script.specs.declared.verb.Tail.{Tail}
use Rattle.ec_script.specs.declared.verb.Tail.TheVariants as tails
use Rattle.ec_script.specs.declared.form.Parts.{Parts}

-- VALUES

-- the digits after `last+`
abbrev pub more_in : List ℕ → Option (List ℕ)
more_in w = if bytes_eq (take 5 w) (codes "last+") then Some (drop 5 w) else None

-- whether a word has the form of a value: `last`, `last+` and digits, or digits
abbrev pub is_value_form : List ℕ → Bool
is_value_form w = bytes_eq w (codes "last") || is_number_form (unwrap_or (more_in w) w)

-- `last+n`, for an n from 1 on
abbrev pub last_plus : ℕ → Option Value
last_plus n = if nat_le 1 n then Some (LastPlus n) else None

abbrev pub number_or_more : Option (List ℕ) → List ℕ → Option Value
number_or_more None w = option_map Number (number_in_word w)
number_or_more (Some digits) w = option_and_then last_plus (number_in_word digits)

-- the value of a word, if it is one and its number is in range
unfoldable pub value_of : List ℕ → Option Value
value_of w = if bytes_eq w (codes "last") then Some Last else number_or_more (more_in w) w

-- FORMS

-- the only word, if there is exactly one
abbrev pub only_in : List (List ℕ) → Option (List ℕ)
only_in [] = None
only_in (w ∷ []) = Some w
only_in (w ∷ v ∷ ws) = None

-- whether these words have the form of a tail
abbrev pub is_tail : Tail → List (List ℕ) → Bool
is_tail tails.Nothing ws = length ws == 0
is_tail tails.Value ws = option_map_or is_value_form (only_in ws) false
is_tail tails.Values ws = nat_le 1 (length ws) && list_all is_value_form ws
is_tail tails.Digits ws = option_map_or is_number_form (only_in ws) false
is_tail tails.Word ws = is_some (only_in ws)
is_tail tails.Words ws = nat_le 1 (length ws)

-- a line of one of the forms: its object is [] if the form has none
pub record Phrase : Type 0 where
  pub verb : LineWord
  pub object : List ℕ
  pub rest : List (List ℕ)

abbrev pub tailed_in : LineWord → List ℕ → List (List ℕ) → Option Phrase
tailed_in v object ws = if is_tail (tail_of v) ws then Some (record { verb = v; object = object; rest = ws }) else None

abbrev pub objected_in : LineWord → List (List ℕ) → Option Phrase
objected_in v [] = None
objected_in v (w ∷ ws) = tailed_in v w ws

abbrev pub verbed_in : Option LineWord → List (List ℕ) → Option Phrase
verbed_in None ws = None
verbed_in (Some v) ws = if has_object v then objected_in v ws else tailed_in v [] ws

-- the parts of a line, if it has one of the forms
unfoldable pub phrase_in : List (List ℕ) → Option Phrase
phrase_in [] = None
phrase_in (w ∷ ws) = verbed_in (parse_line_word w) ws

-- THE WORDS OF A LINE BY ITS FORM

-- the word that opens it
abbrev pub verb_word : LineWord → List ℕ
verb_word verbs.Advance = codes "advance"
verb_word verbs.Read = codes "read"
verb_word verbs.Await = codes "await"
verb_word verbs.Ticket = codes "ticket"
verb_word verbs.Put = codes "put"
verb_word verbs.Get = codes "get"
verb_word verbs.Hand = codes "hand"
verb_word verbs.Produce = codes "produce"
verb_word verbs.Consume = codes "consume"
verb_word verbs.Write = codes "write"
verb_word verbs.Snapshot = codes "snapshot"
verb_word verbs.Down = codes "p"
verb_word verbs.Up = codes "v"
verb_word verbs.DownBoth = codes "pboth"
verb_word verbs.Repeat = codes "repeat"
verb_word verbs.End = codes "end"
verb_word verbs.Worker = codes "worker"
verb_word verbs.Schedule = codes "schedule"

-- the words after the first one
abbrev pub behind_verb : Bool → List ℕ → List (List ℕ) → List (List ℕ)
behind_verb true object ws = object ∷ ws
behind_verb false object ws = ws

abbrev pub object_word : Bool → List ℕ → Type 0
object_word true object = Unit {0}
object_word false object = object ≡ []

-- the words are those of this phrase: its verb's word, the word of its object if its form has one, and a tail of its form
pub record Worded (words : List (List ℕ)) (p : Phrase) : Type 0 where
  pub are : words ≡ verb_word p.verb ∷ behind_verb (has_object p.verb) p.object p.rest
  pub none : object_word (has_object p.verb) p.object
  pub tail : is_tail (tail_of p.verb) p.rest ≡ true

-- AS THE CODE REPRESENTS THEM

-- the words of the rest of a line, none if there is no rest
abbrev pub rest_words : Option (Bor (List ℕ)) → List (List ℕ)
rest_words None = []
rest_words (Some r) = words_of r.now

abbrev pub phrase_of_parts : Parts → Phrase
phrase_of_parts p = record { verb = p.verb; object = p.object.now; rest = rest_words p.rest }
