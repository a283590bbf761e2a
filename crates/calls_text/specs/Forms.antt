-- The form of a line of an event, over the words of the line.
use Rattle.std.specs.Prelude.{ℕ, Bool, false, ◌&&◌, ◌==◌, nat_le, List, [], ◌∷◌, length}
use Rattle.std.specs.Prelude.{Option, Some, None, option_map, if◌then◌else◌, bytes_eq, codes}
use Rattle.std.specs.Option.{option_map_or}
use Rattle.std.specs.List.{list_all}
use Rattle.std.specs.Borrow.{Bor}
use Rattle.ec_text.specs.Words.{words_of, is_number_form}
use Rattle.calls_text.specs.Verbs.{parse_op_word, tail_of}
use Rattle.calls_text.specs.declared.verb.OpWord.{OpWord}
use Rattle.calls_text.specs.declared.verb.Tail.{Tail}
use Rattle.calls_text.specs.declared.verb.Tail.TheVariants as tails
use Rattle.calls_text.specs.declared.form.ReplyWord.{ReplyWord}
use Rattle.calls_text.specs.declared.form.ReplyWord.TheVariants as answers
use Rattle.calls_text.specs.declared.form.Parts.{Parts}
use Rattle.calls_text.specs.declared.form.Parts.TheVariants as parts

-- the words of the line of an event. An invocation has its worker, its operation, its object and
-- the words after that; a response has its worker, the form of its reply, and the words of that
pub data Phrase : Type 0 where
  Calls : List ℕ → OpWord → List ℕ → List (List ℕ) → Phrase
  Returns : List ℕ → ReplyWord → List (List ℕ) → Phrase

-- the only word, if there is exactly one
abbrev pub only_in : List (List ℕ) → Option (List ℕ)
only_in [] = None
only_in (w ∷ []) = Some w
only_in (w ∷ v ∷ ws) = None

-- whether these words have the form of this tail
abbrev pub is_tail : Tail → List (List ℕ) → Bool
is_tail tails.Nothing ws = length ws == 0
is_tail tails.Digits ws = option_map_or is_number_form (only_in ws) false
is_tail tails.ManyDigits ws = nat_le 1 (length ws) && list_all is_number_form ws
is_tail tails.Word ws = length ws == 1

-- the invocation of worker w, given its operation and the words after that
abbrev pub called_in : List ℕ → Option OpWord → List (List ℕ) → Option Phrase
called_in w None ws = None
called_in w (Some v) [] = None
called_in w (Some v) (o ∷ ws) = if is_tail (tail_of v) ws then Some (Calls w v o ws) else None

abbrev pub call_in : List ℕ → List (List ℕ) → Option Phrase
call_in w [] = None
call_in w (v ∷ ws) = called_in w (parse_op_word v) ws

-- whether the one word of a response is this one
abbrev pub is_word : List ℕ → List (List ℕ) → Bool
is_word word ws = option_map_or (λ w. bytes_eq w word) (only_in ws) false

-- the form of a reply, given the words after `returns`
abbrev pub parse_reply_word : List (List ℕ) → Option ReplyWord
parse_reply_word ws =
    if is_word (codes "done") ws then Some answers.Done
    else (if is_word (codes "timeout") ws then Some answers.Timeout
    else (if nat_le 1 (length ws) && list_all is_number_form ws then Some answers.Numbers
    else None))

-- the response of worker w, given the words after `returns`
abbrev pub return_in : List ℕ → List (List ℕ) → Option Phrase
return_in w ws = option_map (λ a. Returns w a ws) (parse_reply_word ws)

-- the phrase of a line, if it has one of the forms: a worker, `calls` and a call, or a worker,
-- `returns` and a reply
unfoldable pub phrase_in : List (List ℕ) → Option Phrase
phrase_in [] = None
phrase_in (w ∷ []) = None
phrase_in (w ∷ c ∷ []) = None
phrase_in (w ∷ c ∷ v ∷ ws) =
    if bytes_eq c (codes "calls") then call_in w (v ∷ ws)
    else (if bytes_eq c (codes "returns") then return_in w (v ∷ ws) else None)

-- AS THE CODE REPRESENTS THEM

-- the words of what is left of a line, none if nothing is
abbrev pub rest_words : Option (Bor (List ℕ)) → List (List ℕ)
rest_words None = []
rest_words (Some r) = words_of r.now

abbrev pub phrase_of_parts : Parts → Phrase
phrase_of_parts (parts.Calls w v o rest) = Calls w.now v o.now (rest_words rest)
phrase_of_parts (parts.Returns w a list) = Returns w.now a (words_of list.now)
