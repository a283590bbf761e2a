-- What is found wrong with a text, and how it is written.
use Rattle.std.specs.Prelude.{ℕ, ◌+◌, ◌-◌, ◌&&◌, nat_le, nat_lt, List, [], ◌∷◌, ◌++◌, take, drop}
use Rattle.std.specs.Prelude.{length, min, Option, Some, None, is_none, replicate, bytes_eq, ◌==◌, codes}
use Rattle.std.specs.Prelude.{decimal, if◌then◌else◌}
use Rattle.std.specs.Option.{option_map_or}
use Rattle.std.specs.List.{flat_map}
use Rattle.ec_explain.specs.declared.cause.Cause.{Cause}
use Rattle.ec_explain.specs.declared.cause.Cause.TheVariants as causes
use Rattle.ec_explain.specs.declared.finding.LinePosition.{LinePosition}
use Rattle.ec_explain.specs.declared.finding.Finding.{Finding}
use Rattle.ec_explain.specs.declared.site.Site.{Site}
use Rattle.ec_explain.specs.declared.site.Site.TheVariants as sites
use Rattle.ec_explain.specs.Advice.{sentence, remedy}
use Rattle.ec_explain.specs.Causes.{cause_at, place_at, equals_place, line_cause}
use Rattle.calls_text.specs.Causes.{last_byte}
use Rattle.ec_explain.specs.RelatedLine.{call_line, declaration_line, right_line}
use Rattle.ec_explain.specs.Places.{word_start, word_at}
use Rattle.ec_heading.specs.Spelling.{ended_line, reply_word}
use Rattle.ec_core.specs.declared.act.Reply.{Reply}
use Rattle.ec_explain.specs.TextLines.{line_at, lines_in}
use Rattle.ec_core.specs.declared.act.Refusal.{Refusal}
use Rattle.ec_core.specs.declared.act.Refusal.TheVariants as refusals

-- this cause, which no line shows
abbrev pub finding_of_text : Cause → Finding
finding_of_text cause = record { cause = cause; spot = None; right = None; see = None }

-- this cause, at this place of the line with this number
abbrev pub finding_at : Cause → ℕ → ℕ → Finding
finding_at cause n place =
    record (finding_of_text cause) { spot = Some (record { number = n; place = place }) }

-- what is wrong with a rejected line of this number, at this site
abbrev pub finding_of_line : Site → ℕ → List ℕ → Finding
finding_of_line site n line =
    finding_at (cause_at site line) n (place_at site (cause_at site line) line)

-- the cause that the bytes of a line show by themselves; or, if they show none, this one, at the
-- word with this index
abbrev pub finding_by_bytes : Cause → ℕ → ℕ → List ℕ → Finding
finding_by_bytes cause n word line =
    option_map_or (λ c. finding_at c n (place_at sites.Unknown c line)) (line_cause line)
    (finding_at cause n (word_start word line))

-- the same with the number of another line that shows why, unless the bytes of the line show another
-- cause
abbrev pub finding_with_line : Cause → ℕ → Option ℕ → ℕ → List ℕ → Finding
finding_with_line cause word other n line =
    record (finding_by_bytes cause n word line)
    { see = if is_none (line_cause line) then other else None }

-- why an act is refused; in a trace what an entry names is declared, and each value small enough
abbrev pub refusal_cause : Refusal → Cause
refusal_cause refusals.Busy = causes.Busy
refusal_cause refusals.Idle = causes.Idle
refusal_cause refusals.NoRight = causes.NoRight
refusal_cause refusals.AtLimit = causes.AtLimit
refusal_cause refusals.NotHandable = causes.NotHandable
refusal_cause refusals.AlreadySignals = causes.AlreadySignals
refusal_cause _ = causes.Other

-- the line that shows why the act of line n is refused: the one by which the pending call began;
-- the one by which the right was lost, or that declares the object, and who may use it; and the
-- limit's
abbrev pub reason_line : Refusal → ℕ → List ℕ → Option ℕ
reason_line refusals.Busy n text = call_line n text
reason_line refusals.NoRight n text = right_line n text
reason_line refusals.NotHandable n text = declaration_line n text
reason_line refusals.AlreadySignals n text = declaration_line n text
reason_line refusals.AtLimit n text = Some 2
reason_line _ n text = None

-- the line of a refused act shows it at the act
abbrev pub finding_of_refusal : ℕ → Refusal → List ℕ → Finding
finding_of_refusal n refusal text =
    record (finding_at (refusal_cause refusal) n (word_start 1 (line_at n text)))
    { see = reason_line refusal n text }

-- the line by which the call of line n began, if that is another
abbrev pub begun_line : ℕ → List ℕ → Option ℕ
begun_line n text = if bytes_eq (word_at 1 (line_at n text)) (codes "go") then call_line n text
    else None

-- the line of an act that has another reply shows it at the reply
abbrev pub finding_of_wrong_reply : ℕ → Reply → List ℕ → Finding
finding_of_wrong_reply n right text =
    record (finding_at causes.WrongReply n
    (word_start (equals_place (line_at n text) + 1) (line_at n text)))
    { right = Some right; see = begun_line n text }

-- what is missing from a text that stops too early: all of it, the LF of its last line, or
-- otherwise this
abbrev pub find_early_end : Cause → List ℕ → Finding
find_early_end cause text =
    if length text == 0 then finding_of_text causes.EmptyText
    else (if bytes_eq (last_byte text) (10 ∷ []) then finding_of_text cause
    else finding_at causes.NoLastLf (lines_in text + 1) (length (line_at (lines_in text + 1) text)))

-- what is missing from a trace that stops before its end
abbrev pub find_missing_end : List ℕ → Finding
find_missing_end text = find_early_end causes.NoEnd text

-- THE LINE AND THE MARK

-- a byte as it is shown: a question mark for each that is no printable ASCII
abbrev pub plain : ℕ → ℕ
plain b = if nat_le 32 b && nat_lt b 127 then b else 63

abbrev pub plain_byte : ℕ → List ℕ
plain_byte b = plain b ∷ []

-- the index of the first byte that is shown of a line: 0, or 60 bytes before a place that is far
-- from the beginning
abbrev pub shown_from : ℕ → ℕ
shown_from place = if nat_lt place 80 then 0 else place - 60

-- the bytes of the line that are shown, 100 at most
abbrev pub shown_behind : ℕ → List ℕ → List ℕ
shown_behind place line = drop (min (shown_from place) (length line)) line

abbrev pub shown_bytes : ℕ → List ℕ → List ℕ
shown_bytes place line = take (min (length (shown_behind place line)) 100) (shown_behind place line)

-- the spaces before the mark
abbrev pub spaces : ℕ → List ℕ
spaces n = replicate n 32

-- the number of a line, and what is shown of the line
unfoldable pub line_text : LinePosition → List ℕ → List ℕ
line_text s line =
    codes "line " ++ decimal s.number ++ codes ":\n    "
    ++ flat_map plain_byte (shown_bytes s.place line) ++ codes "\n    "

-- the line, and a mark under the place
abbrev pub spot_or_none : Option LinePosition → List ℕ → List ℕ
spot_or_none None text = []
spot_or_none (Some s) text =
    line_text s (line_at s.number text) ++ spaces (s.place - shown_from s.place) ++ codes "^\n"

-- the right reply, if only the reply is wrong
abbrev pub right_text : Option Reply → List ℕ
right_text None = []
right_text (Some right) = codes "The right reply is " ++ reply_word right ++ codes ".\n"

-- another line that shows why: its number, and what is shown of it for a place
unfoldable pub line_seen : ℕ → ℕ → List ℕ → List ℕ
line_seen n place line =
    codes "See line " ++ decimal n ++ codes ": " ++ flat_map plain_byte (shown_bytes place line)
    ++ codes "\n"

abbrev pub see_text : Option ℕ → List ℕ → List ℕ
see_text None text = []
see_text (Some n) text = line_seen n 0 (line_at n text)

-- the line if there is one, what is wrong, why, what more is known of it, and how to mend it
unfoldable pub finding_text : Finding → List ℕ → List ℕ → List ℕ
finding_text f more text =
    spot_or_none f.spot text ++ ended_line (sentence f.cause) ++ right_text f.right
    ++ see_text f.see text ++ more ++ ended_line (remedy f.cause)
