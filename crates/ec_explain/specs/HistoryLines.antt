-- What is wrong with a line of a history of calls, by its words and by the lines before it. The
-- kind of its fault is known: the line has no known form, names something unknown, or has a number
-- out of range.
use Rattle.std.specs.Prelude.{ℕ, ◌-◌, ◌==◌, ◌&&◌, not, Bool, true, false, nat_lt, nat_le, List, []}
use Rattle.std.specs.Prelude.{◌∷◌, length, Option, Some, None, is_some, is_none, unwrap_or}
use Rattle.std.specs.Prelude.{bytes_eq, codes, if◌then◌else◌}
use Rattle.ec_count.specs.Tables.{first_that}
use Rattle.ec_text.specs.Words.{words_of}
use Rattle.ec_heading.specs.DeclKinds.{sort_of}
use Rattle.calls_text.specs.Verbs.{parse_op_word}
use Rattle.ec_explain.specs.declared.cause.Cause.{Cause}
use Rattle.ec_explain.specs.declared.cause.Cause.TheVariants as causes
use Rattle.ec_explain.specs.declared.finding.Finding.{Finding}
use Rattle.ec_explain.specs.Causes.{first_failing, limit_cause}
use Rattle.ec_explain.specs.Findings.{finding_by_bytes, finding_with_line}
use Rattle.ec_explain.specs.Places.{word_at, number_place, is_listed_by, names_worker}
use Rattle.ec_explain.specs.RelatedLine.{line_with, object_line}
use Rattle.ec_explain.specs.TextLines.{line_at}

-- WHERE THE LINE IS

-- the first line of the history of line n
abbrev pub opening_line : ℕ → List ℕ → ℕ
opening_line n text = line_with (codes "evc-calls") n text

-- whether line n comes after the line `run` of its history
abbrev pub is_running : ℕ → List ℕ → Bool
is_running n text = nat_lt (opening_line n text) (line_with (codes "run") n text)

-- the line that names the workers of that history
abbrev pub workers_line : ℕ → List ℕ → List ℕ
workers_line n text = line_at (line_with (codes "workers") n text) text

-- A LINE OF NO KNOWN FORM

-- what is wrong with a line after `run` that is no event
abbrev pub event_cause : List ℕ → Cause
event_cause line = unwrap_or (first_that (
    (bytes_eq (word_at 1 line) (codes "returns"), causes.ReplyWords)
    ∷ (not (bytes_eq (word_at 1 line) (codes "calls")), causes.NoCallWord)
    ∷ (is_none (parse_op_word (word_at 2 line)), causes.NoOperation)
    ∷ [])) causes.CallWords

-- the index of the word that shows it. What does not suit an operation comes after its object
abbrev pub event_place : List ℕ → ℕ
event_place line =
    if bytes_eq (word_at 1 line) (codes "returns") then 2
    else (if not (bytes_eq (word_at 1 line) (codes "calls")) then 1
    else (if is_none (parse_op_word (word_at 2 line)) then 2
    else (if nat_le (length (words_of line)) 3 then 3 else 4)))

-- what is wrong with a line after that of the workers, which is no declaration and no line `from`
abbrev pub declared_cause : ℕ → List ℕ → List ℕ → Cause
declared_cause n text line = unwrap_or (first_that (
    (names_worker (workers_line n text) (word_at 0 line), causes.EntryBeforeRun)
    ∷ (bytes_eq (word_at 0 line) (codes "from"), causes.FromForm)
    ∷ (nat_lt (opening_line n text) (line_with (codes "from") n text), causes.AfterFrom)
    ∷ (is_none (sort_of (word_at 0 line)), causes.NoDeclaration)
    ∷ [])) causes.DeclarationForm

-- what is wrong with a line before `run`: the second of a history gives the limit, the third the
-- workers
abbrev pub early_cause : ℕ → List ℕ → List ℕ → Cause
early_cause n text line =
    if n - opening_line n text == 1 then limit_cause line
    else (if n - opening_line n text == 2 then causes.NoWorkers else declared_cause n text line)

abbrev pub form_finding : ℕ → List ℕ → List ℕ → Finding
form_finding n text line =
    if is_running n text then finding_by_bytes (event_cause line) n (event_place line) line
    else finding_by_bytes (early_cause n text line) n 0 line

-- AN UNKNOWN NAME

-- whether a history has declared a semaphore of this name by line n
abbrev pub has_semaphore : List ℕ → ℕ → List ℕ → Bool
has_semaphore w n text =
    bytes_eq (word_at 0 (line_at (unwrap_or (object_line w n text) 0) text)) (codes "semaphore")

-- the index of the word that names no object, in a call: the second semaphore of a `pboth`, if the
-- first is one
abbrev pub unknown_object_place : ℕ → List ℕ → List ℕ → ℕ
unknown_object_place n text line =
    if bytes_eq (word_at 2 line) (codes "pboth") && has_semaphore (word_at 3 line) n text then 4
    else 3

-- the object that a call names at this index is declared, and of another sort; or it is not
abbrev pub object_finding : ℕ → ℕ → List ℕ → List ℕ → Finding
object_finding place n text line =
    finding_with_line (if is_some (object_line (word_at place line) n text) then causes.OtherSort
    else causes.NotDeclared) place (object_line (word_at place line) n text) n line

-- whether a line is a `pboth`, and its history has no line `both`
abbrev pub lacks_both : ℕ → List ℕ → List ℕ → Bool
lacks_both n text line = bytes_eq (word_at 2 line) (codes "pboth")
    && nat_le (line_with (codes "both") n text) (opening_line n text)

-- in an event the worker is not declared; or there is no line `both`; or it is the object
abbrev pub unknown_in_event : ℕ → List ℕ → List ℕ → Finding
unknown_in_event n text line =
    if not (names_worker (workers_line n text) (word_at 0 line))
    then finding_with_line causes.UnknownWorker 0 (Some (line_with (codes "workers") n text)) n line
    else (if lacks_both n text line then finding_by_bytes causes.NoBoth n 2 line
    else object_finding (unknown_object_place n text line) n text line)

-- before `run` it is the eventcount of a line `from`, or a worker in a declaration
abbrev pub unknown_early : ℕ → List ℕ → List ℕ → Finding
unknown_early n text line =
    if bytes_eq (word_at 0 line) (codes "from") then finding_by_bytes causes.FromForm n 1 line
    else finding_by_bytes causes.UnknownName n
    (first_failing (is_listed_by (workers_line n text)) line) line

abbrev pub unknown_finding : ℕ → List ℕ → List ℕ → Finding
unknown_finding n text line = if is_running n text then unknown_in_event n text line
    else unknown_early n text line

-- A NUMBER OUT OF RANGE

-- the index of the word that is the number, in a call or in a line of the header
abbrev pub range_place : ℕ → List ℕ → List ℕ → ℕ
range_place n text line = if is_running n text then 4 else number_place line

abbrev pub range_cause : ℕ → List ℕ → List ℕ → Cause
range_cause n text line =
    if is_running n text then causes.OutOfRange
    else (if n - opening_line n text == 1 then limit_cause line
    else (if bytes_eq (word_at 0 line) (codes "from") then causes.FromRange else causes.BadNumber))

-- A CALL THAT IS NOT ALLOWED

-- the index of the word that names the object, in a call or in a line `from`
abbrev pub object_place : ℕ → List ℕ → ℕ
object_place n text = if is_running n text then 3 else 1

-- the line that declares the object, and who may call it. A `pboth` needs three rights: no one line
-- shows which is lacking
abbrev pub right_line_of : ℕ → List ℕ → List ℕ → Option ℕ
right_line_of n text line =
    if bytes_eq (word_at 2 line) (codes "pboth") then None
    else object_line (word_at 3 line) n text
