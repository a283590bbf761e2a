-- Which other line of a text shows why a line is rejected: where a call began, and where an object
-- is declared.
use Rattle.std.specs.Prelude.{ℕ, ◌+◌, ◌==◌, ◌&&◌, ◌||◌, not, Bool, List, [], ◌∷◌, take, min, Option}
use Rattle.std.specs.Prelude.{Some, None, is_some, nat_lt, unwrap_or, bytes_eq, codes}
use Rattle.std.specs.Prelude.{if◌then◌else◌}
use Rattle.std.specs.Option.{option_or}
use Rattle.std.specs.List.{slice_split}
use Rattle.ec_heading.specs.DeclKinds.{sort_of}
use Rattle.ec_explain.specs.declared.related_line.Target.{Target}
use Rattle.ec_explain.specs.declared.related_line.Target.TheVariants.{Call, Declaration, Hand}
use Rattle.ec_explain.specs.declared.related_line.Target.TheVariants.{First, Object}
use Rattle.ec_explain.specs.Places.{word_at}
use Rattle.ec_explain.specs.TextLines.{text_before_line, line_at, position_or_end}

-- whether the worker begins a call by the line: each act but go begins one
abbrev pub begins_by : List ℕ → List ℕ → Bool
begins_by worker line = bytes_eq (word_at 0 line) worker
    && not (bytes_eq (word_at 1 line) (codes "go"))

-- whether the line declares what is called so
abbrev pub declares : List ℕ → List ℕ → Bool
declares name line = bytes_eq (word_at 1 line) name || bytes_eq (word_at 0 line) name

-- whether the worker transfers its component of the eventcount called so by the line
abbrev pub hands_by : List ℕ → List ℕ → List ℕ → Bool
hands_by worker name line =
    bytes_eq (word_at 0 line) worker
    && (bytes_eq (word_at 1 line) (codes "hand") && bytes_eq (word_at 2 line) name)

-- whether the line begins with this word
abbrev pub begins_with_word : List ℕ → List ℕ → Bool
begins_with_word w line = bytes_eq (word_at 0 line) w

-- whether the line of a header declares an object that is called so
abbrev pub declares_object : List ℕ → List ℕ → Bool
declares_object name line = bytes_eq (word_at 1 line) name && is_some (sort_of (word_at 0 line))

abbrev pub fits : Target → List ℕ → Bool
fits (Call worker) line = begins_by worker.now line
fits (Declaration name) line = declares name.now line
fits (Hand worker name) line = hands_by worker.now name.now line
fits (First word) line = begins_with_word word.now line
fits (Object name) line = declares_object name.now line

-- the lines of a text, and what follows the last LF
abbrev pub lines_of : List ℕ → List (List ℕ)
lines_of text = slice_split (λ b. b == 10) text

-- the number of the last of these lines that passes a test, if k lines come before them, and
-- `found` is the last of those that passes; what follows the last LF is no line
abbrev pub last_before : (List ℕ → Bool) → ℕ → Option ℕ → List ℕ → List (List ℕ) → Option ℕ
last_before p k found line [] = found
last_before p k found line (next ∷ lines) =
    last_before p (k + 1) (if p line then Some (k + 1) else found) next lines

abbrev pub last_in : (List ℕ → Bool) → ℕ → Option ℕ → List (List ℕ) → Option ℕ
last_in p k found [] = found
last_in p k found (line ∷ lines) = last_before p k found line lines

-- the line by which the worker of line n began its last call before it
abbrev pub call_line : ℕ → List ℕ → Option ℕ
call_line n text = last_in (begins_by (word_at 0 (line_at n text))) 0 None
    (lines_of (text_before_line n text))

-- the name of an object's declaration: what its word has before a dot or a bracket
abbrev pub base_of : List ℕ → List ℕ
base_of w = take (min (position_or_end 46 w) (position_or_end 91 w)) w

-- the line that declares the object of line n
abbrev pub declaration_line : ℕ → List ℕ → Option ℕ
declaration_line n text =
    last_in (declares (base_of (word_at 2 (line_at n text)))) 0 None (lines_of (text_before_line n text))

-- the line by which the worker of line n last transferred its component of the object of line n
abbrev pub hand_line : ℕ → List ℕ → Option ℕ
hand_line n text =
    last_in (hands_by (word_at 0 (line_at n text)) (word_at 2 (line_at n text))) 0 None
    (lines_of (text_before_line n text))

-- the line by which the worker of line n lost its right to the object of line n; or that which
-- declares the object, and says who has it
abbrev pub right_line : ℕ → List ℕ → Option ℕ
right_line n text = option_or (hand_line n text) (declaration_line n text)

-- HISTORIES OF CALLS

-- the last line before line n that begins with this word; 0 if there is none
abbrev pub line_with : List ℕ → ℕ → List ℕ → ℕ
line_with w n text =
    unwrap_or (last_in (begins_with_word w) 0 None (lines_of (text_before_line n text))) 0

-- the number of a line, if it is greater than this one
abbrev pub only_after : ℕ → Option ℕ → Option ℕ
only_after first None = None
only_after first (Some n) = if nat_lt first n then Some n else None

-- the line by which the history of line n declares the object of a word
abbrev pub object_line : List ℕ → ℕ → List ℕ → Option ℕ
object_line w n text = only_after (line_with (codes "evc-calls") n text)
    (last_in (declares_object (base_of w)) 0 None (lines_of (text_before_line n text)))
