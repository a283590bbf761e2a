-- What a line adds to a header, by the words of the line.
use Rattle.std.specs.Prelude.{◌≡◌, ℕ, Bool, ◌==◌, ◌||◌, nat_lt, List, [], ◌∷◌, length, Option, Some, None, Result, Ok, Err, IsOk, if◌then◌else◌, bytes_eq, codes}
use Rattle.std.specs.List.{list_any}
use Rattle.ec_text.specs.Words.{words_of}
use Rattle.ec_heading.specs.HeadingModel.{HeadingModel}
use Rattle.ec_heading.specs.HeaderTree.{empty_heading, with_declaration}
use Rattle.ec_heading.specs.Form.{Phrase, parts_in}
use Rattle.ec_heading.specs.Kinds.{workers_fault, declaration_of, declaration_fault}
use Rattle.ec_heading.specs.declared.version.Version.{Version}
use Rattle.ec_heading.specs.declared.heading.HeadFault.{HeadFault}
use Rattle.ec_heading.specs.declared.heading.HeadFault.TheVariants as faults

-- the fault, or otherwise the header
abbrev pub fault_or : Option HeadFault → HeadingModel → Result HeadingModel HeadFault
fault_or None h = Ok h
fault_or (Some fault) h = Err fault

-- THE LINE OF THE WORKERS

-- the names after the word `workers`, if there is at least one
abbrev pub workers_in : List (List ℕ) → Option (List (List ℕ))
workers_in [] = None
workers_in (w ∷ []) = None
workers_in (w ∷ v ∷ vs) = if bytes_eq w (codes "workers") then Some (v ∷ vs) else None

abbrev pub opened_by : Version → ℕ → Option (List (List ℕ)) → Result HeadingModel HeadFault
opened_by version limit None = Err faults.BadLine
opened_by version limit (Some ws) = fault_or (workers_fault ws) (empty_heading version limit ws)

-- A DECLARATION

abbrev pub declared_or : HeadingModel → Option Phrase → Result HeadingModel HeadFault
declared_or h None = Err faults.BadLine
declared_or h (Some p) = fault_or (declaration_fault h.setup h.words p) (with_declaration h (declaration_of h.words p))

-- EITHER

-- the line of the workers comes first, and then only declarations
abbrev pub words_step : HeadingModel → List (List ℕ) → Result HeadingModel HeadFault
words_step h ws = if h.setup.workers == 0 then opened_by h.version h.setup.limit (workers_in ws) else declared_or h (parts_in ws)

-- whether a line is too long, or has an empty word
abbrev pub is_no_line : List ℕ → Bool
is_no_line line = nat_lt 8192 (length line) || list_any (λ w. length w == 0) (words_of line)

-- the header after a line, or the lowest fault of the line
unfoldable pub head_step : HeadingModel → List ℕ → Result HeadingModel HeadFault
head_step h line = if is_no_line line then Err faults.BadLine else words_step h (words_of line)

-- what a call with a line returns and changes: the fault is that of the step, or out of memory if
-- the step has none; and a fault changes nothing
abbrev pub FailsAs : HeadFault → Result HeadingModel HeadFault → Type 0
FailsAs faults.Memory stepped = IsOk stepped
FailsAs fault stepped = stepped ≡ Err fault

abbrev pub Steps : Result (Unit {0}) HeadFault → HeadingModel → HeadingModel
    → Result HeadingModel HeadFault → Type 0
Steps (Ok x) old new stepped = stepped ≡ Ok new
Steps (Err fault) old new stepped = (new ≡ old) × FailsAs fault stepped

abbrev pub Lines : Result (Unit {0}) HeadFault → HeadingModel → HeadingModel → List ℕ → Type 0
Lines result old new line = Steps result old new (head_step old line)
