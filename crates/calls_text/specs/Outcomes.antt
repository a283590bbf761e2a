-- The outcome of reading a text: a function of its lines.
use Rattle.std.specs.Prelude.{◌≡◌, ℕ, ◌+◌, ◌==◌, List, [], ◌∷◌, Result, Ok, Err}
use Rattle.std.specs.List.{slice_split}
use Rattle.calls_text.specs.declared.fault.FaultKind.{FaultKind}
use Rattle.calls_text.specs.declared.fault.FaultKind.TheVariants as kinds
use Rattle.calls_text.specs.declared.fault.TextFault.{TextFault}
use Rattle.calls_text.specs.declared.fault.TextFault.TheVariants as faults
use Rattle.calls_text.specs.declared.fault.LineFault.{LineFault}
use Rattle.calls_text.specs.declared.fault.LineFault.TheVariants as lines
use Rattle.calls_text.specs.declared.reading.Read.{Read}
use Rattle.calls_text.specs.Causes.{cause_of}
use Rattle.calls_text.specs.Recordings.{RecordingModel}
use Rattle.calls_text.specs.Reading.{Stage, Ended, step}

-- the lines of a text: each part but the last ends in an LF
abbrev pub lines_of_text : List ℕ → List (List ℕ)
lines_of_text bytes = slice_split (λ b. b == 10) bytes

-- a history, the number of the line after its `end`, and the parts of the text from that line on
pub record OneRead : Type 0 where
  pub recorded : RecordingModel
  pub number : ℕ
  pub rest : List (List ℕ)

-- a history, or the number of the faulty line, its kind, and the line
pub record LineAt : Type 0 where
  pub number : ℕ
  pub kind : FaultKind
  pub line : List ℕ

abbrev pub ParseResult : Type 0
ParseResult = Result OneRead LineAt

abbrev pub fault_in : ℕ → FaultKind → List ℕ → ParseResult
fault_in n kind line = Err (record { number = n; kind = kind; line = line })

-- goes on if the line was accepted
abbrev pub after_line : ℕ → List ℕ → Result Stage FaultKind → (Stage → ParseResult) → ParseResult
after_line n line (Ok s) others = others s
after_line n line (Err kind) others = fault_in n kind line

-- bytes after the last LF are judged like a line; if that has no fault, it is unfinished
abbrev pub parse_end : ℕ → Stage → List ℕ → ParseResult
parse_end n s [] = fault_in n kinds.Unfinished []
parse_end n s (b ∷ bs) =
    after_line n (b ∷ bs) (step s (b ∷ bs)) (λ t. fault_in n kinds.Unfinished (b ∷ bs))

-- the first history of a text from line n on, in this stage: one line after another, up to `end` or
-- to the first fault
unfoldable pub parse_from : ℕ → Stage → List (List ℕ) → ParseResult
parse_from n (Ended r) parts = Ok (record { recorded = r; number = n; rest = parts })
parse_from n s [] = parse_end n s []
parse_from n s (rest ∷ []) = parse_end n s rest
parse_from n s (line ∷ next ∷ others) =
    after_line n line (step s line) (λ t. parse_from (n + 1) t (next ∷ others))

-- the error that was returned is that of the text; if memory ran out, nothing is said of the text
abbrev pub ReturnsFault : ParseResult → TextFault → Type 0
ReturnsFault o (faults.At n kind cause) =
    (line : List ℕ) × (o ≡ fault_in n kind line) × (cause ≡ cause_of kind line)
ReturnsFault o faults.Memory = Unit {0}

-- what was returned for a text
abbrev pub Returns : ParseResult → Result Read TextFault → Type 0
Returns o (Ok read) =
    o ≡ Ok (record {
      recorded = read.recording;
      number = read.number;
      rest = lines_of_text read.rest.now;
    })
Returns o (Err fault) = ReturnsFault o fault

-- the error of a text at a line, with the number of the line
abbrev pub fault_at : ℕ → List ℕ → LineFault → TextFault
fault_at n line lines.Memory = faults.Memory
fault_at n line (lines.Of kind) = faults.At n kind (cause_of kind line)
