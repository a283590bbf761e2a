-- What a text is read as: a function of its bytes.
use Rattle.std.specs.Prelude.{◌≡◌, ◌≤◌, Option, Some, ℕ, ◌+◌, List, [], ◌∷◌, ◌++◌, length, take, Bool, Result, Ok, Err, if◌then◌else◌, ◌==◌, ◌&&◌, ◌||◌, nat_lt}
use Rattle.std.specs.List.{slice_split}
use Rattle.std.specs.Io.KnownBytes.{Consumes}
use Rattle.ec_trace.specs.declared.fault.LineFault.{LineFault}
use Rattle.ec_trace.specs.declared.fault.LineFault.TheVariants as line
use Rattle.ec_trace.specs.declared.fault.StageFault.{StageFault}
use Rattle.ec_trace.specs.declared.fault.StageFault.TheVariants as stage
use Rattle.ec_trace.specs.declared.fault.TraceFault.{TraceFault}
use Rattle.ec_trace.specs.declared.fault.TraceFault.TheVariants.{BadLine, Refused, WrongReply, Unfinished, TooLarge, Read, Memory}
use Rattle.ec_trace.specs.Stages.{Stage, Opening, Ended}
use Rattle.ec_trace.specs.TraceModel.{TraceModel}
use Rattle.ec_trace.specs.Step.{step, is_ended}

-- a state of reading: what the whole lines so far have built, the number of the line in progress,
-- and that line so far
pub record ReadState : Type 0 where
  pub stage : Stage
  pub number : ℕ
  pub part : List ℕ

-- the fault of a line, with its number
abbrev pub fault_of_line : ℕ → LineFault → TraceFault
fault_of_line n line.Bad = BadLine n
fault_of_line n (line.Refused r) = Refused n r
fault_of_line n (line.WrongReply r) = WrongReply n r

-- why a line was not accepted, with its number
abbrev pub fault_at : ℕ → StageFault → TraceFault
fault_at n stage.Memory = Memory
fault_at n (stage.Line f) = fault_of_line n f

-- the lines of a text: each part but the last ends in an LF
abbrev pub lines_of_text : List ℕ → List (List ℕ)
lines_of_text bytes = slice_split (λ b. b == 10) bytes

-- the rest without LF is faulty in two cases
abbrev pub is_bad_rest : Stage → List ℕ → Bool
is_bad_rest s rest = nat_lt 8192 (length rest) || (is_ended s && nat_lt 0 (length rest))

-- goes on if the line was accepted
abbrev pub after_line : ℕ → Result Stage LineFault → (Stage → Result ReadState TraceFault) → Result ReadState TraceFault
after_line n (Ok s) others = others s
after_line n (Err f) others = Err (fault_of_line n f)

-- the lines in order, from line n on in the stage s, up to the first fault
unfoldable pub parse_from : ℕ → Stage → List (List ℕ) → Result ReadState TraceFault
parse_from n s [] = Ok (record { stage = s; number = n; part = [] })
parse_from n s (line ∷ []) = if is_bad_rest s line then Err (BadLine n) else Ok (record { stage = s; number = n; part = line })
parse_from n s (line ∷ next ∷ others) = if nat_lt 8192 (length line) then Err (BadLine n) else after_line n (step s line) (λ t. parse_from (n + 1) t (next ∷ others))

-- what more bytes are read as, from a state of reading
abbrev pub goes_from : ReadState → List ℕ → Result ReadState TraceFault
goes_from p more = parse_from p.number p.stage (lines_of_text (p.part ++ more))

-- WHOLE TEXTS

unfoldable pub start : ReadState
start = record { stage = Opening; number = 1; part = [] }

-- a text whose lines have no fault is whole if its last line came, with its LF
abbrev pub traced_in : Stage → Result TraceModel TraceFault
traced_in (Ended t) = Ok t
traced_in _ = Err Unfinished

abbrev pub ended_at : ReadState → Result TraceModel TraceFault
ended_at p = if length p.part == 0 then traced_in p.stage else Err Unfinished

abbrev pub trace_or_fault : ℕ → List ℕ → Result ReadState TraceFault → Result TraceModel TraceFault
trace_or_fault max xs (Err f) = Err f
trace_or_fault max xs (Ok p) = if nat_lt max (length xs) then Err TooLarge else ended_at p

-- what an input is read as up to its end, if a text has at most max bytes
unfoldable pub parse_result : ℕ → List ℕ → Result TraceModel TraceFault
parse_result max xs = trace_or_fault max xs (goes_from start (take max xs))

-- what is known if a failed read is reported, of a reader that had these bytes and has those left:
-- in what it gave no line is faulty, and what follows the last LF is not faulty either
pub record HasNoFault (max : ℕ) (xs : List ℕ) (left : Option (List ℕ)) : Type 0 where
  pub given : List ℕ
  pub place : ReadState
  pub gave : Consumes (Some xs) left given
  pub within : length given ≤ max
  pub goes : goes_from start given ≡ Ok place

-- what is returned for an input that had these bytes, and has those left
abbrev pub Returns : ℕ → List ℕ → Option (List ℕ) → Result TraceModel TraceFault → Type 0
Returns max xs left (Ok t) = parse_result max xs ≡ Ok t
Returns max xs left (Err Memory) = Unit {0}
Returns max xs left (Err Read) = HasNoFault max xs left
Returns max xs left (Err fault) = parse_result max xs ≡ Err fault
