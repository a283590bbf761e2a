-- Theorems on the format: exactly the histories that keep the rules are read, each from its own
-- text, and no text is a proper prefix of another.
use Rattle.std.specs.Prelude.{◌≡◌, ◌≢◌, ℕ, ◌+◌, ◌==◌, List, [], ◌++◌, length, count_by}
use Rattle.std.specs.Prelude.{Ok}
use Rattle.calls_text.specs.declared.fault.FaultKind.{FaultKind}
use Rattle.calls_text.specs.declared.fault.FaultKind.TheVariants as kinds
use Rattle.calls_text.specs.Recordings.{RecordingModel}
use Rattle.calls_text.specs.Reading.{Opening}
use Rattle.calls_text.specs.Outcomes.{OneRead, lines_of_text, parse_from, fault_in}
use Rattle.calls_text.specs.Rules.{KeepsRules}
use Rattle.calls_text.specs.Grammar.{history_lines, history_text}

-- WHAT IS READ IS THE TEXT OF A HISTORY

-- the history keeps the rules, and the bytes are its text and the rest: no other bytes have the
-- parts of the rest
pub record IsSpelled (bytes : List ℕ) (n : ℕ) (read : OneRead) : Type 0 where
  pub keeps : KeepsRules read.recorded
  pub rest : List ℕ
  pub text : bytes ≡ history_text read.recorded ++ rest
  pub left : read.rest ≡ lines_of_text rest
  pub same : (others : List ℕ) → read.rest ≡ lines_of_text others → others ≡ rest
  pub number : read.number ≡ n + length (history_lines read.recorded)

abbrev pub ReadIsSpelled : Type 0
ReadIsSpelled = (bytes : List ℕ) (n : ℕ) (read : OneRead)
    → parse_from n Opening (lines_of_text bytes) ≡ Ok read → IsSpelled bytes n read

-- THE TEXT OF A HISTORY IS READ

-- a history that keeps the rules is read from its text, whatever follows
abbrev pub SpelledIsRead : Type 0
SpelledIsRead = (r : RecordingModel) (n : ℕ) (rest : List ℕ) → KeepsRules r
    → parse_from n Opening (lines_of_text (history_text r ++ rest))
    ≡ Ok (record {
      recorded = r;
      number = n + length (history_lines r);
      rest = lines_of_text rest;
    })

-- NO TEXT IS A PROPER PREFIX OF ANOTHER

-- no text of a history is a proper prefix of another, and different histories have different texts
abbrev pub TextsArePrefixFree : Type 0
TextsArePrefixFree = (r s : RecordingModel) (x y : List ℕ) → KeepsRules r → KeepsRules s
    → history_text r ++ x ≡ history_text s ++ y → (r ≡ s) × (x ≡ y)

-- a text is rejected at the bytes after its last LF: as unfinished if there are none
pub record IsRefusedAtItsEnd (n : ℕ) (bytes : List ℕ) : Type 0 where
  pub line : List ℕ
  pub kind : FaultKind
  pub refused : parse_from n Opening (lines_of_text bytes)
      ≡ fault_in (n + count_by (λ b. b == 10) bytes) kind line
  pub ends : (before : List ℕ) × (bytes ≡ before ++ line)
  pub whole : line ≡ [] → kind ≡ kinds.Unfinished

-- so is each proper prefix of the text of a history
abbrev pub PrefixIsRefused : Type 0
PrefixIsRefused = (r : RecordingModel) (n : ℕ) (prefix more : List ℕ) → KeepsRules r
    → history_text r ≡ prefix ++ more → more ≢ [] → IsRefusedAtItsEnd n prefix
