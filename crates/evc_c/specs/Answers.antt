-- The code that a function returned, and what it wrote, for the bytes that it was given.
use Rattle.std.specs.Prelude.{◌≡◌, ◌≤◌, ◌<◌, ◌⊎◌, ℕ, Bool, true, List, [], length, take, Option, Some}
use Rattle.ec_text.specs.Puts.{OutputModel, at_first, IsWrittenOut}
use Rattle.evc_engine.specs.declared.status.Status as evc
use Rattle.evc_engine.specs.Statuses as evc_statuses
use Rattle.evc_engine.specs.Checks as evc_checks
use Rattle.calls_report.specs.Statuses as calls_statuses
use Rattle.calls_report.specs.Checks as calls_checks

-- the contract of a command: for the bytes of its input, and those that were left, its status, and
-- the outlets before and after it
abbrev pub ContractBy : Type 0 → Type 0 → Type 1
ContractBy S O = List ℕ → Option (List ℕ) → S → O → O → Type 0

-- the code that is returned: 4 if notes were cut off before the caller's buffer for them was full,
-- since memory ran out; otherwise that of the status, and if notes were cut off, at least as many
-- bytes of them were written as fit
abbrev pub IsCode : ℕ → ℕ → Bool → ℕ → ℕ → Type 0
IsCode code given is_cut many room =
    ((code ≡ 4) × (is_cut ≡ true) × (many < room)) ⊎ ((code ≡ given) × (is_cut ≡ true → room ≤ many))

-- for these bytes the command ended with this status, if it began with an empty writer for the text
-- and one for the notes; this text was written, these notes are as much of what their writer has as
-- fits, and the code is as above
pub record AnswersBy {S O : Type 0} (code_of : S → ℕ) (outputs : List ℕ → OutputModel → O) (Does : ContractBy S O) (bytes : List ℕ) (code : ℕ)
    (text notes : List ℕ) (room : ℕ) : Type 0 where
  pub status : S
  pub left : Option (List ℕ)
  pub writer : ℕ
  pub last : OutputModel
  pub ends : Does bytes left status (outputs [] (at_first writer (Some []))) (outputs text last)
  pub written : IsWrittenOut last
  pub noted : List ℕ
  pub holds : last.contents ≡ Some noted
  pub returned : notes ≡ take room noted
  pub is : IsCode code (code_of status) last.failed (length noted) room

-- COMMANDS ON TRACES AND SCRIPTS

-- outlets with these bytes of the text, and these notes
abbrev pub outputs : List ℕ → OutputModel → evc_checks.Outputs
outputs text notes = record { out = Some text; notes = notes }

abbrev pub Contract : Type 1
Contract = ContractBy evc.Status evc_checks.Outputs

abbrev pub Answers : Contract → List ℕ → ℕ → List ℕ → List ℕ → ℕ → Type 0
Answers Does bytes code text notes room = AnswersBy evc_statuses.status_code outputs Does bytes code text notes room

-- HISTORIES OF CALLS

abbrev pub calls_outputs : List ℕ → OutputModel → calls_checks.Outputs
calls_outputs text notes = record { out = Some text; notes = notes }

abbrev pub CallsAnswers : List ℕ → ℕ → List ℕ → List ℕ → ℕ → Type 0
CallsAnswers bytes code text notes room = AnswersBy calls_statuses.status_code calls_outputs calls_checks.Checks bytes code text notes room
