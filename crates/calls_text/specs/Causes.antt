-- What is wrong with the form of a line.
use Rattle.std.specs.Prelude.{ℕ, ◌-◌, ◌==◌, ◌||◌, nat_lt, Bool, List, [], ◌∷◌, length, take, drop}
use Rattle.std.specs.Prelude.{bytes_eq, codes, unwrap_or}
use Rattle.std.specs.List.{list_any}
use Rattle.ec_count.specs.Tables.{first_that}
use Rattle.ec_text.specs.Words.{words_of}
use Rattle.calls_text.specs.declared.fault.FaultKind.{FaultKind}
use Rattle.calls_text.specs.declared.fault.FaultKind.TheVariants as kinds
use Rattle.calls_text.specs.declared.fault.Cause.{Cause}
use Rattle.calls_text.specs.declared.fault.Cause.TheVariants as causes

-- whether a line has a tab
abbrev pub has_tab : List ℕ → Bool
has_tab line = list_any (λ b. b == 9) line

-- whether a line begins or ends with a space, or has two in a row; so has the empty one
abbrev pub has_space : List ℕ → Bool
has_space line = list_any (λ w. length w == 0) (words_of line)

-- the last byte, if there is one
abbrev pub last_byte : List ℕ → List ℕ
last_byte line = drop (length line - 1) line

-- what is wrong with the form of a line, whichever line is expected
abbrev pub line_cause : List ℕ → Cause
line_cause line = unwrap_or (first_that (
    (nat_lt 8192 (length line), causes.Long)
    ∷ (bytes_eq (take 3 line) (239 ∷ 187 ∷ 191 ∷ []), causes.Mark)
    ∷ (bytes_eq (last_byte line) (13 ∷ []), causes.Return)
    ∷ (has_tab line, causes.Tab)
    ∷ (length line == 0, causes.Empty)
    ∷ (has_space line, causes.Space)
    ∷ [])) causes.Other

-- what is wrong with a line that must be `evc-calls 1`
abbrev pub header_cause : List ℕ → Cause
header_cause line = unwrap_or (first_that (
    (bytes_eq line (codes "evc-trace 1") || bytes_eq line (codes "evc-trace 2"), causes.Trace)
    ∷ (bytes_eq line (codes "evc-script 1") || bytes_eq line (codes "evc-script 2"), causes.Script)
    ∷ [])) (line_cause line)

-- what is wrong with the form of a line with a fault of this kind
abbrev pub cause_of : FaultKind → List ℕ → Cause
cause_of kinds.BadHeader line = header_cause line
cause_of kinds.BadLine line = line_cause line
cause_of kinds.BadName line = line_cause line
cause_of kinds.UnknownName line = line_cause line
cause_of _ line = causes.Other
