-- How a text that was read is checked.
use Rattle.std.proofs.Common.{◌≡◌, ◌<◌, ◌≤◌, ◌+◌, inl, inr, ℕ, List, length, Option, Some, None}
use Rattle.std.proofs.Common.{IfSome, subst, arith}
use Rattle.std.proofs.lemmas.List.{take_all, length-take}
use Rattle.ec_text.specs.Inputs.{looked_at, IsReadUp}
use Rattle.calls_report.specs.declared.checking.TheConstants.{TEXT_MAX}
use Rattle.calls_report.specs.declared.status.Status.{Status}
use Rattle.calls_report.specs.declared.status.Status.TheVariants.{Done, Refused, Usage}
use Rattle.calls_report.specs.declared.status.Status.TheVariants.{InputOutput, Memory, NotDecided}
use Rattle.calls_report.specs.Checks.{Outputs, ChecksText, ChecksWhole, IsTooLarge, Checks}

-- if what was read is within the bound, it is the whole text
pub all_of_it : (max : ℕ) (bytes : List ℕ) → length (looked_at max bytes) ≤ max
    → looked_at max bytes ≡ bytes
all_of_it max bytes short =
    let small : length bytes ≤ max + 1 = omega (arith, length-take (max + 1) bytes, short) in
    take_all (max + 1) bytes small

longer : (max : ℕ) (bytes : List ℕ) → max < length (looked_at max bytes) → max < length bytes
longer max bytes long = omega (arith, length-take (max + 1) bytes, long)

pub too_large : (bytes : List ℕ) (status : Status) (old new : Outputs)
    → IsTooLarge status (looked_at TEXT_MAX bytes) old new → IsTooLarge status bytes old new
too_large bytes Done old new l = l
too_large bytes Refused old new l = (longer TEXT_MAX bytes l.0, l.1, l.2)
too_large bytes Usage old new l = l
too_large bytes InputOutput old new l = l
too_large bytes Memory old new l = l
too_large bytes NotDecided old new l = l

whole : (bytes : List ℕ) (left : Option (List ℕ)) (status : Status) (old new : Outputs)
    → ChecksWhole status (looked_at TEXT_MAX bytes) old new → Checks bytes left status old new
whole bytes left status old new (inl c) =
    let same : looked_at TEXT_MAX bytes ≡ bytes = all_of_it TEXT_MAX bytes c.0 in
    inl (
      subst (λ (t : List ℕ). length t ≤ TEXT_MAX) same c.0,
      subst (λ (t : List ℕ).
          ChecksText status t old new) same c.1,
    )
whole bytes left status old new (inr l) = inr (inl (too_large bytes status old new l))

pub text_checks : (known left : Option (List ℕ)) (text : List ℕ) (status : Status)
    (old new : Outputs)
    → IfSome known (λ bytes. (text ≡ looked_at TEXT_MAX bytes) × IsReadUp TEXT_MAX bytes left)
    → ChecksWhole status text old new → IfSome known (λ bytes. Checks bytes left status old new)
text_checks None left text status old new is c = tt
text_checks (Some bytes) left text status old new is c =
    whole bytes left status old new (subst (λ (t : List ℕ). ChecksWhole status t old new) is.0 c)
