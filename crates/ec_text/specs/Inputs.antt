-- What is read of an input, up to a bound.
use Rattle.std.specs.Prelude.{◌≡◌, ◌≤◌, ◌<◌, ◌⊎◌, ℕ, ◌+◌, List, take, length, Option, Some}
use Rattle.std.specs.Io.KnownBytes.{Consumes, IsAtEnd}
use Rattle.ec_text.specs.declared.input.Input.{Input}
use Rattle.ec_text.specs.declared.input.Input.TheVariants.{Whole, CutOff}

-- the bytes that are kept of an input for a text of at most max bytes: one more shows that it is
-- too long
abbrev pub looked_at : ℕ → List ℕ → List ℕ
looked_at max bytes = take (max + 1) bytes

-- an input had these bytes, and has those left: all was read, or more than max bytes were, but at
-- most a piece of 8192 bytes more
pub record IsReadUp (max : ℕ) (bytes : List ℕ) (left : Option (List ℕ)) : Type 0 where
  pub given : List ℕ
  pub gave : Consumes (Some bytes) left given
  pub few : length given ≤ max + 8192
  pub enough : IsAtEnd left ⊎ (max < length given)

-- an input had these bytes, and has those left: the text was read before a failed read, and has at
-- most max bytes
pub record IsCutOff (max : ℕ) (bytes : List ℕ) (left : Option (List ℕ)) (text : List ℕ) : Type 0 where
  pub gave : Consumes (Some bytes) left text
  pub few : length text ≤ max

-- a read failed before more than max bytes were read
abbrev pub IsCutShort : ℕ → List ℕ → Option (List ℕ) → Type 0
IsCutShort max bytes left = (text : List ℕ) × IsCutOff max bytes left text

-- how much was read, and what is returned of it
abbrev pub IsInput : ℕ → List ℕ → Option (List ℕ) → Input → Type 0
IsInput max bytes left (Whole text) = (text.items ≡ looked_at max bytes) × IsReadUp max bytes left
IsInput max bytes left (CutOff text) = IsCutOff max bytes left text.items
