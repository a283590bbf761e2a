-- The versions of texts: which limits and which acts each allows, and its first line.
use Rattle.std.specs.Prelude.{◌≡◌, ℕ, Bool, true, false, ◌&&◌, nat_le, List, Option, Some, None, if◌then◌else◌, bytes_eq}
use Rattle.std.specs.List.{All}
use Rattle.ec_core.specs.declared.act.Act.{Act}
use Rattle.ec_core.specs.declared.act.Act.TheVariants.{Hand}
use Rattle.ec_core.specs.declared.act.Entry.{Entry}
use Rattle.ec_heading.specs.declared.version.Version.{Version}
use Rattle.ec_heading.specs.declared.version.Version.TheVariants.{One, Two}

abbrev pub greatest_limit : Version → ℕ
greatest_limit One = 4294967295
greatest_limit Two = 281474976710655

-- whether a text of this version may have the limit n
abbrev pub is_limit : Version → ℕ → Bool
is_limit v n = nat_le 1 n && nat_le n (greatest_limit v)

abbrev pub as_limit : Version → ℕ → Option ℕ
as_limit v n = if is_limit v n then Some n else None

-- whether texts of this version may transfer components, by `hand`
abbrev pub has_transfer : Version → Bool
has_transfer One = false
has_transfer Two = true

-- whether a text of this version may have the act
abbrev pub can_spell : Version → Act → Bool
can_spell v (Hand e b) = has_transfer v
can_spell v act = true

-- a text of this version may have each of these entries
abbrev pub CanSpellAll : Version → List Entry → Type 0
CanSpellAll v entries = All (λ (e : Entry). can_spell v e.act ≡ true) entries

-- the version whose first line this is, if `header` gives the first line of each
abbrev pub version_of : (Version → List ℕ) → List ℕ → Option Version
version_of header line = if bytes_eq line (header One) then Some One else if bytes_eq line (header Two) then Some Two else None
