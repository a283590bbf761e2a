-- Where a certificate is.
use Rattle.std.specs.Prelude.{ℕ, ◌+◌, ◌-◌, ◌^◌, ◌==◌, min, List, [], ◌++◌, codes, decimal}
use Rattle.std.specs.Prelude.{if◌then◌else◌}
use Rattle.ec_heading.specs.HeadingModel.{HeadingModel}

-- the site of a certificate: what is declared, the lists of numbers, the object, the number of the
-- line of the event at position 0, and the position of the first faulty event
pub record SiteModel : Type 0 where
  pub heading : HeadingModel
  pub lists : List (List ℕ)
  pub object : ℕ
  pub first : ℕ
  pub at : ℕ

-- the number of the line of the event at a position, at most 2 ^ 64 - 1
abbrev pub line_of : SiteModel → ℕ → List ℕ
line_of s n = decimal (min (s.first + n) (2 ^ 64 - 1))

-- the line of the response of an earlier call, if it is not the first faulty event
abbrev pub earlier_text : SiteModel → ℕ → List ℕ
earlier_text s n = if n == s.at then [] else codes "line " ++ line_of s n ++ codes " had "
