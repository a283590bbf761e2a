-- The first lines of scripts.
use Rattle.std.specs.Prelude.{ℕ, List, codes}
use Rattle.ec_heading.specs.declared.version.Version.{Version}
use Rattle.ec_heading.specs.declared.version.Version.TheVariants.{One, Two}

abbrev pub script_header : Version → List ℕ
script_header One = codes "evc-script 1"
script_header Two = codes "evc-script 2"

-- a version, and a limit of its texts
pub record VersionLimitModel : Type 0 where
  pub version : Version
  pub limit : ℕ

abbrev pub version_limit : Version → ℕ → VersionLimitModel
version_limit v n = record { version = v; limit = n }
