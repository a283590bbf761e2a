-- A header, as a contract sees it.
use Rattle.std.specs.Prelude.{ℕ, List}
use Rattle.ec_count.specs.Tables.{Tables}
use Rattle.ec_count.specs.declared.target.Target.{Target}
use Rattle.ec_heading.specs.declared.group.Group.{Group}
use Rattle.ec_heading.specs.declared.version.Version.{Version}

-- the version of the text, the tables, the names and what each denotes, the words by which lines
-- name the workers and the objects, the groups, and what was declared after the workers, in order
pub record HeadingModel : Type 0 where
  pub version : Version
  pub setup : Tables
  pub names : List (List ℕ × Target)
  pub words : List (List ℕ × Target)
  pub groups : List Group
  pub declarations : List Target
