-- Runs.
use Rattle.std.specs.Prelude.{List}
use Rattle.ec_count.specs.Tables.{Tables}
use Rattle.ec_core.specs.declared.act.Entry.{Entry}

-- a run, as it is in contracts
pub record RunModel : Type 0 where
  pub setup : Tables
  pub entries : List Entry
