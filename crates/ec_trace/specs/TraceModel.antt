-- A trace that was read, as a contract sees it.
use Rattle.std.specs.Prelude.{List}
use Rattle.ec_core.specs.declared.act.Entry.{Entry}
use Rattle.ec_heading.specs.HeadingModel.{HeadingModel}
use Rattle.ec_heading.specs.Upgrade.{upgrade_heading}

-- what is declared, and the entries in order
pub record TraceModel : Type 0 where
  pub heading : HeadingModel
  pub entries : List Entry

-- the same history under version 2
abbrev pub upgrade_trace : TraceModel → TraceModel
upgrade_trace t = record { heading = upgrade_heading t.heading; entries = t.entries }
