-- The exit statuses.
use Rattle.std.specs.Prelude.{ℕ}
use Rattle.calls_report.specs.declared.status.Status.{Status}
use Rattle.calls_report.specs.declared.status.Status.TheVariants.{Done, Refused, Usage}
use Rattle.calls_report.specs.declared.status.Status.TheVariants.{InputOutput, Memory, NotDecided}

abbrev pub status_code : Status → ℕ
status_code Done = 0
status_code Refused = 1
status_code Usage = 2
status_code InputOutput = 3
status_code Memory = 4
status_code NotDecided = 5
