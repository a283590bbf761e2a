-- What the lines of a trace so far have built: the stages of reading.
use Rattle.ec_heading.specs.declared.version.Version.{Version}
use Rattle.ec_heading.specs.HeadingModel.{HeadingModel}
use Rattle.ec_trace.specs.TraceModel.{TraceModel}

-- nothing was read; the first line was read, and its version; the limit was read, and declarations
-- may come; entries may come; the last line was read
pub data Stage : Type 0 where
  Opening : Stage
  Limiting : Version → Stage
  Declaring : HeadingModel → Stage
  Running : TraceModel → Stage
  Ended : TraceModel → Stage
