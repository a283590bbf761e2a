-- The grammar of traces: which bytes encode which header and which accepted history. It says
-- nothing of reading or writing.
use Rattle.std.specs.Prelude.{◌≡◌, ℕ, ◌≤◌, List, length, reverse}
use Rattle.ec_core.specs.declared.act.Entry.{Entry}
use Rattle.ec_core.specs.Acceptance.{IsAccepted}
use Rattle.ec_heading.specs.HeaderTree.{HeaderTree, IsHeaderTree, heading_of_tree}
use Rattle.ec_heading.specs.Spelling.{trace_text}
use Rattle.ec_heading.specs.Versions.{CanSpellAll}
use Rattle.ec_trace.specs.declared.read.TheConstants.{TRACE_MAX}

-- the bytes are the trace of this header and this history, which has no `hand` if the header is of
-- version 1
pub record IsTrace (bytes : List ℕ) (o : HeaderTree) (entries : List Entry) : Type 0 where
  pub heading : IsHeaderTree o
  pub accepted : IsAccepted (heading_of_tree o).setup (reverse entries)
  pub spelled : CanSpellAll o.version entries
  pub text : bytes ≡ trace_text o entries
  pub within : length bytes ≤ TRACE_MAX
