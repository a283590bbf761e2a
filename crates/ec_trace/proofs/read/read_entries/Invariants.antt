use Rattle.std.proofs.Common.{◌-◌, List, ℕ, []}
use Rattle.ec_core.specs.declared.act.Entry.{Entry}
use Rattle.ec_trace.specs.kept.LineCache.{IsLineCache}
use Rattle.ec_trace.specs.EntrySinks.{history_of}
use Rattle.ec_trace.specs.Stages.{Running}
use Rattle.ec_trace.specs.Reading.{Reaches, IsOpened}
use Rattle.ec_trace.specs.declared.read.TheConstants.{TRACE_MAX}
use Rattle.ec_trace.proofs.read.read_entries.Given as goal

abbrev pub invariant-loop-fault : goal.invariant-loop-fault
invariant-loop-fault g l = record {
  kept : IsLineCache l.heading.words l.cache;
  represents : (first : g.row.H.Denot)
      → g.H.EntrySink.represents first l.fn.history (history_of l.heading [])
      → (entries : List Entry)
      × g.H.EntrySink.represents first l.history (history_of l.heading entries)
      × ((xs : List ℕ) → IsOpened xs (g.R.Read.remaining l.fn.reader) l.fn.lines l.heading → Reaches xs (g.R.Read.remaining l.reader) l.lines (Running (record { heading = l.heading; entries = entries })));
}

abbrev pub decreases-loop-fault : goal.decreases-loop-fault
decreases-loop-fault g l = TRACE_MAX - l.lines.taken
