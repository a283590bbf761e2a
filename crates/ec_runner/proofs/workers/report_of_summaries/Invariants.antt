use Rattle.std.proofs.Common.{◌≡◌, ◌+◌, ◌++◌, length, map}
use Rattle.std.specs.Vec.Iter.{into_iter_items, into_iter_len}
use Rattle.ec_runner.specs.declared.summary.Summary.{Summary}
use Rattle.ec_runner.proofs.workers.report_of_summaries.Given as goal

abbrev pub invariant-loop-summary : goal.invariant-loop-summary
invariant-loop-summary l = record {
  order : l.yielded ++ into_iter_items l.summary-iterator ≡ l.fn.summaries.items;
  left : length l.yielded + into_iter_len l.summary-iterator ≡ length l.fn.summaries.items;
  logs : l.logs.items ≡ map (λ (t : Summary). t.log) l.yielded;
  outcomes : l.outcomes.items ≡ map (λ (t : Summary). t.outcome) l.yielded;
}
