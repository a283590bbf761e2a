use Rattle.std.proofs.Common.{◌≡◌, ◌++◌, reverse, length}
use Rattle.ec_core.specs.PendingCalls.{AreCalls}
use Rattle.ec_core.proofs.walking.walk.Given as goal

abbrev pub invariant-loop-entry : goal.invariant-loop-entry
invariant-loop-entry g l = record {
  place : l.place ≡ length l.yielded;
  order : l.yielded ++ l.entry-iterator ≡ l.run.entries;
  calls : AreCalls l.run.setup l.calls (reverse l.yielded);
  represents : g.A.Audit.represents l.initial.audit l.audit (reverse l.yielded);
}
