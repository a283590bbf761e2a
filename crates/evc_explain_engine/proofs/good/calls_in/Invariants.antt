use Rattle.std.proofs.Common.{◌≡◌, ◌≤◌, take}
use Rattle.evc_explain_engine.specs.Good.{calls_in}
use Rattle.evc_explain_engine.proofs.good.calls_in.Given as goal

abbrev pub invariant-loop-i : goal.invariant-loop-i
invariant-loop-i l = record {
  count : l.count ≡ calls_in (take l.i l.events);
  few : l.count ≤ l.i;
}
