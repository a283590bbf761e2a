use Rattle.std.proofs.Common.{◌≡◌, ◌++◌, take}
use Rattle.calls_core.specs.Points.{placed_one, last_point}
use Rattle.calls_core.proofs.call_list.CallList.append_to.Given as goal

abbrev pub invariant-loop-i : goal.invariant-loop-i
invariant-loop-i l = record {
  placed : l.order ≡ l.initial.order ++ placed_one 0 (take l.i l.self);
  latest : l.latest ≡ last_point 0 (take l.i l.self);
}
