use Rattle.std.proofs.Common.{◌≡◌, ◌++◌, drop}
use Rattle.calls_buffers.specs.kept.Accesses.{ByItem}
use Rattle.calls_buffers.specs.kept.Pairs.{window_list}
use Rattle.calls_buffers.proofs.windows.paired.Given as goal

abbrev pub invariant-loop-put : goal.invariant-loop-put
invariant-loop-put l = ByItem l.takes
    → l.list.items ++ window_list l.end l.takes (drop l.put-index l.puts)
    ≡ window_list l.end l.takes l.puts
