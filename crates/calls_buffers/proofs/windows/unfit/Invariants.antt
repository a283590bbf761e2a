use Rattle.std.proofs.Common.{◌≡◌, true, drop}
use Rattle.calls_core.specs.Lists.{Each}
use Rattle.calls_buffers.specs.declared.accesses.Access.{Access}
use Rattle.calls_buffers.specs.kept.Accesses.{ByItem}
use Rattle.calls_buffers.specs.kept.Pairs.{fits}
use Rattle.calls_buffers.proofs.windows.unfit.Given as goal

abbrev pub invariant-loop-take : goal.invariant-loop-take
invariant-loop-take l = ByItem l.puts
    → Each (λ (t : Access). fits l.puts t ≡ true) (drop l.take-index l.takes)
    → Each (λ (t : Access). fits l.puts t ≡ true) l.takes
