-- Produces or consumes in the order of their invocations.
use Rattle.std.specs.Prelude.{List}
use Rattle.std.specs.List.Sorted.{IsNonDecreasingBy}
use Rattle.calls_buffers.specs.declared.accesses.Access.{Access}

-- they are sorted by their invocations
abbrev pub ByFirst : List Access → Type 0
ByFirst list = IsNonDecreasingBy (λ (a : Access). a.first) list
