use Rattle.std.proofs.Common.{◌≡◌, reverse}
use Rattle.ec_explain.specs.Rights.{holders_of}
use Rattle.ec_explain.proofs.rights.holders.Given as goal

-- those of the workers so far
abbrev pub invariant-loop-number : goal.invariant-loop-number
invariant-loop-number l = l.workers.items
    ≡ holders_of l.run.setup (reverse l.run.entries) l.act l.number
