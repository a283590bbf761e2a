use Rattle.ec_walk.specs.Walks.{sees_every_call, CoversFirst}
use Rattle.ec_walk.proofs.group_table.wide_span.Given as goal

-- the groups so far
abbrev pub invariant-loop-number : goal.invariant-loop-number
invariant-loop-number l = CoversFirst l.groups sees_every_call l.span l.number
