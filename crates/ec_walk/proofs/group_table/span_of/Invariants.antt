use Rattle.ec_walk.specs.Walks.{names, CoversFirst}
use Rattle.ec_walk.proofs.group_table.span_of.Given as goal

-- the groups so far
abbrev pub invariant-loop-number : goal.invariant-loop-number
invariant-loop-number l = CoversFirst l.groups (λ g. names g l.act) l.span l.number
