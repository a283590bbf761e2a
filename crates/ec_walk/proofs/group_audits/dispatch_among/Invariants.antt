use Rattle.std.proofs.Common.{◌≡◌, ◌<◌}
use Rattle.ec_walk.specs.Walks.{DispatchesAmong}
use Rattle.ec_walk.proofs.group_audits.dispatch_among.Given as goal

-- the groups so far; and none, if the span ends before its first
abbrev pub invariant-loop-number : goal.invariant-loop-number
invariant-loop-number g l = record {
  handed : DispatchesAmong g.A.Audit.represents l.groups l.wide l.fn.span.first l.number l.place l.op l.entry l.initial.audits l.audits;
  none : l.fn.span.end < l.number → l.number ≡ l.fn.span.first;
}
