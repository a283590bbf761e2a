use Rattle.std.proofs.Common.{◌≡◌, ◌≤◌, ◌-◌, ◌++◌, length, replicate}
use Rattle.ec_draw.proofs.balance.fill.Given as goal

-- the numbers so far
abbrev pub invariant-loop-place : goal.invariant-loop-place
invariant-loop-place l = record {
  few : length l.initial.heights.items ≤ l._place;
  within : l._place ≤ l.many;
  are : l.heights.items ≡ l.initial.heights.items
      ++ replicate (l._place - length l.initial.heights.items) l.number;
}
