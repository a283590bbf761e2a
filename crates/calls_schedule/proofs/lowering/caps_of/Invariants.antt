use Rattle.std.proofs.Common.{◌≡◌, ◌-◌, ◌^◌, take, reverse}
use Rattle.calls_schedule.specs.Caps.{caps_along, least_along}
use Rattle.calls_schedule.proofs.lowering.caps_of.Given as goal

abbrev pub invariant-loop-k : goal.invariant-loop-k
invariant-loop-k l = record {
  caps : l.caps.items ≡ caps_along (2 ^ 64 - 1) (take l.k (reverse l.bounds));
  most : l.most ≡ least_along (2 ^ 64 - 1) (take l.k (reverse l.bounds));
}
