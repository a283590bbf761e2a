use Rattle.std.proofs.Common.{◌≡◌, ◌*◌, ◌^◌, ◌≤◌}
use Rattle.ec_core.specs.Counts.{sum_to}
use Rattle.ec_core.specs.kept.Fields.{count_value}
use Rattle.ec_core.specs.Standing.{count_at}
use Rattle.ec_core.proofs.fields.component_sum.Given as goal

abbrev pub invariant-loop-component : goal.invariant-loop-component
invariant-loop-component l = record {
  sum : l.sum ≡ sum_to (λ c. count_value (count_at l.counts l.event c)) l.component;
  small : l.sum ≤ l.component * 2 ^ 48;
}
