use Rattle.std.proofs.Common.{◌≡◌, ◌++◌}
use Rattle.ec_count.specs.Members.{is_member}
use Rattle.ec_core.specs.Silence.{without}
use Rattle.ec_core.proofs.silent.without.Given as goal

abbrev pub invariant-loop-entry : goal.invariant-loop-entry
invariant-loop-entry l = record {
  kept : l.rest ≡ record l.run { entries = without (λ w. is_member w l.silent) l.yielded };
  order : l.yielded ++ l.entry-iterator ≡ l.run.entries;
}
