use Rattle.std.proofs.Common.{◌≡◌, ◌++◌, false}
use Rattle.std.specs.List.{list_any}
use Rattle.ec_core.specs.declared.act.Entry.{Entry}
use Rattle.ec_core.specs.Silence.{hands_to}
use Rattle.ec_core.proofs.run.Run.is_silent.Given as goal

abbrev pub invariant-loop-entry : goal.invariant-loop-entry
invariant-loop-entry l = record {
  order : l.yielded ++ l.entry-iterator ≡ l.self.entries;
  none : list_any (λ (x : Entry). hands_to l.worker x.act) l.yielded ≡ false;
}
