use Rattle.std.proofs.Common.{◌≡◌, ℕ, ◌<◌, Some, length, slice_get}
use Rattle.ec_count.specs.Tables.{signallers}
use Rattle.ec_core.proofs.fields.declared_signallers.Given as goal

abbrev pub invariant-loop-e : goal.invariant-loop-e
invariant-loop-e l = record {
  all : length l.signal ≡ 32;
  signal : (i : ℕ) → i < l.e → slice_get l.signal i ≡ Some (signallers l.setup i);
}
