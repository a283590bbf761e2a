use Rattle.std.proofs.Common.{◌≡◌, ℕ, ◌<◌, ◌≤◌, Some, slice_get, length, count_by, reverse, take}
use Rattle.calls_core.specs.Histories.{pending_calls, completed_calls}
use Rattle.calls_shapes.specs.Tallies.{invokes_counted_call, is_counted, tally_at}
use Rattle.calls_shapes.proofs.tallies.tallies_of.Given as goal

-- the tallies of the moments so far are in the list, and tally is the next one
abbrev pub invariant-loop-i : goal.invariant-loop-i
invariant-loop-i l = record {
  pending : l.pending.items ≡ pending_calls (reverse (take l.i l.events));
  called : l.tally.called ≡ count_by (invokes_counted_call l.counted) (take l.i l.events);
  returned : l.tally.returned ≡ count_by (is_counted l.counted) (completed_calls
      (reverse (take l.i l.events)));
  few : l.tally.called ≤ l.i;
  few_returned : l.tally.returned ≤ l.i;
  count : length l.tallies.items ≡ l.i;
  each : (p : ℕ) → p < l.i
      → slice_get l.tallies.items p ≡ Some (tally_at l.counted l.events p);
}
