use Rattle.std.proofs.Common.{◌≤◌, length}
use Rattle.calls_turns.proofs.Leads.{IsLeading}
use Rattle.calls_turns.proofs.chaining.all_steps.Given as goal

abbrev pub invariant-loop-k : goal.invariant-loop-k
invariant-loop-k l = record {
  within : l.k ≤ length l.fn.begun.needed.items;
  leads : IsLeading l.end l.turns l.takers l.fills l.fn.begun.needed.items
      l.fn.begun.steps.items l.k l.lead;
}

abbrev pub decreases-loop-k : goal.decreases-loop-k
decreases-loop-k l = l.k
