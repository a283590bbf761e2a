use Rattle.std.proofs.Common.{length}
use Rattle.calls_text.specs.kept.Adding.{Grows}
use Rattle.calls_text.proofs.Adding.{HasGroupsTo}
use Rattle.calls_text.proofs.recording.add_groups.Given as goal

abbrev pub invariant-loop-group : goal.invariant-loop-group
invariant-loop-group l = record {
  grows : Grows l.initial.kinds.items l.kinds.items l.group-index;
  are : HasGroupsTo l.kinds.items (length l.initial.kinds.items) l.groups l.group-index;
}
