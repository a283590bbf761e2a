use Rattle.std.proofs.Common.{take}
use Rattle.std.specs.List.{flat_map}
use Rattle.ec_text.specs.Puts.{Puts}
use Rattle.calls_extract.specs.kept.Entries.{entry_text}
use Rattle.calls_extract.proofs.writing.put_events.Given as goal

abbrev pub invariant-loop-place : goal.invariant-loop-place
invariant-loop-place g l =
    Puts l.initial.out l.out (flat_map (entry_text l.spellings) (take l.place l.run.entries))
