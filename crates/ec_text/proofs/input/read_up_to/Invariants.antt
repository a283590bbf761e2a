use Rattle.std.proofs.Common.{◌≡◌, ◌≤◌, ◌+◌, ◌-◌, length}
use Rattle.std.specs.Io.KnownBytes.{Consumes}
use Rattle.ec_text.proofs.input.read_up_to.Given as goal

-- the bytes so far are what was consumed
abbrev pub invariant-loop-n : goal.invariant-loop-n
invariant-loop-n g l = record {
  within : length l.text.items ≤ l.most;
  table : length l.table.items ≡ 8192;
  represents : Consumes (g.R.Read.remaining l.initial.reader) (g.R.Read.remaining l.reader) l.text.items;
}

abbrev pub decreases-loop-n : goal.decreases-loop-n
decreases-loop-n g l = l.most + 1 - length l.text.items
