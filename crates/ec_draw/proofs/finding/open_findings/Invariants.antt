use Rattle.std.proofs.Common.{◌≡◌, [], length}
use Rattle.ec_walk.proofs.shared.Each.{EachFirst}
use Rattle.ec_draw.specs.kept.Findings.{FindsFor}
use Rattle.ec_draw.proofs.finding.open_findings.Given as goal

-- the groups so far
abbrev pub invariant-loop-number : goal.invariant-loop-number
invariant-loop-number l = record {
  long : length l.list.items ≡ l.number;
  each : EachFirst (λ g f. FindsFor l.asked.setup.now l.asked.semaphores.now l.asked.window g f [])
      l.groups l.list.items l.number;
}
