use Rattle.std.proofs.Common.{◌≡◌, ℕ, ◌<◌, length}
use Rattle.ec_walk.specs.Walks.{CoversAt, act_on}
use Rattle.ec_walk.proofs.group_table.object_spans.Given as goal

-- the objects so far
abbrev pub invariant-loop-object : goal.invariant-loop-object
invariant-loop-object l = record {
  room : length l.spans ≡ 320;
  covers : (n : ℕ) → n < l.object → CoversAt l.groups (act_on n) l.spans n;
}
