use Rattle.std.proofs.Common.{rules, reverse}
use Rattle.ec_walk.proofs.WalkLemmas.{handed_nowhere}
use Rattle.ec_walk.proofs.group_audits.walk_groups.Goals as goal

pub returns-then-is_empty-clause-handed : goal.returns-then-is_empty-clause-handed
returns-then-is_empty-clause-handed g c =
    handed_nowhere g.A.Audit.represents c.args.groups.now c.args.audits.items (reverse c.args.run.now.entries) (search rules)
