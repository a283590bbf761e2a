use Rattle.std.proofs.Common.{reverse}
use Rattle.ec_draw.proofs.WalkLemmas.{walk_begins, walk_ends}
use Rattle.ec_draw.proofs.finding.find_all.Goals as goal

pub walk_groups-requires : goal.walk_groups-requires
walk_groups-requires c =
    let asked = c.args.asked.now in
    walk_begins asked.setup.now asked.semaphores.now asked.window c.args.groups.now
    c.in_ok-list.list.items c.in_ok-list.ensures

pub returns : goal.returns
returns c =
    let asked = c.args.asked.now in
    walk_ends asked.setup.now asked.semaphores.now asked.window c.args.groups.now
    c.in_ok-list.list.items c.walk_groups.result.items (reverse c.args.run.now.entries)
    c.in_ok-list.ensures c.walk_groups.ensures.walked
