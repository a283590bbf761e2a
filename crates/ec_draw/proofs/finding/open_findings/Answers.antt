use Rattle.std.proofs.Common.{[], refl, arith}
use Rattle.std.proofs.lemmas.Option.{slice_get_read}
use Rattle.ec_heading.specs.declared.group.Group.{Group}
use Rattle.ec_walk.proofs.shared.Each.{each_more, each_all, one_longer}
use Rattle.ec_draw.specs.declared.finding.GroupState.{GroupState}
use Rattle.ec_draw.specs.kept.Findings.{FindsFor}
use Rattle.ec_draw.proofs.finding.open_findings.Goals as goal

pub loop-number-preserved : goal.loop-number-preserved
loop-number-preserved c =
    let was = c.loop-number.invariant in
    let items = c.loop-number.list.items in
    let n = c.loop-number.number in
    let R : Group → GroupState
    → Type 0 = λ g f. FindsFor c.args.asked.now.setup.now c.args.asked.now.semaphores.now
    c.args.asked.now.window g f [] in
    record {
      long = one_longer items c.push.new.self.items c.new.result n c.in_ok-push.ensures.items
          was.long;
      each = each_more R c.args.groups.now items c.push.new.self.items n
          c.index-groups-number.result c.new.result c.in_ok-push.ensures.items was.long
          (slice_get_read c.args.groups.now _ n c.index-groups-number.result refl
          c.loop-number-test.true c.index-groups-number.is) was.each c.new.ensures;
    }

pub returns : goal.returns
returns c =
    let R : Group → GroupState
    → Type 0 = λ g f. FindsFor c.args.asked.now.setup.now c.args.asked.now.semaphores.now
    c.args.asked.now.window g f [] in
    each_all R c.args.groups.now c.loop-number.list.items c.loop-number.number (omega arith)
    c.loop-number.invariant.each
