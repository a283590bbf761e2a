use Rattle.std.proofs.Common.{length, refl, arith}
use Rattle.std.proofs.lemmas.Option.{slice_get_read}
use Rattle.calls_text.specs.Recordings.{kind_of_group}
use Rattle.calls_text.proofs.Adding.{grows_push, groups_push, groups_all}
use Rattle.calls_text.proofs.recording.add_groups.Goals as goal

pub loop-group-preserved : goal.loop-group-preserved
loop-group-preserved c =
    let old = c.args.kinds.now.items in
    let now = c.loop-group.kinds.items in
    let k = c.loop-group.group-index in
    let gs = c.args.groups.now in
    let g = c.group-item.result in
    rw (c.in_ok-push.ensures.items, c.kind_of_group.ensures) (record {
      grows = grows_push old now k (kind_of_group g) c.loop-group.invariant.grows;
      are = groups_push now (length old) k gs g c.loop-group.invariant.grows.longer
          (slice_get_read gs (length gs) k g refl (omega arith) c.group-item.is)
          c.loop-group.invariant.are;
    })

pub returns-clause-are : goal.returns-clause-are
returns-clause-are c =
    groups_all c.loop-group.kinds.items (length c.args.kinds.now.items) c.loop-group.group-index
    c.args.groups.now (omega arith) c.loop-group.invariant.are
