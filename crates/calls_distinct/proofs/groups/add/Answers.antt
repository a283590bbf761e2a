use Rattle.std.proofs.Common.{sym, ap, ◌∙◌, subst}
use Rattle.std.specs.Prelude.{nat_eq}
use Rattle.std.specs.HashMap.{get}
use Rattle.calls_distinct.specs.kept.Groups.{IsGroup}
use Rattle.calls_distinct.proofs.Grouping.{groups_more, group_kept, group_new}
use Rattle.calls_distinct.proofs.groups.add.Goals as goal
use Rattle.calls_distinct.proofs.groups.add.Goals.{in-Some, in-None}

pub returns : goal.returns
returns c = λ seen h.
    let here = ap (get nat_eq c.args.groups.now) (sym c.value-v.ensures) in
    groups_more seen c.args.call.now (get nat_eq c.args.groups.now) (get nat_eq c.insert.new.self)
    c.value-v.result c.match-get.group h c.value-v.ensures
    (elim c.match-get.branch [
      | in-Some w ↦ group_kept seen c.args.call.now _ _ c.match-get.group (h _)
          (here ∙ sym w.in-Some.ensures.value) (w.group-is ∙ w.with_call-group.ensures)
      | in-None w ↦ group_new seen c.args.call.now _ c.match-get.group (h _)
          (here ∙ sym w.in-None.ensures.value) (subst (IsGroup _ _)
          (sym w.group-is) w.group_of_one-group.ensures)
    ])
    c.in_ok-insert.ensures.updates.0
