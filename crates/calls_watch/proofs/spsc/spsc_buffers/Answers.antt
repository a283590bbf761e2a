use Rattle.std.proofs.Common.{◌≡◌, Some, ◌+◌, ap, sym, ◌∙◌, subst, slice_get}
use Rattle.ec_count.specs.Tables.{Tables}
use Rattle.calls_watch.specs.Spsc.{is_spsc_group}
use Rattle.calls_watch.proofs.Listed.{ListsTo, group_read, lists_one, lists_other}
use Rattle.calls_watch.proofs.Listed.{lists_all}
use Rattle.calls_watch.proofs.spsc.spsc_buffers.Goals as goal
use Rattle.calls_watch.proofs.spsc.spsc_buffers.Goals.{then-is_spsc_group+in_ok-push}
use Rattle.calls_watch.proofs.spsc.spsc_buffers.Goals.{else-is_spsc_group}

pub loop-i-preserved : goal.loop-i-preserved
loop-i-preserved c =
    let at : slice_get c.args.heading.now.groups c.loop-i.i ≡ Some c.group-item.result =
    group_read c.args.heading.now c.groups-group-items.result.now c.loop-i.i c.group-item.result
    c.groups-group-items.ensures c.loop-i-test.true c.group-item.is in
    let test : is_spsc_group c.args.heading.now.setup c.group-item.result ≡ c.is_spsc_group.result =
    sym (c.is_spsc_group.ensures
    ∙ ap (λ (t : Tables). is_spsc_group t c.group-item.result) c.setup-in-loop-i.ensures) in
    elim c.if-is_spsc_group.branch [
      | then-is_spsc_group+in_ok-push w ↦
          lists_one c.args.heading.now c.first_group-first.result c.loop-i.i c.group-item.result
          c.loop-i.found.items c.if-is_spsc_group.found.items c.first_group-first.ensures at
          (test ∙ w.if-is_spsc_group.true)
          (ap (λ v. v.items) w.found-is ∙ w.in_ok-push.ensures.items) c.loop-i.invariant
      | else-is_spsc_group w ↦
          subst (λ v. ListsTo c.args.heading.now (c.loop-i.i + 1) v.items) (sym w.found-is)
          (lists_other c.args.heading.now c.loop-i.i c.group-item.result c.loop-i.found.items at
          (test ∙ w.if-is_spsc_group.false) c.loop-i.invariant)
    ]

pub returns : goal.returns
returns c =
    lists_all c.args.heading.now c.groups-group-items.result.now c.loop-i.i c.loop-i.found.items
    c.groups-group-items.ensures c.loop-i.auto.i-end c.loop-i-test.false c.loop-i.invariant
