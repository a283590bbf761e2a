use Rattle.std.proofs.Common.{arith, ap, sym, ◌∙◌, ◌++◌, Some, append-nil}
use Rattle.std.specs.Option.{option_to_list}
use Rattle.ec_order.specs.Calls.{finished_calls}
use Rattle.ec_order.proofs.Scanning.{scanned, none_past}
use Rattle.ec_order.proofs.scan.calls.Goals as goal
use Rattle.ec_order.proofs.scan.calls.Goals.{in-Some+in-Some-add_entry+in_ok-push, in-Some+in_default-add_entry, in_default}

pub loop-i-init : goal.loop-i-init
unfolding finished_calls
loop-i-init c = record { finished = c.in_ok-calls.ensures.items; kept = c.new-under_way.ensures c.args.run.now.setup }

pub loop-i-preserved : goal.loop-i-preserved
loop-i-preserved c =
    elim c.match-entry.branch [
      | in-Some+in-Some-add_entry+in_ok-push w ↦
          rw (w.calls-is, w.under_way-is) (scanned _ _ _ _ w.in-Some.entry (Some w.in-Some-add_entry.call) _ _ _ _ c.invariant.ensures.accepted w.in-Some.ensures c.loop-i.invariant w.setup.ensures
          w.in-Some-add_entry.ensures w.in_ok-push.ensures.items)
      | in-Some+in_default-add_entry w ↦
          rw (w.calls-is, w.under_way-is) (scanned _ _ _ _ w.in-Some.entry w.add_entry.result _ _ _ _ c.invariant.ensures.accepted w.in-Some.ensures c.loop-i.invariant w.setup.ensures
          w.add_entry.ensures (sym (append-nil _) ∙ ap (λ z. c.loop-i.calls.items ++ option_to_list z) (sym w.in_default-add_entry.is)))
      | in_default w ↦ absurd (none_past c.args.run.now.entries c.loop-i.i (sym w.in_default.is ∙ c.entry.ensures) (omega arith))
    ]
