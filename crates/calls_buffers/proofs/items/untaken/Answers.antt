use Rattle.std.proofs.Common.{nat_eq, not, sym, ◌∙◌, ap}
use Rattle.std.specs.HashSet as hash
use Rattle.calls_buffers.proofs.Untaking.{untaken_late, untaken_other, untaken_item}
use Rattle.calls_buffers.proofs.items.untaken.Goals as goal
use Rattle.calls_buffers.proofs.items.untaken.Goals.{then-call-at+in-Some+in_ok-insert}
use Rattle.calls_buffers.proofs.items.untaken.Goals.{then-call-at+in_default, else-call-at}

pub loop-call-preserved : goal.loop-call-preserved
loop-call-preserved c = λ v.
    elim c.if-call-at.branch [
      | then-call-at+in-Some+in_ok-insert w ↦ ap (λ s. not (hash.contains nat_eq s v)) w.taken-is
          ∙ untaken_item c.args.at v w.in-Some.item c.args.done.now c.loop-call.call-index _
          c.loop-call-test.true w.if-call-at.true (sym w.in-Some.ensures) _ _
          (w.in_ok-insert.ensures.updates.0 v) (c.loop-call.invariant v)
      | then-call-at+in_default w ↦ ap (λ s. not (hash.contains nat_eq s v)) w.taken-is
          ∙ c.loop-call.invariant v
          ∙ sym (untaken_other c.args.at v c.args.done.now c.loop-call.call-index _
          c.loop-call-test.true (sym w.in_default.ensures))
      | else-call-at w ↦ ap (λ s. not (hash.contains nat_eq s v)) w.taken-is
          ∙ c.loop-call.invariant v
          ∙ sym (untaken_late c.args.at v c.args.done.now c.loop-call.call-index _
          c.loop-call-test.true w.if-call-at.false)
    ]
