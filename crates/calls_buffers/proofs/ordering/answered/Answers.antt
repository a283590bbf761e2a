use Rattle.std.proofs.Common.{◌++◌, ◌∷◌, [], ap, sym, ◌∙◌}
use Rattle.calls_core.specs.declared.history.Op.TheVariants.{Read}
use Rattle.calls_buffers.proofs.Deciders.{answered_none, answered_some}
use Rattle.calls_buffers.proofs.ordering.answered.Goals as goal
use Rattle.calls_buffers.proofs.ordering.answered.Goals.{in-Some+in_ok-push, in_default}

pub loop-i-preserved : goal.loop-i-preserved
loop-i-preserved c =
    let l = c.loop-i in
    let answers = c.args.answers.now in
    elim c.match-answer_at.branch [
      | in-Some+in_ok-push w ↦ answered_some c.args.end answers l.i c.args.pending.now _
          w.in-Some.reply _ _ c.loop-i-test.true (sym w.in-Some.ensures)
          l.invariant
          (ap (λ v. v.items) w.list-is ∙ w.in_ok-push.ensures.items
          ∙ ap (λ x. l.list.items ++ x ∷ []) w.complete.ensures)
      | in_default w ↦ answered_none c.args.end answers l.i c.args.pending.now
          (record { worker = 0; object = 0; op = Read; first = 0 }) _ _ c.loop-i-test.true
          (sym w.in_default.ensures)
          l.invariant (ap (λ v. v.items) w.list-is)
    ]
