use Rattle.std.proofs.Common.{ap, sym, ◌∙◌, reverse, ◌++◌, ◌∷◌, [], List}
use Rattle.calls_core.specs.declared.history.PendingCall.{PendingCall}
use Rattle.calls_serial.specs.kept.Stages.{helds, pending_puts}
use Rattle.calls_serial.specs.kept.Passing.{first_of}
use Rattle.calls_serial.proofs.Ending.{other_in, put_in, both_pending}
use Rattle.calls_serial.proofs.pass.invoke.Goals as goal

pub returns-in_default : goal.returns-in_default
returns-in_default c t done pending early waiting le lt pend hold = (
  c.in_ok-push.ensures.items ∙ ap (λ (os : List PendingCall). os ++ c.args.call ∷ []) pend,
  other_in c.args.end t done pending c.args.call (helds c.args.pass.now.stages.items)
      (reverse c.args.pass.now.links.items) early le c.in_default.ensures hold,
)

pub returns-in-Some-other : goal.returns-in-Some-other
returns-in-Some-other c t done pending early waiting le lt pend hold =
    both_pending t pending c.in-Some-other.put c.args.call c.in-Some.value waiting le
    c.in-Some.ensures
    (ap (λ (os : List PendingCall). first_of (pending_puts os))
    (sym (c.deref.ensures.value ∙ pend)) ∙ sym c.pending_put-other.ensures ∙ c.in-Some-other.is)

pub returns : goal.returns
returns c t done pending early waiting le lt pend hold = (
  c.in_ok-push.ensures.items ∙ ap (λ (os : List PendingCall). os ++ c.args.call ∷ []) pend,
  put_in c.args.end t done pending c.args.call c.in-Some.value
      (helds c.args.pass.now.stages.items) _ (reverse c.args.pass.now.links.items) early le lt
      c.in-Some.ensures
      (ap (λ (os : List PendingCall). first_of (pending_puts os))
      (sym (c.deref.ensures.value ∙ pend)) ∙ sym c.pending_put-other.ensures
      ∙ c.in_default-other.is) c.in_ok-open_stage.ensures hold,
)
