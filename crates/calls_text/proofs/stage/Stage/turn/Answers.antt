use Rattle.std.proofs.Common.{◌≡◌, Ok, sym, subst}
use Rattle.calls_text.specs.Reading.{step}
use Rattle.calls_text.specs.declared.stage.Stage as held
use Rattle.calls_text.specs.kept.Stages.{seen_with, IsFollowing}
use Rattle.calls_text.proofs.stage.Stage.turn.Goals as goal

pub returns-clause-turns : goal.returns-clause-turns
returns-clause-turns c = λ events is.
    let next : held.Stage = c.in_ok-self.field-0 in
    subst (λ (s : held.Stage). (step (seen_with events s) c.args.line.now
    ≡ Ok (seen_with events next)) × IsFollowing events next) c.replace-before.ensures.value
    (c.in_ok-self.ensures.goes events
    (subst (IsFollowing events) (sym c.replace-before.ensures.value) is))
