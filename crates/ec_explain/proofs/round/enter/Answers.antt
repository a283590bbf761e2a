use Rattle.std.proofs.Common.{◌∙◌, ◌++◌, ◌∷◌, [], subst}
use Rattle.std.specs.Prelude.{IfOk, Result}
use Rattle.ec_core.specs.declared.act.Refusal.{Refusal}
use Rattle.ec_core.specs.declared.act.Reply.{Reply}
use Rattle.ec_core.specs.Standing.{StandsFor}
use Rattle.ec_explain.proofs.round.enter.Goals as goal

pub returns-clause-represents : goal.returns-clause-represents
returns-clause-represents c = λ h stood right.
    subst (λ (r : Result Reply Refusal). IfOk r (λ reply. StandsFor c.step-reply.new.self
    (h ++ record { worker = c.args.entry.now.worker; act = c.args.entry.now.act; reply = reply }
    ∷ [])))
    (c.step-reply.ensures.answer h stood ∙ right) (c.step-reply.ensures.after h stood)
