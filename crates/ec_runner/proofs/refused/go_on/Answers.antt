use Rattle.std.proofs.Common.{◌≡◌, List, [], ◌∷◌, ◌++◌, Some, Result, Ok, IfOk, slice_get, take, sym, subst, ◌∙◌}
use Rattle.ec_count.specs.Tables.{Tables}
use Rattle.ec_core.specs.declared.act.Entry.{Entry}
use Rattle.ec_core.specs.declared.act.Reply.{Reply}
use Rattle.ec_core.specs.declared.act.Refusal.{Refusal}
use Rattle.ec_core.specs.Acceptance.{answer_of}
use Rattle.ec_core.specs.Counts.{past_at}
use Rattle.ec_core.specs.Standing.{StandsFor}
use Rattle.ec_runner.proofs.Walking.{take_next}
use Rattle.ec_runner.proofs.refused.go_on.Goals as goal

pub returns-clause-represents : goal.returns-clause-represents
returns-clause-represents c = λ represents same.
    (let run = c.args.run.now in
    let h = run.entries in
    let i = c.args.place in
    let x = c.in-Some.entry in
    let there : slice_get h i ≡ Some x = sym c.in-Some.ensures in
    let right : answer_of run.setup (past_at i h) x.worker x.act ≡ Ok x.reply = (c.accepted_means_answered.ensures run.setup h).0 c.invariant.ensures.accepted i x there in
    subst (λ (done : List Entry). StandsFor c.step.new.self done) (sym (take_next h i x there))
    (subst (λ (r : Result Reply Refusal). IfOk r (λ reply. StandsFor c.step.new.self (take i h ++ record { worker = x.worker; act = x.act; reply = reply } ∷ [])))
    (c.step.ensures.answer (take i h) represents ∙ subst (λ (t : Tables). answer_of t (past_at i h) x.worker x.act ≡ Ok x.reply) (sym same) right)
    (c.step.ensures.after (take i h) represents)))
