use Rattle.std.proofs.Common.{◌∙◌, ◌<◌, ap, sym, subst, List, slice_set}
use Rattle.std.proofs.lemmas.Bool.{leb-false}
use Rattle.ec_core.specs.declared.act.Entry.{Entry}
use Rattle.ec_core.specs.RunModel.{RunModel}
use Rattle.ec_core.specs.Acceptance.{names_unknown_object}
use Rattle.ec_core.proofs.shared.Answering.{allowed}
use Rattle.ec_runner.specs.declared.worker_state.WorkerState.{WorkerState}
use Rattle.ec_runner.specs.declared.worker_state.WorkerState.TheVariants.{Running}
use Rattle.ec_runner.specs.WorkerStates.{states_after_act}
use Rattle.ec_runner.specs.BoardModel.{BoardModel, AreWaiters, past_of}
use Rattle.ec_runner.proofs.Boarding.{stepped}
use Rattle.ec_runner.proofs.board.Board.step.Goals as goal

pub note-requires : goal.note-requires
note-requires c =
    let run = c.self.inside.run in
    ap (λ (r : RunModel). names_unknown_object r.setup c.args.act) c.in-Ok.ensures.ok
    ∙ (allowed run.setup (past_of run) c.args.worker c.args.act c.in-Ok.reply c.in-Ok.ensures.answer).0.known

pub invariant_of-self-2 : goal.invariant_of-self-2
invariant_of-self-2 c =
    let i = c.self.inside in
    let b : BoardModel = record { run = i.run; states = i.states; deadlocked = i.deadlocked } in
    let x : Entry = record { worker = c.args.worker; act = c.args.act; reply = c.in-Ok.reply } in
    let may = (allowed i.run.setup (past_of i.run) c.args.worker c.args.act c.in-Ok.reply c.in-Ok.ensures.answer).0 in
    let known : c.args.worker < i.run.setup.workers = leb-false i.run.setup.workers c.args.worker may.declared in
    let P : RunModel → List WorkerState → Type 0 = λ r xs. AreWaiters (record { run = r; states = xs; deadlocked = i.deadlocked }) in
    subst (λ (xs : List WorkerState). P c.step.new.self xs) (sym c.note.ensures.states)
    (subst (λ (r : RunModel). P r (states_after_act c.args.act (past_of r) (slice_set i.states c.args.worker Running))) (sym c.in-Ok.ensures.ok)
    (stepped b x c.self.invariant c.if-self.false c.note.ensures.within known))
