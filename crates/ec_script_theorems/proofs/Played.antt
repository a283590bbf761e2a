-- The history that turns make is accepted, and each worker's part of it is a run of its program.
use Rattle.std.proofs.Common.{◌≡◌, ℕ, Bool, true, false, ◌==◌, cond, List, [], ◌∷◌, Some, Result, Ok, Err, refl, sym, subst, eqb-true}
use Rattle.ec_count.specs.Tables.{Tables}
use Rattle.ec_core.specs.declared.act.Act.{Act}
use Rattle.ec_core.specs.declared.act.Entry.{Entry}
use Rattle.ec_core.specs.declared.act.Reply.{Reply}
use Rattle.ec_core.specs.declared.act.Refusal.{Refusal}
use Rattle.ec_core.specs.Acceptance.{answer_of, IsAccepted}
use Rattle.ec_machine.specs.declared.command.Command.{Command}
use Rattle.ec_machine.specs.Follows.{program_at}
use Rattle.ec_machine.specs.Runs.{next_act, IsRunOf}
use Rattle.ec_machine.specs.Steps.{IsRun, own}
use Rattle.ec_runner.specs.Schedules.{Turn, with_answer, entries_of, AreTurns}
use Rattle.ec_script_theorems.specs.Headings.{PlayedGroupsAreFollowed}
use Rattle.ec_script_theorems.proofs.AllGroups.{groups_follow}
use Rattle.evc_scripts.proofs.shared.ReadAgain.{accepted_turns as turns_accepted}

-- RUNS

run_if : (mine : Bool) (cs : List Command) (x : Entry) (past : List Entry) → (mine ≡ true → next_act cs past ≡ Some x.act) → IsRunOf cs past → IsRunOf cs (cond mine (x ∷ past) past)
unfolding IsRun
run_if true cs x past due run = (due refl, run)
run_if false cs x past due run = run

run_more : (programs : List (List Command)) (v w : ℕ) (act : Act) (answer : Result Reply Refusal) (past : List Entry) → next_act (program_at programs v) (own v past) ≡ Some act
    → IsRunOf (program_at programs w) (own w past) → IsRunOf (program_at programs w) (own w (with_answer v act answer past))
run_more programs v w act (Err r) past due run = run
run_more programs v w act (Ok reply) past due run =
    run_if (v == w) (program_at programs w) (record { worker = v; act = act; reply = reply }) (own w past)
    (λ is. subst (λ u. next_act (program_at programs u) (own u past) ≡ Some act) (eqb-true v w is) due) run

pub turns_run : (t : Tables) (programs : List (List Command)) (w : ℕ) (turns : List Turn) → AreTurns t programs turns → IsRunOf (program_at programs w) (own w (entries_of turns))
unfolding IsRun
turns_run t programs w [] are = tt
turns_run t programs w (x ∷ turns) are =
    run_more programs x.worker w x.act x.answer (entries_of turns) are.0.due (turns_run t programs w turns are.1)

pub played_follow : PlayedGroupsAreFollowed
played_follow heading programs schedule report is confined played =
    groups_follow heading programs report.run.entries is confined
    (subst (IsAccepted heading.setup) (sym played.entries) (turns_accepted heading.setup programs played.turns played.plays.each))
    (λ w lt. subst (λ past. IsRunOf (program_at programs w) (own w past)) (sym played.entries) (turns_run heading.setup programs w played.turns played.plays.each))
