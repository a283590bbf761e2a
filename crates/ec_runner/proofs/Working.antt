-- A worker at its program.
use Rattle.std.proofs.Common.{◌≡◌, ◌≢◌, ℕ, ◌+◌, true, false, List, [], ◌∷◌, ◌++◌, length, reverse, Option, refl, ap, sym, ◌∙◌, subst, arith}
use Rattle.ec_core.specs.declared.act.Entry.{Entry}
use Rattle.ec_core.proofs.shared.Stepping.{past_after}
use Rattle.ec_machine.specs.declared.command.Command.{Command}
use Rattle.ec_machine.specs.declared.machine.Machine.{Machine}
use Rattle.ec_machine.specs.declared.outcome.Outcome.{Outcome}
use Rattle.ec_machine.specs.declared.outcome.Outcome.TheVariants as outcomes
use Rattle.ec_machine.specs.Outcomes.{is_external, is_running, outcome_after_refusal}
use Rattle.ec_machine.specs.Runs.{outcome_of}
use Rattle.ec_machine.specs.Standing.{StandsFor, machine_outcome}
use Rattle.ec_runner.specs.declared.summary.LastRequest.{LastRequest}
use Rattle.ec_runner.specs.Works.{IsStop, Works, HasHad, IsAsked, EndsSo, is_out_of_turns}
use Rattle.ec_machine.proofs.Going.{running_is as is_it}

not_running : (o : Outcome) → is_external o ≡ true → is_running o ≡ false
not_running outcomes.Running h = cc
not_running outcomes.Finished h = cc
not_running (outcomes.Refused r) h = refl
not_running outcomes.ValueTooLarge h = cc
not_running outcomes.Stopped h = refl
not_running outcomes.OutOfTurns h = refl
not_running outcomes.Memory h = refl

in_time : (o : Outcome) → is_external o ≡ false → is_out_of_turns o ≡ false
in_time outcomes.Running h = refl
in_time outcomes.Finished h = refl
in_time (outcomes.Refused r) h = cc
in_time outcomes.ValueTooLarge h = refl
in_time outcomes.Stopped h = cc
in_time outcomes.OutOfTurns h = cc
in_time outcomes.Memory h = cc

pub takes : (old o : Outcome) → is_running old ≡ true → is_external o ≡ true
    → outcome_after_refusal old o ≡ o
takes outcomes.Running outcomes.Running r h = cc
takes outcomes.Running outcomes.Finished r h = cc
takes outcomes.Running (outcomes.Refused f) r h = refl
takes outcomes.Running outcomes.ValueTooLarge r h = cc
takes outcomes.Running outcomes.Stopped r h = refl
takes outcomes.Running outcomes.OutOfTurns r h = refl
takes outcomes.Running outcomes.Memory r h = refl
takes outcomes.Finished o r h = cc
takes (outcomes.Refused f) o r h = cc
takes outcomes.ValueTooLarge o r h = cc
takes outcomes.Stopped o r h = cc
takes outcomes.OutOfTurns o r h = cc
takes outcomes.Memory o r h = cc

pub unset : (o : Outcome) → is_running o ≡ true → is_external o ≡ false
unset o h = ap is_external (is_it o h)

-- a program that is running did not run out of memory
pub has_memory : (o : Outcome) → is_running o ≡ true → o ≢ outcomes.Memory
has_memory o r e = (let no : is_running o ≡ false = ap is_running e in cc)

-- a step ends a program that is running
pub stops : (cs : List Command) (m n : Machine) (log : List Entry) (o : Outcome) → IsStop o → Works cs m log → is_running (machine_outcome m) ≡ true
    → machine_outcome n ≡ outcome_after_refusal (machine_outcome m) o → StandsFor cs n (reverse log)
    → Works cs n log
stops cs m n log o stop works running outcome represents =
    let is : machine_outcome n ≡ o = outcome ∙ takes (machine_outcome m) o running stop.set in
    record {
      represents = represents;
      stopped = λ s. sym (works.represents.outcome (unset (machine_outcome m) running)) ∙ is_it (machine_outcome m) running;
      turns_left = ap is_out_of_turns is ∙ stop.turns_left;
    }

pub had_last : (m n : Machine) (log : List Entry) (o : Outcome) → IsStop o → is_running (machine_outcome m) ≡ true
    → machine_outcome n ≡ outcome_after_refusal (machine_outcome m) o
    → HasHad (length log + 1) n log
had_last m n log o stop running outcome =
    let is : machine_outcome n ≡ o = outcome ∙ takes (machine_outcome m) o running stop.set in
    let ended : is_running (machine_outcome n) ≡ false = ap is_running is
    ∙ not_running o stop.set in
    record { few = omega arith; each = λ r. cc }

-- one more step
pub goes_on : (cs : List Command) (n : Machine) (log more : List Entry) (x : Entry) → StandsFor cs n (x ∷ reverse log) → is_external (machine_outcome n) ≡ false
    → more ≡ log ++ x ∷ [] → Works cs n more
goes_on cs n log more x represents free is =
    subst (λ (es : List Entry). Works cs n es) (sym is) (record {
      represents =
          subst (λ (past : List Entry). StandsFor cs n past) (sym (past_after log x)) represents;
      stopped = λ s. cc;
      turns_left = in_time (machine_outcome n) free;
    })

ends : (o : Outcome) (cs : List Command) (turns : ℕ) (log : List Entry) → (is_external o ≡ true → outcome_of cs (reverse log) ≡ outcomes.Running)
    → (is_external o ≡ false → o ≡ outcome_of cs (reverse log)) → is_out_of_turns o ≡ false → (is_running o ≡ true → length log ≡ turns)
    → EndsSo (outcome_after_refusal o outcomes.OutOfTurns) cs turns log
ends outcomes.Running cs turns log stopped after left each = (sym (after refl), each refl)
ends outcomes.Finished cs turns log stopped after left each = sym (after refl)
ends (outcomes.Refused r) cs turns log stopped after left each = stopped refl
ends outcomes.ValueTooLarge cs turns log stopped after left each = sym (after refl)
ends outcomes.Stopped cs turns log stopped after left each = stopped refl
ends outcomes.OutOfTurns cs turns log stopped after left each = cc
ends outcomes.Memory cs turns log stopped after left each = stopped refl

pub ends_so : (cs : List Command) (m : Machine) (turns : ℕ) (log : List Entry) (o : Outcome) → Works cs m log → HasHad turns m log
    → o ≡ outcome_after_refusal (machine_outcome m) outcomes.OutOfTurns → EndsSo o cs turns log
ends_so cs m turns log o works had is =
    subst (λ (v : Outcome). EndsSo v cs turns log) (sym is)
    (ends (machine_outcome m) cs turns log works.stopped works.represents.outcome works.turns_left had.each)

-- what was asked for is still right if the program is out of turns
pub asked_still : (o : Outcome) (cs : List Command) (log : List Entry) (asked : Option LastRequest) → IsAsked o cs log asked → IsAsked (outcome_after_refusal o outcomes.OutOfTurns) cs log asked
asked_still outcomes.Running cs log asked h = tt
asked_still outcomes.Finished cs log asked h = tt
asked_still (outcomes.Refused r) cs log asked h = h
asked_still outcomes.ValueTooLarge cs log asked h = tt
asked_still outcomes.Stopped cs log asked h = tt
asked_still outcomes.OutOfTurns cs log asked h = tt
asked_still outcomes.Memory cs log asked h = tt
