-- One more turn, and one more place of a schedule.
use Rattle.std.proofs.Common.{◌≡◌, ℕ, Bool, true, false, ◌==◌, List, [], ◌∷◌, ◌++◌, reverse, Option, Some, None, Result, Ok, Err, IsOk, cond, refl, sym, ◌∙◌, ap, subst, eq-eqb, ◌≢◌, ◌<◌, ◌+◌, take, map, get_or, length, eqb-true, ne_eqb}
use Rattle.std.proofs.lemmas.List.{reverse-append, take_more}
use Rattle.ec_count.specs.Tables.{Tables}
use Rattle.ec_core.specs.declared.act.Act.{Act}
use Rattle.ec_core.specs.declared.act.Entry.{Entry}
use Rattle.ec_core.specs.declared.act.Reply.{Reply}
use Rattle.ec_core.specs.declared.act.Refusal.{Refusal}
use Rattle.ec_core.specs.Acceptance.{answer_of}
use Rattle.ec_core.specs.RunModel.{RunModel}
use Rattle.ec_machine.specs.declared.command.Command.{Command}
use Rattle.ec_machine.specs.declared.machine.Machine.{Machine}
use Rattle.ec_machine.specs.declared.outcome.Outcome.{Outcome}
use Rattle.ec_machine.specs.declared.outcome.Outcome.TheVariants as outcomes
use Rattle.ec_machine.specs.Follows.{program_at}
use Rattle.ec_machine.specs.Outcomes.{is_running, is_external, outcome_after_refusal}
use Rattle.ec_machine.specs.Runs.{next_act, outcome_of}
use Rattle.ec_machine.specs.Standing.{StandsFor, machine_outcome, is_refused}
use Rattle.ec_machine.specs.Steps.{own}
use Rattle.ec_runner.specs.kept.Machines.{IsMachineOf, IsMadeByTurns, HasTurn, MayTakeTurn, AreMachines, Takes, HasPlayed, IsPlayed, PlaysOne}
use Rattle.ec_runner.specs.Schedules.{Turn, entries_of, refusal_in_turns, ended_by, outcome_after, with_answer, refusal_or}
use Rattle.ec_machine.proofs.Going.{running_is}
use Rattle.std.specs.Prelude.{slice_get, slice_set}
use Rattle.std.proofs.lemmas.Bool.{eqb-false}
use Rattle.ec_core.proofs.shared.Places.{get_set}
use Rattle.ec_runner.specs.declared.playing.TurnOutcome.{TurnOutcome}
use Rattle.ec_runner.specs.declared.playing.TurnOutcome.TheVariants as played

pub not_set : (o : Outcome) → is_running o ≡ true → is_external o ≡ false
not_set o is = ap is_external (running_is o is)

pub none_told : (o : Option Refusal) (outcome : Outcome) → ended_by o outcome ≡ outcomes.Running → o ≡ None
none_told None outcome is = refl
none_told (Some r) outcome is = cc

either : (b : Bool) (o : Option Refusal) → cond b o o ≡ o
either true o = refl
either false o = refl

pub own_mine : (w : ℕ) (x : Entry) (past : List Entry) → x.worker ≡ w → own w (x ∷ past) ≡ x ∷ own w past
own_mine w x past is = ap (λ b. cond b (x ∷ own w past) (own w past)) (eq-eqb _ _ is)

answer_then : (t : Tables) (turns : List Turn) (w : ℕ) (r : RunModel) (act : Act) → IsMadeByTurns t turns r
    → answer_of t (entries_of turns) w act ≡ answer_of r.setup (reverse r.entries) w act
answer_then t turns w r act of =
    ap (λ s. answer_of s (entries_of turns) w act) (sym of.setup) ∙ ap (λ past. answer_of r.setup past w act) (sym of.entries)

-- a turn that made an entry
pub turn_made : (t : Tables) (programs : List (List Command)) (turns : List Turn) (w : ℕ) (old new : RunModel) (m n : Machine) (act : Act) (reply : Reply)
    → IsMadeByTurns t turns old → IsMachineOf programs turns w m
    → is_running (machine_outcome m) ≡ true
    → next_act (program_at programs w) (own w (entries_of turns)) ≡ Some act
    → answer_of old.setup (reverse old.entries) w act ≡ Ok reply
    → new ≡ record old { entries = old.entries ++ record { worker = w; act = act; reply = reply } ∷ [] }
    → StandsFor (program_at programs w) n (record { worker = w; act = act; reply = reply } ∷ own w (entries_of turns)) → is_refused n ≡ false
    → HasTurn t programs turns w new n
turn_made t programs turns w old new m n act reply of machine running due answer made represents unset =
    let x : Entry = record { worker = w; act = act; reply = reply } in
    let on : outcome_after programs w turns ≡ outcomes.Running = sym machine.outcome ∙ running_is (machine_outcome m) running in
    let returned : refusal_in_turns w turns ≡ None = none_told (refusal_in_turns w turns) (outcome_of (program_at programs w) (own w (entries_of turns))) on in
    let mine : own w (x ∷ entries_of turns) ≡ x ∷ own w (entries_of turns) = own_mine w x (entries_of turns) refl in
    let stand : StandsFor (program_at programs w) n (own w (x ∷ entries_of turns)) = subst (StandsFor (program_at programs w) n) (sym mine) represents in
    record {
      turn = record { worker = w; act = act; answer = Ok reply };
      worker = refl;
      right = record { running = on; due = due; answer = answer_then t turns w old act of ∙ answer };
      made = record {
        setup = ap (λ (r : RunModel). r.setup) made ∙ of.setup;
        entries = ap (λ (r : RunModel). reverse r.entries) made ∙ reverse-append old.entries (x ∷ []) ∙ ap (λ past. x ∷ past) of.entries;
      };
      machine = record {
        represents = stand;
        outcome = stand.outcome unset
            ∙ ap (λ o. ended_by o (outcome_of (program_at programs w) (own w (x ∷ entries_of turns)))) (sym (either (w == w) (refusal_in_turns w turns) ∙ returned));
      };
    }

told_now : (w : ℕ) (r : Refusal) (o : Option Refusal) → cond (w == w) (Some r) o ≡ Some r
told_now w r o = ap (λ b. cond b (Some r) o) (eq-eqb w w refl)

-- a turn that was refused
pub turn_refused : (t : Tables) (programs : List (List Command)) (turns : List Turn) (w : ℕ) (old new : RunModel) (m n : Machine) (act : Act) (r : Refusal)
    → IsMadeByTurns t turns old → IsMachineOf programs turns w m
    → is_running (machine_outcome m) ≡ true
    → next_act (program_at programs w) (own w (entries_of turns)) ≡ Some act
    → answer_of old.setup (reverse old.entries) w act ≡ Err r → new ≡ old
    → StandsFor (program_at programs w) n (own w (entries_of turns)) → machine_outcome n ≡ outcome_after_refusal (machine_outcome m) (outcomes.Refused r)
    → HasTurn t programs turns w new n
turn_refused t programs turns w old new m n act r of machine running due answer same represents ends =
    let is : machine_outcome m ≡ outcomes.Running = running_is (machine_outcome m) running in
    record {
      turn = record { worker = w; act = act; answer = Err r };
      worker = refl;
      right = record { running = sym machine.outcome ∙ is; due = due; answer = answer_then t turns w old act of ∙ answer };
      made = record { setup = ap (λ (r : RunModel). r.setup) same ∙ of.setup; entries = ap (λ (r : RunModel). reverse r.entries) same ∙ of.entries };
      machine = record {
        represents = represents;
        outcome = ends ∙ ap (λ o. outcome_after_refusal o (outcomes.Refused r)) is
            ∙ ap (λ o. ended_by o (outcome_of (program_at programs w) (own w (entries_of turns)))) (sym (told_now w r (refusal_in_turns w turns)));
      };
    }

-- a turn for whose step there was no memory
pub turn_short : (t : Tables) (programs : List (List Command)) (turns : List Turn) (w : ℕ) (old : RunModel) (m : Machine) (act : Act)
    → IsMadeByTurns t turns old → IsMachineOf programs turns w m
    → is_running (machine_outcome m) ≡ true
    → next_act (program_at programs w) (own w (entries_of turns)) ≡ Some act
    → IsOk (answer_of old.setup (reverse old.entries) w act) → MayTakeTurn t programs turns w
turn_short t programs turns w old m act of machine running due ok = record {
  act = act;
  running = sym machine.outcome ∙ running_is (machine_outcome m) running;
  due = due;
  answered = subst (λ (r : Result Reply Refusal). IsOk r) (sym (answer_then t turns w old act of)) ok;
}

-- PLACES OF A SCHEDULE

own_other : (i w : ℕ) (act : Act) (answer : Result Reply Refusal) (past : List Entry) → w ≢ i → own i (with_answer w act answer past) ≡ own i past
own_other i w act (Ok reply) past other =
    ap (λ b. cond b (record { worker = w; act = act; reply = reply } ∷ own i past) (own i past)) (ne_eqb w i other)
own_other i w act (Err r) past other = refl

-- a turn leaves the interpreters of the other workers as they were
pub others_stay : (programs : List (List Command)) (turns : List Turn) (x : Turn) (i : ℕ) (m : Machine) → x.worker ≢ i → IsMachineOf programs turns i m
    → IsMachineOf programs (x ∷ turns) i m
others_stay programs turns x i m other machine =
    let same : own i (entries_of (x ∷ turns)) ≡ own i (entries_of turns) = own_other i x.worker x.act x.answer (entries_of turns) other in
    let returned : refusal_in_turns i (x ∷ turns) ≡ refusal_in_turns i turns = ap (λ b. cond b (refusal_or x.answer (refusal_in_turns i turns)) (refusal_in_turns i turns)) (ne_eqb x.worker i other) in
    record {
      represents = subst (StandsFor (program_at programs i) m) (sym same) machine.represents;
      outcome = machine.outcome
          ∙ sym (ap (λ o. ended_by o (outcome_of (program_at programs i) (own i (entries_of (x ∷ turns))))) returned
          ∙ ap (λ past. ended_by (refusal_in_turns i turns) (outcome_of (program_at programs i) past)) same);
    }

some_is : (m k : Machine) → Some m ≡ Some k → m ≡ k
some_is m k is = cc

machines_after : (programs : List (List Command)) (turns : List Turn) (x : Turn) (machines : List Machine) (w : ℕ) (n : Machine) → w < length machines → x.worker ≡ w
    → AreMachines programs turns machines → IsMachineOf programs (x ∷ turns) w n → AreMachines programs (x ∷ turns) (slice_set machines w n)
machines_after programs turns x machines w n within worker each machine = λ i k at.
    elim (w == i) as (λ b. (w == i) ≡ b → cond b (Some n) (slice_get machines i) ≡ Some k → IsMachineOf programs (x ∷ turns) i k) [
      | true ↦ λ e found. subst (λ j. IsMachineOf programs (x ∷ turns) j k) (eqb-true w i e) (subst (IsMachineOf programs (x ∷ turns) w) (some_is n k found) machine)
      | false ↦ λ e found. others_stay programs turns x i k (λ is. eqb-false w i e (sym worker ∙ is)) (each i k found)
    ] refl (sym (get_set machines w i n within) ∙ at)

pub place_played : (t : Tables) (programs : List (List Command)) (turns : List Turn) (machines : List Machine) (w : ℕ) (new : RunModel) (n : Machine) (p : TurnOutcome)
    → w < length machines → AreMachines programs turns machines → Takes p t programs turns w new n → PlaysOne p t programs turns w new (slice_set machines w n)
place_played t programs turns machines w new n played.Made within each has = record {
  turn = has.turn;
  worker = has.worker;
  right = has.right;
  made = has.made;
  each = machines_after programs turns has.turn machines w n within has.worker each has.machine;
}
place_played t programs turns machines w new n played.Ended within each ended = ended
place_played t programs turns machines w new n played.Memory within each due = due

-- one place more of a schedule has been played
pub place_more : (t : Tables) (programs : List (List Command)) (schedule : List ℕ) (k w : ℕ) (run new : RunModel) (machines others : List Machine)
    → k < length schedule → w ≡ get_or schedule k w
    → (turns : List Turn) × IsPlayed t programs (take k schedule) turns run machines
    → ((turns : List Turn) → IsPlayed t programs (take k schedule) turns run machines → HasPlayed t programs turns w new others)
    → (turns : List Turn) × IsPlayed t programs (take (k + 1) schedule) turns new others
place_more t programs schedule k w run new machines others within at so_far more =
    let turns = so_far.0 in
    let before = so_far.1 in
    let one = more turns before in
    let named : reverse (take (k + 1) schedule) ≡ w ∷ reverse (take k schedule) =
    ap reverse (take_more schedule k w within) ∙ reverse-append (take k schedule) (get_or schedule k w ∷ []) ∙ ap (λ v. v ∷ reverse (take k schedule)) (sym at) in (
      one.turn ∷ turns,
      record {
        plays = record {
          workers = ap (λ v. v ∷ map (λ (x : Turn). x.worker) turns) one.worker ∙ ap (λ ws. w ∷ ws) before.plays.workers ∙ sym named;
          each = (one.right, before.plays.each);
        };
        made = one.made;
        each = one.each;
      },
    )
