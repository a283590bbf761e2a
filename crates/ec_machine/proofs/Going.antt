-- An interpreter goes on as its program does.
use Rattle.std.proofs.Common.{◌≡◌, ℕ, List, [], ◌∷◌, ◌++◌, Option, Some, None, IsSome, is_some, Bool, true, false, refl, sym, ◌∙◌, ap, subst, append_assoc, if◌then◌else◌}
use Rattle.ec_core.specs.declared.act.Act.{Act}
use Rattle.ec_core.specs.declared.act.Act.TheVariants as acts
use Rattle.ec_core.specs.declared.act.Entry.{Entry}
use Rattle.ec_core.specs.declared.act.Reply.{Reply}
use Rattle.ec_core.specs.declared.act.Reply.TheVariants.{Done, Number, Pending}
use Rattle.ec_core.specs.Calls.{is_pending}
use Rattle.ec_core.specs.Following.{CompletedCall}
use Rattle.ec_core.specs.Procedures.{next_of}
use Rattle.ec_machine.specs.declared.command.Command.{Command}
use Rattle.ec_machine.specs.declared.machine.Machine.{Machine}
use Rattle.ec_machine.specs.declared.outcome.Outcome.{Outcome}
use Rattle.ec_machine.specs.declared.outcome.Outcome.TheVariants as outcomes
use Rattle.ec_machine.specs.Outcomes.{is_running, is_external}
use Rattle.ec_machine.specs.Steps.{begun_by, opening, completed_calls, due_after, IsRun}
use Rattle.ec_machine.specs.Runs.{ProgramState, start, command_call, next_call, next_in, next_state, after_call, state_after, number_after, last_number, program_call, IsRunOf, next_act, outcome_in, outcome_at}
use Rattle.ec_machine.specs.Tasks.{task_rest, task_going}
use Rattle.ec_machine.specs.Standing.{IsAt, due_act, StandsFor}
use Rattle.ec_machine.specs.Values.{has_large}

pub not_set : (o : Outcome) → is_running o ≡ true → is_external o ≡ false
not_set outcomes.Running is = refl
not_set outcomes.Finished is = refl
not_set outcomes.ValueTooLarge is = refl
not_set (outcomes.Refused r) is = cc
not_set outcomes.Stopped is = cc
not_set outcomes.OutOfTurns is = cc
not_set outcomes.Memory is = cc

pub running_is : (o : Outcome) → is_running o ≡ true → o ≡ outcomes.Running
running_is outcomes.Running is = refl
running_is outcomes.Finished is = cc
running_is outcomes.ValueTooLarge is = cc
running_is (outcomes.Refused r) is = cc
running_is outcomes.Stopped is = cc
running_is outcomes.OutOfTurns is = cc
running_is outcomes.Memory is = cc

-- STATES

pub place_more : (p : ProgramState) (calls : List CompletedCall) (c : CompletedCall) → state_after p (calls ++ c ∷ []) ≡ after_call (state_after p calls) c
unfolding state_after
place_more p [] c = refl
place_more p (d ∷ calls) c = place_more (after_call p d) calls c

pub last_more : (last : ℕ) (completed : List CompletedCall) (c : CompletedCall) → last_number last (completed ++ c ∷ []) ≡ number_after (last_number last completed) c.reply
last_more last [] c = refl
last_more last (d ∷ completed) c = last_more (number_after last d.reply) completed c

last_if : (b : Bool) (c : Command) (cs : List Command) (last : ℕ) (completed : List CompletedCall)
    → let p : ProgramState = (if b then record { left = c ∷ cs; last = last; completed = completed } else record { left = cs; last = last_number last completed; completed = [] }) in
    last_number p.last p.completed ≡ last_number last completed
last_if true c cs last completed = refl
last_if false c cs last completed = refl

last_moved : (left : List Command) (last : ℕ) (completed : List CompletedCall) → last_number (next_state left last completed).last (next_state left last completed).completed ≡ last_number last completed
last_moved [] last completed = refl
last_moved (c ∷ cs) last completed =
    last_if (is_some (command_call last c completed)) c cs last completed

-- the last number returned in a state is that of all calls before it
pub last_at : (p : ProgramState) (calls : List CompletedCall) → last_number (state_after p calls).last (state_after p calls).completed ≡ last_number (last_number p.last p.completed) calls
unfolding state_after
last_at p [] = refl
last_at p (c ∷ calls) =
    last_at (after_call p c) calls
    ∙ ap (λ n. last_number n calls) (last_moved p.left p.last (p.completed ++ c ∷ []) ∙ last_more p.last p.completed c)

pub last_from_start : (cs : List Command) (calls : List CompletedCall) → last_number (state_after (start cs) calls).last (state_after (start cs) calls).completed ≡ last_number 0 calls
last_from_start cs calls = last_at (start cs) calls

pub at_first : (f : List CompletedCall → Option Act) (all left : List Command) (last : ℕ) (c : Command) → all ≡ c ∷ left → has_large last c ≡ false
    → ((calls : List CompletedCall) → f calls ≡ command_call last c calls) → IsAt f left (record { left = all; last = last; completed = [] })
at_first f all left last c is fits calls = record {
  due = ap (λ cs. next_in cs last []) is ∙ ap (λ b. if b then None else command_call last c []) fits ∙ sym (calls []);
  at = λ some. (c, record { commands = is; fits = fits; rest = calls });
}

pub at_end : (f : List CompletedCall → Option Act) (left : List Command) (p : ProgramState) → next_call p ≡ None → f [] ≡ None → IsAt f left p
at_end f left p none is = record { due = none ∙ sym is; at = λ some. let no : false ≡ true = subst (λ o. is_some o ≡ true) is some in cc }

-- the command goes on
pub goes_on : (f g : List CompletedCall → Option Act) (left : List Command) (p : ProgramState) (c : CompletedCall) → IsAt f left p → IsSome (f [])
    → ((calls : List CompletedCall) → g calls ≡ f (c ∷ calls)) → is_some (g []) ≡ true → IsAt g left (after_call p c)
goes_on f g left p c at some law more =
    let d = (at.at some).0 in
    let i = (at.at some).1 in
    let completed = p.completed ++ c ∷ [] in
    let here : ProgramState = record { left = d ∷ left; last = p.last; completed = completed } in
    let next : g [] ≡ command_call p.last d completed = law [] ∙ i.rest (c ∷ []) in
    let e : after_call p c ≡ here =
    ap (λ cs. next_state cs p.last completed) i.commands
    ∙ ap (λ b. if b then here else record { left = left; last = last_number p.last completed; completed = [] }) (ap is_some (sym next) ∙ more) in
    subst (IsAt g left) (sym e) (record {
      due = ap (λ b. if b then None else command_call p.last d completed) i.fits ∙ sym next;
      at = λ any. (
        d,
        record {
          commands = refl;
          fits = i.fits;
          rest = λ calls. law calls ∙ i.rest (c ∷ calls) ∙ ap (command_call p.last d) (sym (append_assoc p.completed (c ∷ []) calls));
        },
      );
    })

-- the command is done
pub is_done : (f g : List CompletedCall → Option Act) (left : List Command) (p : ProgramState) (c : CompletedCall) → IsAt f left p → IsSome (f [])
    → ((calls : List CompletedCall) → g calls ≡ f (c ∷ calls)) → is_some (g []) ≡ false
    → after_call p c ≡ record { left = left; last = number_after (last_number p.last p.completed) c.reply; completed = [] }
is_done f g left p c at some law none =
    let d = (at.at some).0 in
    let i = (at.at some).1 in
    let completed = p.completed ++ c ∷ [] in
    ap (λ cs. next_state cs p.last completed) i.commands
    ∙ ap (λ b. if b then record { left = d ∷ left; last = p.last; completed = completed } else record { left = left; last = last_number p.last completed; completed = [] })
    (ap is_some (sym (law [] ∙ i.rest (c ∷ []))) ∙ none)
    ∙ ap (λ n. record { left = left; last = n; completed = [] }) (last_more p.last p.completed c)

-- the outcome if a call is due
pub outcome_due : (f : List CompletedCall → Option Act) (left : List Command) (p : ProgramState) → IsAt f left p → IsSome (f []) → outcome_at p ≡ outcomes.Running
outcome_due f left p at some =
    let i = (at.at some).1 in
    ap (λ cs. outcome_in cs p.last) i.commands ∙ ap (λ b. if b then outcomes.ValueTooLarge else outcomes.Running) i.fits

-- STEPS

abbrev act_in : Option Act → Act
act_in None = acts.Go
act_in (Some act) = act

pub begun_alone : (act : Act) → begun_by act None ≡ act
begun_alone (acts.Advance e) = refl
begun_alone (acts.Read e) = refl
begun_alone (acts.Await e v) = refl
begun_alone acts.Go = refl
begun_alone (acts.Ticket q) = refl
begun_alone (acts.Put x v) = refl
begun_alone (acts.Get x) = refl
begun_alone (acts.Hand e b) = refl

-- an act that is due is part of the call that is next
begun_due : (due o : Option Act) (act : Act) → next_of (is_some o) due ≡ Some act → ((op : Act) → o ≡ Some op → due ≡ Some op) → due ≡ Some (begun_by act o)
begun_due due None act is under = is ∙ ap (λ a. Some a) (sym (begun_alone act))
begun_due due (Some op) act is under = under op refl ∙ ap (λ a. Some (begun_by a (Some op))) (ap act_in is)

under_if : (b : Bool) (list : List CompletedCall → Option Act) (done more : List CompletedCall) (begun op : Act) → list done ≡ Some begun
    → (if b then Some begun else None) ≡ Some op → list (if b then done else more) ≡ Some op
under_if true list done more begun op due is = due ∙ is
under_if false list done more begun op due is = cc

-- in a run the pending call is the one that is next
pub opening_is_due : (list : List CompletedCall → Option Act) (past : List Entry) → IsRun list past → (op : Act) → opening past ≡ Some op → list (completed_calls past) ≡ Some op
unfolding IsRun opening completed_calls
opening_is_due list [] run op is = cc
opening_is_due list (x ∷ past) run op is =
    under_if (is_pending x.reply) list (completed_calls past) (completed_calls past ++ record { op = begun_by x.act (opening past); reply = x.reply } ∷ []) (begun_by x.act (opening past)) op
    (begun_due (list (completed_calls past)) (opening past) x.act run.0 (opening_is_due list past run.1)) is

pub begun_is_due : (list : List CompletedCall → Option Act) (past : List Entry) (act : Act) → IsRun list past → due_after list past ≡ Some act
    → list (completed_calls past) ≡ Some (begun_by act (opening past))
begun_is_due list past act run due = begun_due (list (completed_calls past)) (opening past) act due (opening_is_due list past run)

pub finished_pending : (x : Entry) (past : List Entry) → is_pending x.reply ≡ true → completed_calls (x ∷ past) ≡ completed_calls past
unfolding completed_calls
finished_pending x past is = ap (λ b. if b then completed_calls past else completed_calls past ++ record { op = begun_by x.act (opening past); reply = x.reply } ∷ []) is

pub finished_told : (x : Entry) (past : List Entry) → is_pending x.reply ≡ false → completed_calls (x ∷ past) ≡ completed_calls past ++ record { op = begun_by x.act (opening past); reply = x.reply } ∷ []
unfolding completed_calls
finished_told x past is = ap (λ b. if b then completed_calls past else completed_calls past ++ record { op = begun_by x.act (opening past); reply = x.reply } ∷ []) is

if_some : (b : Bool) (act : Act) → is_some (if b then Some act else None) ≡ b
if_some true act = refl
if_some false act = refl

pub opening_is : (x : Entry) (past : List Entry) → is_some (opening (x ∷ past)) ≡ is_pending x.reply
unfolding opening
opening_is x past = if_some (is_pending x.reply) (begun_by x.act (opening past))

pub run_more : (list : List CompletedCall → Option Act) (x : Entry) (past : List Entry) → due_after list past ≡ Some x.act → IsRun list past → IsRun list (x ∷ past)
unfolding IsRun
run_more list x past due run = (due, run)

same_number : (n : ℕ) (r : Reply) → is_pending r ≡ true → number_after n r ≡ n
same_number n Pending is = refl
same_number n Done is = refl
same_number n (Number m) is = cc

-- INTERPRETERS

-- what is asked for is what is due
pub asked_is : (cs : List Command) (m : Machine) (past : List Entry) → StandsFor cs m past → is_external m.outcome ≡ false → due_act m ≡ next_act cs past
asked_is cs m past s set =
    ap (λ b. next_of b (task_rest m.task [])) (s.going set) ∙ ap (next_of (is_some (opening past))) (sym (s.left set).due)

-- the call that is asked for, or gone on with
rest_is : (cs : List Command) (m : Machine) (past : List Entry) (act : Act) → StandsFor cs m past → is_external m.outcome ≡ false → due_act m ≡ Some act
    → task_rest m.task [] ≡ Some (begun_by act (opening past))
rest_is cs m past act s set asks =
    sym (s.left set).due ∙ begun_is_due (program_call cs) past act s.run (sym (asked_is cs m past s set) ∙ asks)

run_is : (cs : List Command) (m : Machine) (past : List Entry) (x : Entry) → StandsFor cs m past → is_external m.outcome ≡ false → due_act m ≡ Some x.act → IsRunOf cs (x ∷ past)
run_is cs m past x s set asks = run_more (program_call cs) x past (sym (asked_is cs m past s set) ∙ asks) s.run

last_told : (n : ℕ) (x : Entry) (past : List Entry) → n ≡ last_number 0 (completed_calls past) → is_pending x.reply ≡ false → number_after n x.reply ≡ last_number 0 (completed_calls (x ∷ past))
last_told n x past is completed =
    ap (λ m. number_after m x.reply) is ∙ sym (last_more 0 (completed_calls past) (record { op = begun_by x.act (opening past); reply = x.reply })) ∙ ap (last_number 0) (sym (finished_told x past completed))

place_told : (cs : List Command) (x : Entry) (past : List Entry) → is_pending x.reply ≡ false
    → state_after (start cs) (completed_calls (x ∷ past)) ≡ after_call (state_after (start cs) (completed_calls past)) (record { op = begun_by x.act (opening past); reply = x.reply })
place_told cs x past completed =
    ap (state_after (start cs)) (finished_told x past completed) ∙ place_more (start cs) (completed_calls past) (record { op = begun_by x.act (opening past); reply = x.reply })

-- what a reply does to a task
pub record Takes (old new : List CompletedCall → Option Act) (reply : Reply) : Type 0 where
  pub pending : is_pending reply ≡ true → (calls : List CompletedCall) → new calls ≡ old calls
  pub completed : is_pending reply ≡ false → (op : Act) → old [] ≡ Some op → (calls : List CompletedCall) → new calls ≡ old (record { op = op; reply = reply } ∷ calls)

rest_alike : (f g : List CompletedCall → Option Act) (left : List Command) (p : ProgramState) → ((calls : List CompletedCall) → g calls ≡ f calls) → IsAt f left p → IsAt g left p
rest_alike f g left p alike at = record {
  due = at.due ∙ sym (alike []);
  at = λ some. (let i = at.at (subst (λ o. is_some o ≡ true) (alike []) some) in
      (i.0, record { commands = i.1.commands; fits = i.1.fits; rest = λ more. alike more ∙ i.1.rest more }));
}

step_pending : (cs : List Command) (old new : Machine) (past : List Entry) (x : Entry) → StandsFor cs old past → is_running old.outcome ≡ true
    → due_act old ≡ Some x.act → is_pending x.reply ≡ true
    → new.last ≡ number_after old.last x.reply → new.outcome ≡ old.outcome → new.rest ≡ old.rest → task_going new.task ≡ is_pending x.reply
    → ((calls : List CompletedCall) → task_rest new.task calls ≡ task_rest old.task calls) → StandsFor cs new (x ∷ past)
step_pending cs old new past x s running asks pending last outcome rest going alike =
    let set = not_set old.outcome running in
    let done = finished_pending x past pending in
    record {
      run = run_is cs old past x s set asks;
      last = last ∙ same_number old.last x.reply pending ∙ s.last ∙ ap (last_number 0) (sym done);
      outcome = λ _. outcome ∙ s.outcome set ∙ ap (λ calls. outcome_at (state_after (start cs) calls)) (sym done);
      going = λ _. going ∙ sym (opening_is x past);
      left = λ _. subst (λ calls. IsAt (task_rest new.task) new.rest (state_after (start cs) calls)) (sym done)
          (subst (λ left. IsAt (task_rest new.task) left (state_after (start cs) (completed_calls past))) (sym rest)
          (rest_alike (task_rest old.task) (task_rest new.task) old.rest _ alike (s.left set)));
    }

step_told : (cs : List Command) (old new : Machine) (past : List Entry) (x : Entry) → StandsFor cs old past → is_running old.outcome ≡ true
    → due_act old ≡ Some x.act → is_pending x.reply ≡ false
    → new.last ≡ number_after old.last x.reply → new.outcome ≡ old.outcome → new.rest ≡ old.rest → task_going new.task ≡ is_pending x.reply
    → Takes (task_rest old.task) (task_rest new.task) x.reply → is_some (task_rest new.task []) ≡ true → StandsFor cs new (x ∷ past)
step_told cs old new past x s running asks completed last outcome rest going takes more =
    let set = not_set old.outcome running in
    let due = rest_is cs old past x.act s set asks in
    let c : CompletedCall = record { op = begun_by x.act (opening past); reply = x.reply } in
    let p = state_after (start cs) (completed_calls past) in
    let at : IsAt (task_rest new.task) old.rest (after_call p c) =
    goes_on (task_rest old.task) (task_rest new.task) old.rest p c (s.left set) (ap is_some due) (takes.completed completed c.op due) more in
    let e = place_told cs x past completed in
    record {
      run = run_is cs old past x s set asks;
      last = last ∙ last_told old.last x past s.last completed;
      outcome = λ _. outcome ∙ running_is old.outcome running ∙ sym (outcome_due (task_rest new.task) old.rest (after_call p c) at more) ∙ ap outcome_at (sym e);
      going = λ _. going ∙ sym (opening_is x past);
      left = λ _. subst (IsAt (task_rest new.task) new.rest) (sym e) (subst (λ left. IsAt (task_rest new.task) left (after_call p c)) (sym rest) at);
    }

next_more : (b : Bool) (due : Option Act) → b ≡ false → is_some (next_of b due) ≡ true → is_some due ≡ true
next_more true due is some = cc
next_more false due is some = some

-- a reply after which the command goes on
step_on_if : (b : Bool) (cs : List Command) (old new : Machine) (past : List Entry) (x : Entry) → is_pending x.reply ≡ b → StandsFor cs old past → is_running old.outcome ≡ true
    → due_act old ≡ Some x.act
    → new.last ≡ number_after old.last x.reply → new.outcome ≡ old.outcome → new.rest ≡ old.rest → task_going new.task ≡ is_pending x.reply
    → Takes (task_rest old.task) (task_rest new.task) x.reply → is_some (due_act new) ≡ true → StandsFor cs new (x ∷ past)
step_on_if true cs old new past x is s running asks last outcome rest going takes more =
    step_pending cs old new past x s running asks is last outcome rest going (takes.pending is)
step_on_if false cs old new past x is s running asks last outcome rest going takes more =
    step_told cs old new past x s running asks is last outcome rest going takes (next_more (task_going new.task) (task_rest new.task []) (going ∙ is) more)

pub step_on : (cs : List Command) (old new : Machine) (past : List Entry) (x : Entry) → StandsFor cs old past → is_running old.outcome ≡ true
    → due_act old ≡ Some x.act
    → new.last ≡ number_after old.last x.reply → new.outcome ≡ old.outcome → new.rest ≡ old.rest → task_going new.task ≡ is_pending x.reply
    → Takes (task_rest old.task) (task_rest new.task) x.reply → is_some (due_act new) ≡ true → StandsFor cs new (x ∷ past)
step_on cs old new past x = step_on_if (is_pending x.reply) cs old new past x refl

not_going : (b : Bool) (due : Option Act) → is_some (next_of b due) ≡ false → b ≡ false
not_going true due none = cc
not_going false due none = refl

none_due : (b : Bool) (due : Option Act) → is_some (next_of b due) ≡ false → is_some due ≡ false
none_due true due none = cc
none_due false due none = none

-- a reply after which the command is done, and the next one is due; `mid` is what was left of the command
pub step_over : (cs : List Command) (old new : Machine) (past : List Entry) (x : Entry) (mid : List CompletedCall → Option Act) (going : Bool) → StandsFor cs old past
    → is_running old.outcome ≡ true → due_act old ≡ Some x.act
    → new.last ≡ number_after old.last x.reply → going ≡ is_pending x.reply → Takes (task_rest old.task) mid x.reply → is_some (next_of going (mid [])) ≡ false
    → IsAt (task_rest new.task) new.rest (record { left = old.rest; last = new.last; completed = [] }) → new.outcome ≡ outcome_in old.rest new.last
    → task_going new.task ≡ false → StandsFor cs new (x ∷ past)
step_over cs old new past x mid going s running asks last is takes none at outcome fresh =
    let set = not_set old.outcome running in
    let completed : is_pending x.reply ≡ false = sym is ∙ not_going going (mid []) none in
    let due = rest_is cs old past x.act s set asks in
    let c : CompletedCall = record { op = begun_by x.act (opening past); reply = x.reply } in
    let p = state_after (start cs) (completed_calls past) in
    let here : last_number p.last p.completed ≡ old.last = last_from_start cs (completed_calls past) ∙ sym s.last in
    let e : state_after (start cs) (completed_calls (x ∷ past)) ≡ record { left = old.rest; last = new.last; completed = [] } =
    place_told cs x past completed
    ∙ is_done (task_rest old.task) mid old.rest p c (s.left set) (ap is_some due) (takes.completed completed c.op due) (none_due going (mid []) none)
    ∙ ap (λ n. record { left = old.rest; last = n; completed = [] }) (ap (λ n. number_after n x.reply) here ∙ sym last) in
    record {
      run = run_is cs old past x s set asks;
      last = last ∙ last_told old.last x past s.last completed;
      outcome = λ _. outcome ∙ ap outcome_at (sym e);
      going = λ _. fresh ∙ sym completed ∙ sym (opening_is x past);
      left = λ _. subst (IsAt (task_rest new.task) new.rest) (sym e) at;
    }

pub stands_at_start : (cs : List Command) (m : Machine) → m.last ≡ 0 → m.outcome ≡ outcome_at (start cs) → task_going m.task ≡ false → IsAt (task_rest m.task) m.rest (start cs) → StandsFor cs m []
unfolding IsRun completed_calls opening state_after
stands_at_start cs m last outcome going at = record {
  run = tt;
  last = last;
  outcome = λ _. outcome;
  going = λ _. going;
  left = λ _. at;
}
