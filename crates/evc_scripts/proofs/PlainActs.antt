-- The version of a plan can encode the acts of its workers: no command of version 1 makes a hand,
-- and version 2 has each act.
use Rattle.std.proofs.Common.{◌≡◌, ℕ, zero, suc, ◌+◌, ◌<◌, Bool, true, false, ◌==◌, cond, if◌then◌else◌, nat_lt, List, [], ◌∷◌, ◌++◌, length, reverse, get_or, slice_get, Option, Some, None, is_some, Result, Ok, Err, refl, sym, subst, arith}
use Rattle.std.specs.List.{AllByRecursion}
use Rattle.std.proofs.lemmas.Bool.{eq-eqb, leb-false}
use Rattle.std.proofs.lemmas.List.{reverse-append, reverse-reverse}
use Rattle.std.proofs.lemmas.List.Elements.{All-from_recursion}
use Rattle.ec_count.specs.Tables.{Tables}
use Rattle.ec_core.specs.declared.act.Act.{Act}
use Rattle.ec_core.specs.declared.act.Act.TheVariants as acts
use Rattle.ec_core.specs.declared.act.Reply.{Reply}
use Rattle.ec_core.specs.declared.act.Refusal.{Refusal}
use Rattle.ec_core.specs.declared.act.Entry.{Entry}
use Rattle.ec_core.specs.Acceptance.{IsAccepted}
use Rattle.ec_core.specs.CallLists.{reply_number}
use Rattle.ec_core.specs.Following.{CompletedCall}
use Rattle.ec_core.specs.Procedures.{next_of}
use Rattle.ec_core.proofs.shared.Answering.{allowed}
use Rattle.ec_order.proofs.shared.Matching.{at_index}
use Rattle.ec_buffer.specs.CallLists as lists
use Rattle.ec_database.specs.Shapes.{Database}
use Rattle.ec_database.specs.Calls.{write_call, try_call}
use Rattle.ec_database.specs.Snapshots.{trying}
use Rattle.ec_semaphore.specs.Shapes.{Semaphore}
use Rattle.ec_semaphore.specs.Uses.{threshold, down_call, up_call}
use Rattle.ec_semaphore.specs.Both.{down_both_call}
use Rattle.ec_machine.specs.declared.command.Command.{Command}
use Rattle.ec_machine.specs.declared.command.Command.TheOpen.{Command-F}
use Rattle.ec_machine.specs.declared.command.Command.TheOpen as layer
use Rattle.ec_machine.specs.declared.command.Command.TheVariants.{rolls-Advance, rolls-Read, rolls-Await, rolls-Ticket, rolls-Put, rolls-Get, rolls-Hand, rolls-Produce, rolls-Consume, rolls-WriteAll, rolls-Snapshot, rolls-Down, rolls-Up, rolls-DownBoth, rolls-Repeat}
use Rattle.ec_machine.specs.declared.command.Command.TheViews.{roll-Command, out-Command, roll-out-Command}
use Rattle.ec_machine.specs.Follows.{program_at}
use Rattle.ec_machine.specs.Runs.{ProgramState, start, one_call, command_call, last_number, next_state, after_call, next_in, state_after, next_act, IsRunOf}
use Rattle.ec_machine.specs.Steps.{opening, completed_calls, IsRun, own}
use Rattle.ec_machine.specs.Values.{eval, values_of, has_large}
use Rattle.ec_heading.specs.declared.version.Version.{Version}
use Rattle.ec_heading.specs.declared.version.Version.TheVariants.{One, Two}
use Rattle.ec_heading.specs.Versions.{can_spell, CanSpellAll}
use Rattle.ec_heading.proofs.shared.VersionFacts.{two_spells_all}
use Rattle.ec_script.specs.Confined.{has_command, HasProgram, HasPrograms}
use Rattle.ec_heading.proofs.shared.Each.{each_append as every_append}
use Rattle.ec_runner.specs.declared.report.Report.{Report}
use Rattle.ec_runner.specs.RunReports.{IsReportOf}
use Rattle.ec_runner.specs.Schedules.{Turn, with_answer, entries_of, AreTurns}

-- version 1 has the act
abbrev IsPlain : Act → Type 0
IsPlain act = can_spell One act ≡ true

abbrev pub AllPlain : List Entry → Type 0
AllPlain entries = AllByRecursion (λ (e : Entry). can_spell One e.act ≡ true) entries

-- THE CALLS OF A COMMAND

plain_op : (a op : Act) → Some a ≡ Some op → can_spell One a ≡ true → can_spell One op ≡ true
plain_op a op is plain = let same : a ≡ op = cc in subst IsPlain same plain

one_plain : (act : Act) (calls : List CompletedCall) (op : Act) → can_spell One act ≡ true → one_call act calls ≡ Some op → can_spell One op ≡ true
one_plain act [] op plain is = plain_op act op is plain
one_plain act (c ∷ calls) op plain is = cc

list_plain : (list : List Act) (n : ℕ) (op : Act) → AllByRecursion (λ a. can_spell One a ≡ true) list → slice_get list n ≡ Some op → can_spell One op ≡ true
list_plain [] n op all is = cc
list_plain (a ∷ list) zero op all is = plain_op a op is all.0
list_plain (a ∷ list) (suc n) op all is = list_plain list n op all.1 is

-- one act for each cell, and then a last one
rest_plain : (more last : Bool) (x y op : Act) → can_spell One x ≡ true → can_spell One y ≡ true → cond more (Some x) (cond last (Some y) None) ≡ Some op → can_spell One op ≡ true
rest_plain true last x y op p q is = plain_op x op is p
rest_plain false true x y op p q is = plain_op y op is q
rest_plain false false x y op p q is = cc

write_plain : (d : Database) (values : List ℕ) (calls : List CompletedCall) (op : Act) → write_call d values calls ≡ Some op → can_spell One op ≡ true
write_plain d values [] op is = plain_op (acts.Advance d.start) op is refl
write_plain d values (a ∷ []) op is = plain_op (acts.Ticket d.turn) op is refl
write_plain d values (a ∷ t ∷ []) op is = plain_op (acts.Await d.done (reply_number t.reply)) op is refl
write_plain d values (a ∷ t ∷ i ∷ puts) op is =
    rest_plain (nat_lt (length puts) d.cells) (length puts == d.cells) (acts.Put (d.first_cell + length puts) (get_or values (length puts) 0)) (acts.Advance d.done) op refl refl is

try_plain : (d : Database) (calls : List CompletedCall) (op : Act) → try_call d calls ≡ Some op → can_spell One op ≡ true
try_plain d [] op is = plain_op (acts.Read d.start) op is refl
try_plain d (w ∷ []) op is = plain_op (acts.Await d.done (reply_number w.reply)) op is refl
try_plain d (w ∷ a ∷ gets) op is =
    rest_plain (nat_lt (length gets) d.cells) (length gets == d.cells) (acts.Get (d.first_cell + length gets)) (acts.Read d.start) op refl refl is

down_plain : (s : Semaphore) (calls : List CompletedCall) (op : Act) → down_call s calls ≡ Some op → can_spell One op ≡ true
down_plain s [] op is = plain_op (acts.Ticket s.line) op is refl
down_plain s (t ∷ []) op is = plain_op (acts.Await s.count (threshold s (reply_number t.reply))) op is refl
down_plain s (t ∷ a ∷ rest) op is = cc

up_plain : (s : Semaphore) (calls : List CompletedCall) (op : Act) → up_call s calls ≡ Some op → can_spell One op ≡ true
up_plain s [] op is = plain_op (acts.Advance s.count) op is refl
up_plain s (v ∷ rest) op is = cc

both_plain : (c one other : Semaphore) (calls : List CompletedCall) (op : Act) → down_both_call c one other calls ≡ Some op → can_spell One op ≡ true
both_plain c one other [] op is = plain_op (acts.Ticket c.line) op is refl
both_plain c one other (t ∷ []) op is =
    plain_op (acts.Await c.count (reply_number t.reply)) op is refl
both_plain c one other (t ∷ a ∷ []) op is = plain_op (acts.Ticket one.line) op is refl
both_plain c one other (t ∷ a ∷ r ∷ []) op is = plain_op (acts.Ticket other.line) op is refl
both_plain c one other (t ∷ a ∷ r ∷ s ∷ []) op is = plain_op (acts.Advance c.count) op is refl
both_plain c one other (t ∷ a ∷ r ∷ s ∷ v ∷ []) op is = plain_op (acts.Await one.count (threshold one (reply_number r.reply))) op is refl
both_plain c one other (t ∷ a ∷ r ∷ s ∷ v ∷ b ∷ []) op is = plain_op (acts.Await other.count (threshold other (reply_number s.reply))) op is refl
both_plain c one other (t ∷ a ∷ r ∷ s ∷ v ∷ b ∷ d ∷ rest) op is = cc

abbrev AsksPlain : Command → Type 0
AsksPlain c = (last : ℕ) (calls : List CompletedCall) (op : Act) → command_call last c calls ≡ Some op → can_spell One op ≡ true

rolled_plain : (d : Command-F Command) → has_command One d ≡ true → AsksPlain (roll-Command d)
rolled_plain (layer.Advance e) has = subst AsksPlain (sym (rolls-Advance e)) (λ last calls op is. one_plain (acts.Advance e) calls op refl is)
rolled_plain (layer.Read e) has = subst AsksPlain (sym (rolls-Read e)) (λ last calls op is. one_plain (acts.Read e) calls op refl is)
rolled_plain (layer.Await e v) has = subst AsksPlain (sym (rolls-Await e v)) (λ last calls op is. one_plain (acts.Await e (eval last v)) calls op refl is)
rolled_plain (layer.Ticket q) has = subst AsksPlain (sym (rolls-Ticket q)) (λ last calls op is. one_plain (acts.Ticket q) calls op refl is)
rolled_plain (layer.Put x v) has = subst AsksPlain (sym (rolls-Put x v)) (λ last calls op is. one_plain (acts.Put x (eval last v)) calls op refl is)
rolled_plain (layer.Get x) has = subst AsksPlain (sym (rolls-Get x)) (λ last calls op is. one_plain (acts.Get x) calls op refl is)
rolled_plain (layer.Hand e b) has = λ last calls op is. cc
rolled_plain (layer.Produce b v) has =
    subst AsksPlain (sym (rolls-Produce b v)) (λ last calls op is.
    list_plain (lists.produce_list b (eval last v) (lists.drawn_ticket calls)) (length calls) op (refl, (refl, (refl, (refl, (refl, tt))))) is)
rolled_plain (layer.Consume b) has =
    subst AsksPlain (sym (rolls-Consume b)) (λ last calls op is. list_plain (lists.consume_list b (lists.drawn_ticket calls)) (length calls) op (refl, (refl, (refl, (refl, (refl, tt))))) is)
rolled_plain (layer.WriteAll d vs) has = subst AsksPlain (sym (rolls-WriteAll d vs)) (λ last calls op is. write_plain d (values_of last vs.items) calls op is)
rolled_plain (layer.Snapshot d tries) has = subst AsksPlain (sym (rolls-Snapshot d tries)) (λ last calls op is. try_plain d (trying d tries calls).calls op is)
rolled_plain (layer.Down s) has = subst AsksPlain (sym (rolls-Down s)) (λ last calls op is. down_plain s calls op is)
rolled_plain (layer.Up s) has = subst AsksPlain (sym (rolls-Up s)) (λ last calls op is. up_plain s calls op is)
rolled_plain (layer.DownBoth c one other) has = subst AsksPlain (sym (rolls-DownBoth c one other)) (λ last calls op is. both_plain c one other calls op is)
rolled_plain (layer.Repeat n block) has = subst AsksPlain (sym (rolls-Repeat n block)) (λ last calls op is. (let no : None ≡ Some op = is in cc))

-- version 1 has the command, and all of these
abbrev IsOfOne : Command → Type 0
IsOfOne c = has_command One (out-Command c) ≡ true

abbrev AreOfOne : List Command → Type 0
AreOfOne cs = AllByRecursion IsOfOne cs

command_plain : (c : Command) → IsOfOne c → AsksPlain c
command_plain c has = subst AsksPlain (roll-out-Command c) (rolled_plain (out-Command c) has)

-- THE ACTS OF A PROGRAM

chosen_left : (b : Bool) (p q : ProgramState) → AreOfOne p.left → AreOfOne q.left → AreOfOne (if b then p else q).left
chosen_left true p q of_p of_q = of_p
chosen_left false p q of_p of_q = of_q

moved_left : (cs : List Command) (last : ℕ) (returned : List CompletedCall) → AreOfOne cs → AreOfOne (next_state cs last returned).left
moved_left [] last returned have = have
moved_left (c ∷ cs) last returned have =
    chosen_left (is_some (command_call last c returned)) (record { left = c ∷ cs; last = last; completed = returned }) (record { left = cs; last = last_number last returned; completed = [] }) have have.1

-- the commands that are left are among the program's
left_of : (p : ProgramState) (calls : List CompletedCall) → AreOfOne p.left
    → AreOfOne (state_after p calls).left
unfolding state_after
left_of p [] have = have
left_of p (c ∷ calls) have = left_of (after_call p c) calls (moved_left p.left p.last (p.completed ++ c ∷ []) have)

in_plain : (cs : List Command) (last : ℕ) (returned : List CompletedCall) (op : Act) → AreOfOne cs → next_in cs last returned ≡ Some op → can_spell One op ≡ true
in_plain [] last returned op have is = cc
in_plain (c ∷ cs) last returned op have is =
    elim (has_large last c) as (λ b. cond b None (command_call last c returned) ≡ Some op → can_spell One op ≡ true) [
      | true ↦ λ h. (let no : None ≡ Some op = h in cc)
      | false ↦ λ h. command_plain c have.0 last returned op h
    ] is

next_plain : (cs : List Command) (past : List Entry) (act : Act) → HasProgram One cs → next_act cs past ≡ Some act → can_spell One act ≡ true
next_plain cs past act have is =
    let p = state_after (start cs) (completed_calls past) in
    elim (is_some (opening past)) as (λ b. next_of b (next_in p.left p.last p.completed) ≡ Some act → can_spell One act ≡ true) [
      | true ↦ λ h. plain_op acts.Go act h refl
      | false ↦ λ h. in_plain p.left p.last p.completed act (left_of (start cs) (completed_calls past) have) h
    ] is

run_plain : (cs : List Command) (past : List Entry) → HasProgram One cs → IsRunOf cs past → AllPlain past
unfolding IsRun
run_plain cs [] have run = tt
run_plain cs (x ∷ past) have run = (next_plain cs past x.act have run.0, run_plain cs past have run.1)

program_has : (programs : List (List Command)) (w : ℕ) → HasPrograms One programs → HasProgram One (program_at programs w)
program_has [] w have = tt
program_has (cs ∷ programs) zero have = have.0
program_has (cs ∷ programs) (suc w) have = program_has programs w have.1

-- TURNS

every_reverse : (P : Entry → Type 0) (past : List Entry) → AllByRecursion P past → AllByRecursion P (reverse past)
every_reverse P [] all = tt
every_reverse P (x ∷ past) all = subst (AllByRecursion P) (sym (reverse-append (x ∷ []) past)) (every_append P (reverse past) (x ∷ []) (every_reverse P past all.1) (all.0, tt))

answer_plain : (w : ℕ) (act : Act) (answer : Result Reply Refusal) (past : List Entry) → can_spell One act ≡ true → AllPlain past → AllPlain (with_answer w act answer past)
answer_plain w act (Ok reply) past one all = (one, all)
answer_plain w act (Err r) past one all = all

past_plain : (t : Tables) (programs : List (List Command)) (turns : List Turn) → HasPrograms One programs → AreTurns t programs turns → AllPlain (entries_of turns)
past_plain t programs [] have are = tt
past_plain t programs (x ∷ turns) have are =
    answer_plain x.worker x.act x.answer (entries_of turns)
    (next_plain (program_at programs x.worker) (own x.worker (entries_of turns)) x.act (program_has programs x.worker have) are.0.due)
    (past_plain t programs turns have are.1)

-- the history that a schedule's turns make
pub turns_spelled : (v : Version) (t : Tables) (programs : List (List Command)) (turns : List Turn) → HasPrograms v programs → AreTurns t programs turns → CanSpellAll v (reverse (entries_of turns))
turns_spelled One t programs turns have are =
    All-from_recursion (λ (e : Entry). can_spell One e.act ≡ true) (reverse (entries_of turns))
    (every_reverse (λ (e : Entry). can_spell One e.act ≡ true) (entries_of turns) (past_plain t programs turns have are))
turns_spelled Two t programs turns have are = two_spells_all (reverse (entries_of turns))

-- WORKERS ON THREADS

own_plain : (t : Tables) (programs : List (List Command)) (turns w : ℕ) (report : Report) → HasPrograms One programs → IsReportOf t programs turns report → w < t.workers
    → AllPlain (own w report.run.entries)
own_plain t programs turns w report have is lt =
    let log = at_index report.logs.items w (omega (arith, is.logs, lt)) in
    let outcome = at_index report.outcomes.items w (omega (arith, is.outcomes, lt)) in
    let returned = is.returned w log.0 outcome.0 log.1 outcome.1 in
    let back = every_reverse (λ (e : Entry). can_spell One e.act ≡ true) (reverse log.0.items) (run_plain (program_at programs w) (reverse log.0.items) (program_has programs w have) returned.follows) in
    subst AllPlain (sym returned.entries) (subst AllPlain (reverse-reverse log.0.items) back)

own_first : (x : Entry) (h : List Entry) → AllPlain (own x.worker (x ∷ h)) → can_spell One x.act ≡ true
own_first x h all =
    let mine : (x.worker == x.worker) ≡ true = eq-eqb x.worker x.worker refl in
    let first : AllPlain (x ∷ own x.worker h) = subst (λ b. AllPlain (cond b (x ∷ own x.worker h) (own x.worker h))) mine all in
    first.0

own_rest : (mine : Bool) (x : Entry) (rest : List Entry) → AllPlain (cond mine (x ∷ rest) rest) → AllPlain rest
own_rest true x rest all = all.1
own_rest false x rest all = all

-- what holds of the entries of each worker holds of all
each_own : (n : ℕ) (h : List Entry) → AllByRecursion (λ (e : Entry). e.worker < n) h → ((w : ℕ) → w < n → AllPlain (own w h)) → AllPlain h
each_own n [] low each = tt
each_own n (x ∷ h) low each = (own_first x h (each x.worker low.0), each_own n h low.1 (λ w lt. own_rest (x.worker == w) x (own w h) (each w lt)))

past_declared : (t : Tables) (past : List Entry) → IsAccepted t past → AllByRecursion (λ (e : Entry). e.worker < t.workers) past
past_declared t [] acc = tt
past_declared t (x ∷ past) acc = (leb-false _ _ (allowed t past x.worker x.act x.reply acc.0).0.declared, past_declared t past acc.1)

report_plain : (t : Tables) (programs : List (List Command)) (turns : ℕ) (report : Report) → HasPrograms One programs → IsReportOf t programs turns report
    → IsAccepted t (reverse report.run.entries) → AllPlain report.run.entries
report_plain t programs turns report have is acc =
    let h = report.run.entries in
    let low = every_reverse (λ (e : Entry). e.worker < t.workers) (reverse h) (past_declared t (reverse h) acc) in
    each_own t.workers h (subst (AllByRecursion (λ (e : Entry). e.worker < t.workers)) (reverse-reverse h) low) (λ w lt. own_plain t programs turns w report have is lt)

-- the history of workers on threads
pub report_spelled : (v : Version) (t : Tables) (programs : List (List Command)) (turns : ℕ) (report : Report) → HasPrograms v programs → IsReportOf t programs turns report
    → IsAccepted t (reverse report.run.entries) → CanSpellAll v report.run.entries
report_spelled One t programs turns report have is acc =
    All-from_recursion (λ (e : Entry). can_spell One e.act ≡ true) report.run.entries (report_plain t programs turns report have is acc)
report_spelled Two t programs turns report have is acc = two_spells_all report.run.entries
