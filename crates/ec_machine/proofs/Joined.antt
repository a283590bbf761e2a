-- Whole lists joined end to end, and a prefix of one more, are a run of a program.
use Rattle.std.proofs.Common.{◌≡◌, ℕ, zero, suc, ◌<◌, Bool, true, false, not, ◌==◌, ◌&&◌, ◌⊎◌, List, [], ◌∷◌, ◌++◌, length, map, reverse, Option, Some, None, IsSome, is_some, IfSome, if◌then◌else◌, cond, Ok, refl, sym, ◌∙◌, ap, subst, append_assoc, append-nil, arith, inl, inr, eqb-true}
use Rattle.std.specs.List.{flat_map, AllByRecursion}
use Rattle.ec_count.specs.Tables.{Tables}
use Rattle.ec_core.specs.declared.act.Act.{Act}
use Rattle.ec_core.specs.declared.act.Act.TheVariants as acts
use Rattle.ec_core.specs.declared.act.Entry.{Entry}
use Rattle.ec_core.specs.Acceptance.{answer_of, IsAccepted}
use Rattle.ec_core.specs.Calls.{CallSoFar, is_go, is_pending, under_way}
use Rattle.ec_core.specs.Following.{CompletedCall}
use Rattle.ec_core.specs.JoinedLists.{completed_calls_of, op_of}
use Rattle.ec_core.specs.Procedures.{next_of, IsWritten}
use Rattle.ec_core.proofs.shared.Answering.{allowed}
use Rattle.ec_machine.specs.declared.command.Command.{Command, map-Command}
use Rattle.ec_machine.specs.declared.command.Command.TheOpen.{Command-F}
use Rattle.ec_machine.specs.declared.command.Command.TheOpen as layer
use Rattle.ec_machine.specs.declared.command.Command.TheViews.{roll-Command}
use Rattle.ec_machine.specs.declared.command.Command.TheFolds.{ind-Command, fold-roll-Command}
use Rattle.ec_machine.specs.declared.command.Command.TheVariants as commands
use Rattle.ec_machine.specs.Unrolled.{unroll, unroll_command, written_step, repeated}
use Rattle.ec_machine.specs.Values.{has_large}
use Rattle.ec_machine.specs.Steps.{begun_by, opening, completed_calls, IsRun, own}
use Rattle.ec_machine.specs.Runs.{ProgramState, start, command_call, next_call, next_in, last_number, after_call, state_after, program_call, IsRunOf}
use Rattle.ec_machine.specs.Follows.{program_at}
use Rattle.ec_machine.specs.Laws.{AreWhole, IsCommandPrefix, IsProgramPrefix, number_after_lists}
use Rattle.ec_machine.specs.Joined.{AreListsOf, AreSteps, RunsMeanWholeLists, FollowingMeansWholeLists}
use Rattle.ec_machine.proofs.Going.{begun_alone, opening_is_due}
use Rattle.ec_machine.proofs.shared.OwnCalls.{own_cut}
use Rattle.ec_machine.proofs.shared.WholeLists.{last_append, place_next, written_none, finished_written, calls_of, IsAsked}

-- EACH COMMAND OF AN UNROLLED PROGRAM HAS A FIRST CALL

abbrev Asks : Command → Type 0
Asks c = (last : ℕ) → IsSome (command_call last c [])

every_append : (xs ys : List Command) → AllByRecursion Asks xs → AllByRecursion Asks ys → AllByRecursion Asks (xs ++ ys)
every_append [] ys a b = b
every_append (x ∷ xs) ys a b = (a.0, every_append xs ys a.1 b)

every_back : (xs ys : List Command) → AllByRecursion Asks (xs ++ ys) → AllByRecursion Asks ys
every_back [] ys all = all
every_back (x ∷ xs) ys all = every_back xs ys all.1

every_repeated : (n : ℕ) (xs : List Command) → AllByRecursion Asks xs → AllByRecursion Asks (repeated n xs)
unfolding repeated
every_repeated zero xs all = tt
every_repeated (suc n) xs all = every_append xs (repeated n xs) all (every_repeated n xs all)

abbrev AllAsk : Command → Type 0
AllAsk c = AllByRecursion Asks (unroll_command c)

all_ask : (es : List ((c : Command) × AllAsk c)) → AllByRecursion Asks (unroll (map (λ e. e.0) es))
all_ask [] = tt
all_ask (e ∷ es) = every_append (unroll_command e.0) (unroll (map (λ e. e.0) es)) e.1 (all_ask es)

-- the same of the block of a repeat
abbrev BlockAsks : Command-F Command → Type 0
BlockAsks (layer.Repeat n block) = AllByRecursion Asks (unroll block.items)
BlockAsks _ = Unit {0}

block_asks : (y : Command-F ((c : Command) × AllAsk c)) → BlockAsks (map-Command ((c : Command) × AllAsk c) Command (λ e. e.0) y)
block_asks (layer.Repeat n block) = all_ask block.items
block_asks _ = tt

one : (d : Command-F Command) (c : Command) → unroll_command (roll-Command d) ≡ c ∷ [] → Asks c → AllAsk (roll-Command d)
one d c is asks = subst (AllByRecursion Asks) (sym is) (asks, tt)

asks : (d : Command-F Command) → BlockAsks d → AllAsk (roll-Command d)
asks (layer.Advance e) inner = one _ (commands.Advance e) (fold-roll-Command (List Command) written_step (layer.Advance e)) (λ last. refl)
asks (layer.Read e) inner = one _ (commands.Read e) (fold-roll-Command (List Command) written_step (layer.Read e)) (λ last. refl)
asks (layer.Await e v) inner = one _ (commands.Await e v) (fold-roll-Command (List Command) written_step (layer.Await e v)) (λ last. refl)
asks (layer.Ticket q) inner = one _ (commands.Ticket q) (fold-roll-Command (List Command) written_step (layer.Ticket q)) (λ last. refl)
asks (layer.Put x v) inner = one _ (commands.Put x v) (fold-roll-Command (List Command) written_step (layer.Put x v)) (λ last. refl)
asks (layer.Get x) inner = one _ (commands.Get x) (fold-roll-Command (List Command) written_step (layer.Get x)) (λ last. refl)
asks (layer.Hand e b) inner = one _ (commands.Hand e b) (fold-roll-Command (List Command) written_step (layer.Hand e b)) (λ last. refl)
asks (layer.Produce b v) inner = one _ (commands.Produce b v) (fold-roll-Command (List Command) written_step (layer.Produce b v)) (λ last. refl)
asks (layer.Consume b) inner = one _ (commands.Consume b) (fold-roll-Command (List Command) written_step (layer.Consume b)) (λ last. refl)
asks (layer.WriteAll d vs) inner = one _ (commands.WriteAll d vs) (fold-roll-Command (List Command) written_step (layer.WriteAll d vs)) (λ last. refl)
asks (layer.Snapshot d n) inner = one _ (commands.Snapshot d n) (fold-roll-Command (List Command) written_step (layer.Snapshot d n)) (λ last. refl)
asks (layer.Down s) inner = one _ (commands.Down s) (fold-roll-Command (List Command) written_step (layer.Down s)) (λ last. refl)
asks (layer.Up s) inner = one _ (commands.Up s) (fold-roll-Command (List Command) written_step (layer.Up s)) (λ last. refl)
asks (layer.DownBoth r s u) inner = one _ (commands.DownBoth r s u) (fold-roll-Command (List Command) written_step (layer.DownBoth r s u)) (λ last. refl)
asks (layer.Repeat n block) inner =
    subst (AllByRecursion Asks) (sym (fold-roll-Command (List Command) written_step (layer.Repeat n block))) (every_repeated n (unroll block.items) inner)

command_asks : (c : Command) → AllAsk c
command_asks = ind-Command AllAsk (λ x y is. asks x (subst BlockAsks is (block_asks y)))

program_asks : (cs : List Command) → AllByRecursion Asks (unroll cs)
program_asks [] = tt
program_asks (c ∷ cs) =
    every_append (unroll_command c) (unroll cs) (command_asks c) (program_asks cs)

every_front : (xs ys : List Command) → AllByRecursion Asks (xs ++ ys) → AllByRecursion Asks xs
every_front [] ys all = tt
every_front (x ∷ xs) ys all = (all.0, every_front xs ys all.1)

-- WRITTEN LISTS, CALL BY CALL

-- after these calls each of the further ones is the one that the list has next
abbrev AskedBy : (List CompletedCall → Option Act) → List CompletedCall → List CompletedCall
    → Type 0
AskedBy list completed [] = Unit {0}
AskedBy list completed (c ∷ more) = (list completed ≡ Some c.op)
    × AskedBy list (completed ++ c ∷ []) more

written_at : (list : List CompletedCall → Option Act) (completed : List CompletedCall) (c : CompletedCall) (more : List CompletedCall) → IsWritten list (completed ++ c ∷ more) → list completed ≡ Some c.op
written_at list [] c more w = w 0 c refl
written_at list (t ∷ completed) c more w = written_at (λ l. list (t ∷ l)) completed c more (λ k d at. w (suc k) d at)

asked_by : (list : List CompletedCall → Option Act) (completed more : List CompletedCall) → IsWritten list (completed ++ more) → AskedBy list completed more
asked_by list completed [] w = tt
asked_by list completed (c ∷ more) w = (written_at list completed c more w, asked_by list (completed ++ c ∷ []) more (subst (IsWritten list) (sym (append_assoc completed (c ∷ []) more)) w))

written_cons : (list : List CompletedCall → Option Act) (x : CompletedCall) (xs : List CompletedCall) → list [] ≡ Some x.op → IsWritten (λ l. list (x ∷ l)) xs → IsWritten list (x ∷ xs)
written_cons list x xs first rest zero d at = (let same : x ≡ d = cc in first ∙ ap (λ (y : CompletedCall). Some y.op) same)
written_cons list x xs first rest (suc k) d at = rest k d at

written_front : (list : List CompletedCall → Option Act) (xs : List CompletedCall) (c : CompletedCall) → IsWritten list (xs ++ c ∷ []) → IsWritten list xs
written_front list [] c w = written_none list
written_front list (x ∷ xs) c w = written_cons list x xs (w 0 x refl) (written_front (λ l. list (x ∷ l)) xs c (λ k d at. w (suc k) d at))

-- THE CALLS FROM A STATE ON

abbrev AskedFrom : ProgramState → List CompletedCall → Type 0
AskedFrom p [] = Unit {0}
AskedFrom p (c ∷ calls) = (next_call p ≡ Some c.op) × AskedFrom (after_call p c) calls

from_append : (p : ProgramState) (xs ys : List CompletedCall) → AskedFrom p xs → AskedFrom (state_after p xs) ys → AskedFrom p (xs ++ ys)
unfolding state_after
from_append p [] ys a b = b
from_append p (x ∷ xs) ys a b = (a.0, from_append (after_call p x) xs ys a.1 b)

after_append : (p : ProgramState) (xs ys : List CompletedCall) → state_after p (xs ++ ys) ≡ state_after (state_after p xs) ys
unfolding state_after
after_append p [] ys = refl
after_append p (x ∷ xs) ys = after_append (after_call p x) xs ys

asked_of : (p : ProgramState) (calls : List CompletedCall) → AskedFrom p calls → IsAsked p calls
unfolding state_after
asked_of p [] asked k d at = cc
asked_of p (c ∷ calls) asked zero d at = (let same : c ≡ d = cc in asked.0 ∙ ap (λ (y : CompletedCall). Some y.op) same)
asked_of p (c ∷ calls) asked (suc k) d at = asked_of (after_call p c) calls asked.1 k d at

abbrev at_place : List Command → ℕ → List CompletedCall → ProgramState
at_place left last completed = record { left = left; last = last; completed = completed }

-- what these calls lead to, each of them being next
abbrev Leads : ProgramState → List CompletedCall → ProgramState → Type 0
Leads p calls q = AskedFrom p calls × (state_after p calls ≡ q)

leads_next : (p q r : ProgramState) (c : CompletedCall) (calls : List CompletedCall) → next_call p ≡ Some c.op → after_call p c ≡ q → Leads q calls r → Leads p (c ∷ calls) r
leads_next p q r c calls next is lead = ((next, subst (λ z. AskedFrom z calls) (sym is) lead.0), place_next p q c calls is ∙ lead.1)

leads_on : (p q r : ProgramState) (xs ys : List CompletedCall) → Leads p xs q → Leads q ys r
    → Leads p (xs ++ ys) r
leads_on p q r xs ys a b =
    (from_append p xs ys a.0 (subst (λ z. AskedFrom z ys) (sym a.1) b.0), after_append p xs ys ∙ ap (λ z. state_after z ys) a.1 ∙ b.1)

leads_nowhere : (p : ProgramState) → Leads p [] p
unfolding state_after
leads_nowhere p = (tt, refl)

next_fits : (d : Command) (ds : List Command) (last : ℕ) (completed : List CompletedCall) (act : Act) → has_large last d ≡ false → command_call last d completed ≡ Some act
    → next_call (at_place (d ∷ ds) last completed) ≡ Some act
next_fits d ds last completed act fits due = ap (λ b. if b then None else command_call last d completed) fits ∙ due

stays : (d : Command) (ds : List Command) (last : ℕ) (completed : List CompletedCall) (c : CompletedCall) → is_some (command_call last d (completed ++ c ∷ [])) ≡ true
    → after_call (at_place (d ∷ ds) last completed) c ≡ at_place (d ∷ ds) last (completed ++ c ∷ [])
stays d ds last completed c some =
    ap (λ b. if b then at_place (d ∷ ds) last (completed ++ c ∷ []) else at_place ds (last_number last (completed ++ c ∷ [])) []) some

moves : (d : Command) (ds : List Command) (last : ℕ) (completed : List CompletedCall) (c : CompletedCall) → is_some (command_call last d (completed ++ c ∷ [])) ≡ false
    → after_call (at_place (d ∷ ds) last completed) c ≡ at_place ds (last_number last (completed ++ c ∷ [])) []
moves d ds last completed c none =
    ap (λ b. if b then at_place (d ∷ ds) last (completed ++ c ∷ []) else at_place ds (last_number last (completed ++ c ∷ [])) []) none

-- the rest of a whole list leads to the next command
whole_list : (d : Command) (ds : List Command) (last : ℕ) (completed more : List CompletedCall) → has_large last d ≡ false → AskedBy (command_call last d) completed more
    → command_call last d (completed ++ more) ≡ None → 0 < length more
    → Leads (at_place (d ∷ ds) last completed) more (at_place ds (last_number last (completed
    ++ more)) [])
whole_list d ds last completed [] fits asked none some = absurd (omega arith)
whole_list d ds last completed (c ∷ []) fits asked none some =
    let q = at_place ds (last_number last (completed ++ c ∷ [])) [] in
    leads_next (at_place (d ∷ ds) last completed) q q c [] (next_fits d ds last completed c.op fits asked.0) (moves d ds last completed c (ap is_some none)) (leads_nowhere q)
whole_list d ds last completed (c ∷ (b ∷ more)) fits asked none some =
    let now = completed ++ c ∷ [] in
    let same = append_assoc completed (c ∷ []) (b ∷ more) in
    let q = at_place ds (last_number last (completed ++ c ∷ (b ∷ more))) [] in
    let rest = whole_list d ds last now (b ∷ more) fits asked.1 (ap (command_call last d) same ∙ none) (omega arith) in
    leads_next (at_place (d ∷ ds) last completed) (at_place (d ∷ ds) last now) q c (b ∷ more) (next_fits d ds last completed c.op fits asked.0)
    (stays d ds last completed c (ap is_some asked.1.0))
    (subst (λ l. Leads (at_place (d ∷ ds) last now) (b ∷ more) (at_place ds (last_number last l) [])) same rest)

-- the rest of a prefix stays with its command
begun_list : (d : Command) (ds : List Command) (last : ℕ) (completed more : List CompletedCall) → has_large last d ≡ false → AskedBy (command_call last d) completed more
    → (more ≡ []) ⊎ IsSome (command_call last d (completed ++ more))
    → Leads (at_place (d ∷ ds) last completed) more (at_place (d ∷ ds) last (completed ++ more))
begun_list d ds last completed [] fits asked some =
    subst (λ l. Leads (at_place (d ∷ ds) last completed) [] (at_place (d ∷ ds) last l)) (sym (append-nil completed)) (leads_nowhere (at_place (d ∷ ds) last completed))
begun_list d ds last completed (c ∷ []) fits asked (inl none) = cc
begun_list d ds last completed (c ∷ []) fits asked (inr some) =
    let q = at_place (d ∷ ds) last (completed ++ c ∷ []) in
    leads_next (at_place (d ∷ ds) last completed) q q c [] (next_fits d ds last completed c.op fits asked.0) (stays d ds last completed c some) (leads_nowhere q)
begun_list d ds last completed (c ∷ (b ∷ more)) fits asked (inl none) = cc
begun_list d ds last completed (c ∷ (b ∷ more)) fits asked (inr some) =
    let now = completed ++ c ∷ [] in
    let same = append_assoc completed (c ∷ []) (b ∷ more) in
    let q = at_place (d ∷ ds) last (completed ++ c ∷ (b ∷ more)) in
    let rest = begun_list d ds last now (b ∷ more) fits asked.1 (inr (subst (λ l. IsSome (command_call last d l)) (sym same) some)) in
    leads_next (at_place (d ∷ ds) last completed) (at_place (d ∷ ds) last now) q c (b ∷ more) (next_fits d ds last completed c.op fits asked.0)
    (stays d ds last completed c (ap is_some asked.1.0))
    (subst (λ l. Leads (at_place (d ∷ ds) last now) (b ∷ more) (at_place (d ∷ ds) last l)) same rest)

begun_if : (b : Bool) (d : Command) (ds : List Command) (last : ℕ) (part : List CompletedCall) → has_large last d ≡ b → IsCommandPrefix last d part
    → Leads (at_place (d ∷ ds) last []) part (at_place (d ∷ ds) last part)
begun_if true d ds last part large begun =
    subst (λ l. Leads (at_place (d ∷ ds) last []) l (at_place (d ∷ ds) last l)) (sym (begun.fits large)) (leads_nowhere (at_place (d ∷ ds) last []))
begun_if false d ds last part fits begun =
    begun_list d ds last [] part fits (asked_by (command_call last d) [] part begun.asked) begun.unfinished

begun_leads : (left : List Command) (last : ℕ) (part : List CompletedCall) → IsProgramPrefix last left part → Leads (at_place left last []) part (at_place left last part)
begun_leads [] last part none =
    subst (λ l. Leads (at_place [] last []) l (at_place [] last l)) (sym none) (leads_nowhere (at_place [] last []))
begun_leads (d ∷ ds) last part begun = begun_if (has_large last d) d ds last part refl begun

some_call : (last : ℕ) (d : Command) (b : List CompletedCall) → IsSome (command_call last d []) → command_call last d b ≡ None → 0 < length b
some_call last d [] some none = (let no : false ≡ true = ap is_some (sym none) ∙ some in cc)
some_call last d (c ∷ b) some none = omega arith

lists_lead : (done left : List Command) (lists : List (List CompletedCall)) (last : ℕ) (part : List CompletedCall) → AllByRecursion Asks done → AreWhole last done lists
    → IsProgramPrefix (last_number last (flat_map (λ b. b) lists)) left part
    → Leads (at_place (done ++ left) last []) (flat_map (λ b. b) lists ++ part) (at_place left (last_number last (flat_map (λ b. b) lists)) part)
lists_lead [] left [] last part asks whole begun = begun_leads left last part begun
lists_lead [] left (b ∷ lists) last part asks whole begun = absurd whole
lists_lead (d ∷ ds) left [] last part asks whole begun = absurd whole
lists_lead (d ∷ ds) left (b ∷ lists) last part asks whole begun =
    let first = whole.0 in
    let all = flat_map (λ c. c) lists in
    let number : last_number last (b ++ all) ≡ last_number (last_number last b) all = last_append last b all in
    let here = whole_list d (ds ++ left) last [] b first.fits (asked_by (command_call last d) [] b first.asked) first.whole (some_call last d b (asks.0 last) first.whole) in
    let rest = lists_lead ds left lists (last_number last b) part asks.1 whole.1 (subst (λ n. IsProgramPrefix n left part) number begun) in
    let q = at_place (ds ++ left) (last_number last b) [] in
    let joined = leads_on (at_place (d ∷ (ds ++ left)) last []) q (at_place left (last_number (last_number last b) all) part) b (all ++ part) here rest in
    subst (λ n. Leads (at_place (d ∷ (ds ++ left)) last []) ((b ++ all) ++ part) (at_place left n part)) (sym number)
    (subst (λ l. Leads (at_place (d ∷ (ds ++ left)) last []) l (at_place left (last_number (last_number last b) all) part)) (sym (append_assoc b all part)) joined)

-- STEPS

go_is : (act : Act) → is_go act ≡ true → act ≡ acts.Go
go_is acts.Go is = refl
go_is (acts.Advance e) is = cc
go_is (acts.Read e) is = cc
go_is (acts.Await e v) is = cc
go_is (acts.Ticket q) is = cc
go_is (acts.Put x v) is = cc
go_is (acts.Get x) is = cc
go_is (acts.Hand e b) is = cc

due_of : (due o : Option Act) (act : Act) → is_go act ≡ is_some o → due ≡ Some (begun_by act o) → next_of (is_some o) due ≡ Some act
due_of due None act go is = is ∙ ap (λ a. Some a) (begun_alone act)
due_of due (Some op) act go is = ap (λ a. Some a) (sym (go_is act go))

under_of : (due o : Option Act) (act op : Act) → is_go act ≡ is_some o → due ≡ Some (begun_by act o) → o ≡ Some op → due ≡ Some op
under_of due None act op go is under = cc
under_of due (Some f) act op go is under =
    (let same : f ≡ op = cc in is ∙ ap (λ a. Some (begun_by a (Some f))) (go_is act go) ∙ ap (λ a. Some a) same)

-- what the calls after one more step say of those before it
before_if : (b : Bool) (list : List CompletedCall → Option Act) (done : List CompletedCall) (c : CompletedCall) → IsWritten list (if b then done else done ++ c ∷ [])
    → ((op : Act) → (if b then Some c.op else None) ≡ Some op → list (if b then done else done ++ c ∷ []) ≡ Some op)
    → IsWritten list done × (list done ≡ Some c.op)
before_if true list done c w under = (w, under c.op refl)
before_if false list done c w under = (written_front list done c w, written_at list done c [] w)

run_of : (list : List CompletedCall → Option Act) (past : List Entry) → AreSteps past → IsWritten list (completed_calls past)
    → ((op : Act) → opening past ≡ Some op → list (completed_calls past) ≡ Some op)
    → IsRun list past
unfolding IsRun AreSteps completed_calls opening
run_of list [] steps w under = tt
run_of list (x ∷ past) steps w under =
    let b = before_if (is_pending x.reply) list (completed_calls past) (record { op = begun_by x.act (opening past); reply = x.reply }) w under in (
      due_of (list (completed_calls past)) (opening past) x.act steps.0 b.1,
      run_of list past steps.1 b.0 (λ op is. under_of (list (completed_calls past)) (opening past) x.act op steps.0 b.1 is),
    )

-- BOTH DIRECTIONS

for_some : (o : Option Act) (P : Act → Type 0) → ((x : Act) → o ≡ Some x → P x) → IfSome o P
for_some None P each = tt
for_some (Some x) P each = each x refl

of_some : (o : Option Act) (P : Act → Type 0) (x : Act) → o ≡ Some x → IfSome o P → P x
of_some o P x is each = subst (λ p. IfSome p P) is each

lists_of : (cs : List Command) (past : List Entry) → IsRunOf cs past → AreListsOf cs (completed_calls past) (opening past)
lists_of cs past run =
    let a = calls_of cs (completed_calls past) (finished_written (program_call cs) past run) in
    record {
      done = a.done;
      left = a.left;
      lists = a.lists;
      last = a.last;
      commands = a.commands;
      order = a.order;
      whole = a.whole;
      begun = a.begun;
      next = for_some (opening past) (λ op. next_in a.left (number_after_lists a.lists) a.last
          ≡ Some op)
          (λ op is. sym a.next ∙ opening_is_due (program_call cs) past run op is);
    }

run_of_lists : (cs : List Command) (past : List Entry) → AreSteps past → AreListsOf cs (completed_calls past) (opening past) → IsRunOf cs past
run_of_lists cs past steps a =
    let q = at_place a.left (number_after_lists a.lists) a.last in
    let asks = every_front a.done a.left (subst (AllByRecursion Asks) a.commands (program_asks cs)) in
    let lead = lists_lead a.done a.left a.lists 0 a.last asks a.whole a.begun in
    let all : Leads (start cs) (completed_calls past) q =
    subst (λ ws. Leads (at_place ws 0 []) (completed_calls past) q) (sym a.commands) (subst (λ l. Leads (at_place (a.done ++ a.left) 0 []) l q) (sym a.order) lead) in
    run_of (program_call cs) past steps (asked_of (start cs) (completed_calls past) all.0)
    (λ op is. ap next_call all.1 ∙ of_some (opening past) (λ o. next_in a.left (number_after_lists a.lists) a.last ≡ Some o) op is a.next)

pub runs_mean : RunsMeanWholeLists
runs_mean cs past steps = (lists_of cs past, run_of_lists cs past steps)

-- IN A HISTORY

alike : (a b : Bool) → (a && not b) ≡ false → (not a && b) ≡ false → b ≡ a
alike true true f g = refl
alike true false f g = cc
alike false true f g = cc
alike false false f g = refl

is_some_op : (o : Option CallSoFar) → is_some (op_of o) ≡ is_some o
is_some_op None = refl
is_some_op (Some call) = refl

-- a worker's entries in an accepted history are steps
own_steps : (t : Tables) (w : ℕ) (past : List Entry) → IsAccepted t past → AreSteps (own w past)
unfolding AreSteps
own_steps t w [] acc = tt
own_steps t w (x ∷ past) acc =
    elim (x.worker == w) as (λ b. (x.worker == w) ≡ b → AreSteps (cond b (x ∷ own w past) (own w past))) [
      | true ↦ λ h.
          (let P : ℕ → Type 0 = λ v. answer_of t past v x.act ≡ Ok x.reply in
          let a = allowed t past w x.act x.reply (subst P (eqb-true x.worker w h) acc.0) in (
            alike (is_some (under_way w past)) (is_go x.act) a.0.free a.0.going ∙ sym (ap is_some (own_cut t w past acc.1).1 ∙ is_some_op (under_way w past)),
            own_steps t w past acc.1,
          ))
      | false ↦ λ h. own_steps t w past acc.1
    ] refl

pub following_means : FollowingMeansWholeLists
following_means t programs h w acc =
    let cs = program_at programs w in
    let past = reverse h in
    let steps = own_steps t w past acc in
    let cut = own_cut t w past acc in (
      λ run. subst (AreListsOf cs (completed_calls_of w past)) cut.1 (subst (λ calls. AreListsOf cs calls (opening (own w past))) cut.0 (lists_of cs (own w past) run)),
      λ a. run_of_lists cs (own w past) steps
          (subst (AreListsOf cs (completed_calls (own w past))) (sym cut.1) (subst (λ calls. AreListsOf cs calls (op_of (under_way w past))) (sym cut.0) a)),
    )
