-- The calls of a run are whole lists of its commands, and a prefix of one more.
use Rattle.std.proofs.Common.{◌≡◌, ℕ, suc, Bool, true, false, List, [], ◌∷◌, ◌++◌, take, slice_get, Option, Some, None, is_some, if◌then◌else◌, refl, sym, ◌∙◌, ap, subst, append_assoc, append-nil, inl, inr}
use Rattle.std.specs.List.{flat_map}
use Rattle.ec_core.specs.declared.act.Act.{Act}
use Rattle.ec_core.specs.declared.act.Entry.{Entry}
use Rattle.ec_core.specs.Calls.{is_pending}
use Rattle.ec_core.specs.Following.{CompletedCall}
use Rattle.ec_core.specs.Procedures.{IsWritten}
use Rattle.ec_core.proofs.shared.WrittenLists.{written_more}
use Rattle.ec_machine.specs.declared.command.Command.{Command}
use Rattle.ec_machine.specs.Unrolled.{unroll}
use Rattle.ec_machine.specs.Values.{has_large}
use Rattle.ec_machine.specs.Steps.{begun_by, opening, completed_calls, IsRun}
use Rattle.ec_machine.specs.Runs.{ProgramState, command_call, next_call, number_after, last_number, after_call, state_after, program_call, outcome_at}
use Rattle.ec_machine.specs.Laws.{AreWhole, IsProgramPrefix, AreCallsOf, RunsAreOfWholeLists}
use Rattle.ec_machine.proofs.Going.{begun_is_due, opening_is_due}

-- WRITTEN LISTS

pub written_none : (list : List CompletedCall → Option Act) → IsWritten list []
written_none list k c at = cc

written_if : (b : Bool) (list : List CompletedCall → Option Act) (done : List CompletedCall) (c : CompletedCall) → IsWritten list done → list done ≡ Some c.op
    → IsWritten list (if b then done else done ++ c ∷ [])
written_if true list done c asked due = asked
written_if false list done c asked due = written_more list done c asked due

-- the completed calls of a run are a prefix of its list
pub finished_written : (list : List CompletedCall → Option Act) (past : List Entry) → IsRun list past → IsWritten list (completed_calls past)
unfolding IsRun completed_calls
finished_written list [] run = written_none list
finished_written list (x ∷ past) run =
    written_if (is_pending x.reply) list (completed_calls past) (record { op = begun_by x.act (opening past); reply = x.reply })
    (finished_written list past run.1) (begun_is_due list past x.act run.1 run.0)

-- THE CALLS FROM A STATE ON

pub last_append : (last : ℕ) (xs ys : List CompletedCall) → last_number last (xs ++ ys) ≡ last_number (last_number last xs) ys
last_append last [] ys = refl
last_append last (x ∷ xs) ys = last_append (number_after last x.reply) xs ys

pub record IsSplit (left : List Command) (last : ℕ) (completed calls : List CompletedCall) : Type 0 where
  pub done : List Command
  pub rest : List Command
  pub lists : List (List CompletedCall)
  pub part : List CompletedCall
  pub commands : left ≡ done ++ rest
  pub order : completed ++ calls ≡ flat_map (λ b. b) lists ++ part
  pub whole : AreWhole last done lists
  pub begun : IsProgramPrefix (last_number last (flat_map (λ b. b) lists)) rest part
  pub place : state_after (record { left = left; last = last; completed = completed }) calls ≡ record { left = rest; last = last_number last (flat_map (λ b. b) lists); completed = part }

-- each call is the one that is next after those before it
abbrev pub IsAsked : ProgramState → List CompletedCall → Type 0
IsAsked p calls = (k : ℕ) (c : CompletedCall) → slice_get calls k ≡ Some c → next_call (state_after p (take k calls)) ≡ Some c.op

begun_first : (last : ℕ) (left : List Command) → IsProgramPrefix last left []
begun_first last [] = refl
begun_first last (d ∷ ds) = record { asked = written_none (command_call last d); fits = λ large. refl; unfinished = inl refl }

pub fits_of : (b : Bool) (o : Option Act) (act : Act) → (if b then None else o) ≡ Some act → (b ≡ false) × (o ≡ Some act)
fits_of true o act is = cc
fits_of false o act is = (refl, is)

none_is : (o : Option Act) → is_some o ≡ false → o ≡ None
none_is None is = refl
none_is (Some act) is = cc

asked_after : (p q : ProgramState) (c : CompletedCall) (calls : List CompletedCall) → after_call p c ≡ q → IsAsked p (c ∷ calls) → IsAsked q calls
unfolding state_after
asked_after p q c calls is asked k d at = ap (λ r. next_call (state_after r (take k calls))) (sym is) ∙ asked (suc k) d at

pub place_next : (p q : ProgramState) (c : CompletedCall) (calls : List CompletedCall) → after_call p c ≡ q → state_after p (c ∷ calls) ≡ state_after q calls
unfolding state_after
place_next p q c calls is = ap (λ r. state_after r calls) is

-- one more call of the first command
split_if : (b : Bool) (d : Command) (ds : List Command) (last : ℕ) (completed : List CompletedCall) (c : CompletedCall) (calls : List CompletedCall)
    → is_some (command_call last d (completed ++ c ∷ [])) ≡ b → (has_large last d ≡ false) × (command_call last d completed ≡ Some c.op)
    → IsWritten (command_call last d) completed → IsAsked (record { left = d ∷ ds; last = last; completed = completed }) (c ∷ calls)
    → ((left : List Command) (n : ℕ) (part : List CompletedCall) → IsProgramPrefix n left part → IsAsked (record { left = left; last = n; completed = part }) calls → IsSplit left n part calls)
    → IsSplit (d ∷ ds) last completed (c ∷ calls)
split_if true d ds last completed c calls is due unroll asked more =
    let now = completed ++ c ∷ [] in
    let here : ProgramState = record { left = d ∷ ds; last = last; completed = completed } in
    let p : ProgramState = record { left = d ∷ ds; last = last; completed = now } in
    let e : after_call here c ≡ p = ap (λ b. if b then p else record { left = ds; last = last_number last now; completed = [] }) is in
    let s = more (d ∷ ds) last now
    (record { asked = written_more (command_call last d) completed c unroll due.1; fits = λ large. (let no : false ≡ true = sym due.0 ∙ large in cc); unfinished = inr is })
    (asked_after here p c calls e asked) in
    record {
      done = s.done;
      rest = s.rest;
      lists = s.lists;
      part = s.part;
      commands = s.commands;
      order = sym (append_assoc completed (c ∷ []) calls) ∙ s.order;
      whole = s.whole;
      begun = s.begun;
      place = place_next here p c calls e ∙ s.place;
    }
split_if false d ds last completed c calls is due unroll asked more =
    let now = completed ++ c ∷ [] in
    let n = last_number last now in
    let here : ProgramState = record { left = d ∷ ds; last = last; completed = completed } in
    let p : ProgramState = record { left = ds; last = n; completed = [] } in
    let e : after_call here c ≡ p = ap (λ b. if b then record { left = d ∷ ds; last = last; completed = now } else p) is in
    let s = more ds n [] (begun_first n ds) (asked_after here p c calls e asked) in
    let all = flat_map (λ b. b) s.lists in
    let number : last_number n all ≡ last_number last (now ++ all) = sym (last_append last now all) in
    record {
      done = d ∷ s.done;
      rest = s.rest;
      lists = now ∷ s.lists;
      part = s.part;
      commands = ap (λ cs. d ∷ cs) s.commands;
      order = sym (append_assoc completed (c ∷ []) calls) ∙ ap (λ l. now ++ l) s.order ∙ sym (append_assoc now all s.part);
      whole = (record { fits = due.0; asked = written_more (command_call last d) completed c unroll due.1; whole = none_is _ is }, s.whole);
      begun = subst (λ m. IsProgramPrefix m s.rest s.part) number s.begun;
      place = place_next here p c calls e ∙ s.place ∙ ap (λ m. record { left = s.rest; last = m; completed = s.part }) number;
    }

split : (calls : List CompletedCall) (left : List Command) (last : ℕ) (completed : List CompletedCall) → IsProgramPrefix last left completed
    → IsAsked (record { left = left; last = last; completed = completed }) calls → IsSplit left last completed calls
unfolding state_after
split [] left last completed begun asked = record {
  done = [];
  rest = left;
  lists = [];
  part = completed;
  commands = refl;
  order = append-nil completed;
  whole = tt;
  begun = begun;
  place = refl;
}
split (c ∷ calls) [] last completed begun asked = let no : None ≡ Some c.op = asked 0 c refl in cc
split (c ∷ calls) (d ∷ ds) last completed begun asked =
    split_if (is_some (command_call last d (completed ++ c ∷ []))) d ds last completed c calls refl
    (fits_of (has_large last d) (command_call last d completed) c.op (asked 0 c refl)) begun.asked asked (split calls)

-- RUNS

pub calls_of : (cs : List Command) (calls : List CompletedCall) → IsWritten (program_call cs) calls → AreCallsOf cs calls
calls_of cs calls asked =
    let s = split calls (unroll cs) 0 [] (begun_first 0 (unroll cs)) asked in
    record {
      done = s.done;
      left = s.rest;
      lists = s.lists;
      last = s.part;
      commands = s.commands;
      order = s.order;
      whole = s.whole;
      begun = s.begun;
      next = ap next_call s.place;
      ends = ap outcome_at s.place;
    }

-- the completed calls of a run are whole lists and a prefix of one more, in which its pending call
-- is next
pub runs_of_lists : RunsAreOfWholeLists
runs_of_lists cs past run = (calls_of cs (completed_calls past) (finished_written (program_call cs) past run), opening_is_due (program_call cs) past run)
