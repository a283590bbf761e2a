-- Runs of a program. Its repeats are unrolled; each command represents a list of calls, whose
-- values are computed when the first of them is due; and the lists follow one another.
use Rattle.std.specs.Prelude.{ℕ, List, [], ◌∷◌, ◌++◌, Option, Some, None, is_some, if◌then◌else◌}
use Rattle.ec_core.specs.declared.act.Act.{Act}
use Rattle.ec_core.specs.declared.act.Act.TheVariants as acts
use Rattle.ec_core.specs.declared.act.Reply.{Reply}
use Rattle.ec_core.specs.declared.act.Reply.TheVariants.{Number}
use Rattle.ec_core.specs.declared.act.Entry.{Entry}
use Rattle.ec_core.specs.Following.{CompletedCall}
use Rattle.ec_buffer.specs.CallLists.{produce_call, consume_call}
use Rattle.ec_database.specs.Calls.{write_call}
use Rattle.ec_database.specs.Snapshots.{snapshot_call}
use Rattle.ec_semaphore.specs.Uses.{down_call, up_call}
use Rattle.ec_semaphore.specs.Both.{down_both_call}
use Rattle.ec_machine.specs.declared.command.Command.{Command, Advance, Read, Await, Ticket, Put, Get, Hand, Produce, Consume, WriteAll, Snapshot, Down, Up, DownBoth, Repeat'}
use Rattle.ec_machine.specs.declared.outcome.Outcome.{Outcome}
use Rattle.ec_machine.specs.declared.outcome.Outcome.TheVariants as outcomes
use Rattle.ec_machine.specs.Unrolled.{unroll}
use Rattle.ec_machine.specs.Values.{eval, values_of, has_large}
use Rattle.ec_machine.specs.Steps.{completed_calls, due_after, IsRun}

-- the number that was returned last: that of this reply, or `last` if it has none
abbrev pub number_after : ℕ → Reply → ℕ
number_after last (Number n) = n
number_after last _ = last

-- the number that was returned last, by these completed calls, or before them
abbrev pub last_number : ℕ → List CompletedCall → ℕ
last_number last [] = last
last_number last (c ∷ calls) = last_number (number_after last c.reply) calls

-- the list of one call
abbrev pub one_call : Act → List CompletedCall → Option Act
one_call act [] = Some act
one_call act (c ∷ calls) = None

-- the call that comes after these completed calls of a command, or none
abbrev pub command_call : ℕ → Command → List CompletedCall → Option Act
command_call last (Advance e) = one_call (acts.Advance e)
command_call last (Read e) = one_call (acts.Read e)
command_call last (Await e v) = one_call (acts.Await e (eval last v))
command_call last (Ticket q) = one_call (acts.Ticket q)
command_call last (Put x v) = one_call (acts.Put x (eval last v))
command_call last (Get x) = one_call (acts.Get x)
command_call last (Hand e b) = one_call (acts.Hand e b)
command_call last (Produce b v) = produce_call b (eval last v)
command_call last (Consume b) = consume_call b
command_call last (WriteAll d vs) = write_call d (values_of last vs.items)
command_call last (Snapshot d tries) = snapshot_call d tries
command_call last (Down s) = down_call s
command_call last (Up s) = up_call s
command_call last (DownBoth common one other) = down_both_call common one other
command_call last (Repeat' n shape block) = λ calls. None

-- a state of a program: the commands that are not done, the last number returned before the first
-- of them, and the completed calls of that one
pub record ProgramState : Type 0 where
  pub left : List Command
  pub last : ℕ
  pub completed : List CompletedCall

abbrev pub start : List Command → ProgramState
start cs = record { left = unroll cs; last = 0; completed = [] }

abbrev pub next_in : List Command → ℕ → List CompletedCall → Option Act
next_in [] last completed = None
next_in (c ∷ cs) last completed = if has_large last c then None else command_call last c completed

-- the call that comes next in a state, or none: all is done, or the command that is due has a value
-- above VALUE_MAX
abbrev pub next_call : ProgramState → Option Act
next_call p = next_in p.left p.last p.completed

-- if the first command has no call after these, the next command is due
abbrev pub next_state : List Command → ℕ → List CompletedCall → ProgramState
next_state [] last completed = record { left = []; last = last; completed = completed }
next_state (c ∷ cs) last completed =
    if is_some (command_call last c completed)
    then record { left = c ∷ cs; last = last; completed = completed }
    else record { left = cs; last = last_number last completed; completed = [] }

-- the state after one more completed call
abbrev pub after_call : ProgramState → CompletedCall → ProgramState
after_call p c = next_state p.left p.last (p.completed ++ c ∷ [])

unfoldable pub state_after : ProgramState → List CompletedCall → ProgramState
state_after p [] = p
state_after p (c ∷ calls) = state_after (after_call p c) calls

-- the written list of a program: the call that comes after these completed calls, or none
abbrev pub program_call : List Command → List CompletedCall → Option Act
program_call cs calls = next_call (state_after (start cs) calls)

-- the steps are a run of the program, perhaps incomplete
abbrev pub IsRunOf : List Command → List Entry → Type 0
IsRunOf cs past = IsRun (program_call cs) past

-- the act that is due after them
abbrev pub next_act : List Command → List Entry → Option Act
next_act cs past = due_after (program_call cs) past

abbrev pub outcome_in : List Command → ℕ → Outcome
outcome_in [] last = outcomes.Finished
outcome_in (c ∷ cs) last = if has_large last c then outcomes.ValueTooLarge else outcomes.Running

abbrev pub outcome_at : ProgramState → Outcome
outcome_at p = outcome_in p.left p.last

-- how the program has ended after a run of it, if it has
abbrev pub outcome_of : List Command → List Entry → Outcome
outcome_of cs past = outcome_at (state_after (start cs) (completed_calls past))
