-- The states of the workers at the end of a schedule: who has not ended, and what it waits for.
use Rattle.std.specs.Prelude.{ℕ, ◌+◌, ◌==◌, ◌&&◌, nat_lt, not, Bool, true, false, List, []}
use Rattle.std.specs.Prelude.{◌∷◌, ◌++◌, reverse, codes, decimal, Option, Some, None, if◌then◌else◌}
use Rattle.std.specs.Option.{option_and_then}
use Rattle.std.specs.List.{list_any}
use Rattle.ec_count.specs.Tables.{Tables}
use Rattle.ec_count.specs.declared.target.Target.TheVariants.{Worker, Event}
use Rattle.ec_core.specs.declared.act.Act.{Act}
use Rattle.ec_core.specs.declared.act.Act.TheVariants.{Await}
use Rattle.ec_core.specs.declared.act.Entry.{Entry}
use Rattle.ec_core.specs.Calls.{CallSoFar, under_way}
use Rattle.ec_core.specs.RunModel.{RunModel}
use Rattle.ec_core.specs.Refusals.{refusal_name}
use Rattle.ec_heading.specs.Spelling.{NameTable, target_name}
use Rattle.ec_machine.specs.declared.outcome.Outcome.{Outcome}
use Rattle.ec_machine.specs.declared.outcome.Outcome.TheVariants as outcomes
use Rattle.ec_explain.specs.Rounds.{total_of}
use Rattle.evc_explain_engine.specs.declared.worker_ends.PendingAwait.{PendingAwait}
use Rattle.evc_explain_engine.specs.declared.worker_ends.End.{End}
use Rattle.evc_explain_engine.specs.declared.worker_ends.End.TheVariants as ends

-- WHAT A WORKER WAITS FOR

abbrev pub await_of_act : Act → Option PendingAwait
await_of_act (Await e v) = Some (record { event = e; threshold = v })
await_of_act _ = None

abbrev pub await_of_call : CallSoFar → Option PendingAwait
await_of_call call = await_of_act call.op

-- the pending await of w after a reversed history
abbrev pub pending_await : ℕ → List Entry → Option PendingAwait
pending_await w past = option_and_then await_of_call (under_way w past)

-- the state of a worker with this pending await, if this is the count
abbrev pub awaiting_end : PendingAwait → ℕ → End
awaiting_end a n = if nat_lt n a.threshold then ends.Waits a n else ends.Reached a

-- the state of a worker that has not ended, and has a turn or not
abbrev pub running_end : Tables → List Entry → Bool → Option PendingAwait → End
running_end t past true None = ends.Late
running_end t past false None = ends.Still
running_end t past moved (Some a) = awaiting_end a (total_of t a.event past)

abbrev pub has_turn : List ℕ → ℕ → Bool
has_turn schedule w = list_any (λ v. v == w) schedule

-- the state of a worker after a reversed history, by the outcome of its program
abbrev pub end_of : Tables → List Entry → List ℕ → ℕ → Outcome → End
end_of t past schedule w outcomes.Running =
    running_end t past (has_turn schedule w) (pending_await w past)
end_of t past schedule w (outcomes.Refused r) = ends.Refused r
end_of t past schedule w outcomes.ValueTooLarge = ends.TooLarge
end_of t past schedule w _ = ends.Over

-- the states of the workers from w on
abbrev pub ends_from : Tables → List Entry → List ℕ → ℕ → List Outcome → List End
ends_from t past schedule w [] = []
ends_from t past schedule w (o ∷ os) =
    end_of t past schedule w o ∷ ends_from t past schedule (w + 1) os

-- IN WORDS

-- the state of worker w
unfoldable pub end_text : NameTable → ℕ → End → List ℕ
end_text names w (ends.Waits a n) =
    target_name names (Worker w) ++ codes " waits for " ++ target_name names (Event a.event)
    ++ (codes " to reach " ++ decimal a.threshold ++ codes "; ")
    ++ target_name names (Event a.event) ++ (codes " is " ++ decimal n ++ codes ".\n")
end_text names w (ends.Reached a) =
    target_name names (Worker w) ++ codes " has not read yet that "
    ++ target_name names (Event a.event)
    ++ (codes " has reached " ++ decimal a.threshold ++ codes ".\n")
end_text names w ends.Still =
    target_name names (Worker w) ++ codes " never moves: the schedule has no turn of it.\n"
end_text names w ends.Late =
    target_name names (Worker w) ++ codes " has not ended: the schedule ends too early for it.\n"
end_text names w (ends.Refused r) =
    target_name names (Worker w) ++ codes " has ended: its last act is refused by "
    ++ refusal_name r
    ++ codes ".\n"
end_text names w ends.TooLarge =
    target_name names (Worker w) ++ codes " has ended: its next value is too large.\n"
end_text names w ends.Over = []

-- and those from worker w on
abbrev pub end_lines : NameTable → ℕ → List End → List ℕ
end_lines names w [] = []
end_lines names w (e ∷ es) = end_text names w e ++ end_lines names (w + 1) es

abbrev pub is_waiting : End → Bool
is_waiting (ends.Waits a n) = true
is_waiting _ = false

-- whether a worker can go on
abbrev pub can_continue : End → Bool
can_continue (ends.Reached a) = true
can_continue ends.Still = true
can_continue ends.Late = true
can_continue _ = false

-- whether some wait, and none can go on
abbrev pub is_deadlock : List End → Bool
is_deadlock es = list_any is_waiting es && not (list_any can_continue es)

abbrev pub deadlock_text : List End → List ℕ
deadlock_text es =
    if is_deadlock es then codes "No worker can go on: all that have not ended wait.\n" else []

unfoldable pub ends_text : NameTable → List End → List ℕ
ends_text names es = end_lines names 0 es ++ deadlock_text es

-- the states of the workers after a run of a schedule, by the outcomes of their programs
abbrev pub run_ends_text : NameTable → RunModel → List ℕ → List Outcome → List ℕ
run_ends_text names run schedule outcomes =
    ends_text names (ends_from run.setup (reverse run.entries) schedule 0 outcomes)

-- A TURN OF A WORKER THAT HAS ENDED

unfoldable pub turn_text : NameTable → ℕ → ℕ → List ℕ
turn_text names place w =
    (codes "At place " ++ decimal place ++ codes " of the schedule, counted from 0, it names ")
    ++ target_name names (Worker w) ++ codes ".\n"
