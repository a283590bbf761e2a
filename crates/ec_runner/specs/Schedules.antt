-- Runs of a schedule: at each place its worker has a turn, in which it makes the step that its
-- program asks for next.
use Rattle.std.specs.Prelude.{◌≡◌, ◌≢◌, ℕ, ◌==◌, List, [], ◌∷◌, take, map, reverse, slice_get, Option, Some, None, Result, Ok, Err, if◌then◌else◌}
use Rattle.ec_count.specs.Tables.{Tables}
use Rattle.ec_core.specs.declared.act.Act.{Act}
use Rattle.ec_core.specs.declared.act.Entry.{Entry}
use Rattle.ec_core.specs.declared.act.Reply.{Reply}
use Rattle.ec_core.specs.declared.act.Refusal.{Refusal}
use Rattle.ec_core.specs.Acceptance.{answer_of}
use Rattle.ec_machine.specs.declared.command.Command.{Command}
use Rattle.ec_machine.specs.declared.outcome.Outcome.{Outcome}
use Rattle.ec_machine.specs.declared.outcome.Outcome.TheVariants.{Running, Refused}
use Rattle.ec_machine.specs.Follows.{program_at}
use Rattle.ec_machine.specs.Runs.{next_act, outcome_of}
use Rattle.ec_machine.specs.Steps.{own}

-- a turn of a worker: the act that it asked for, and the answer
pub record Turn : Type 0 where
  pub worker : ℕ
  pub act : Act
  pub answer : Result Reply Refusal

-- the history so far with the entry of a turn; a turn that was refused made none
abbrev pub with_answer : ℕ → Act → Result Reply Refusal → List Entry → List Entry
with_answer w act (Ok reply) past = record { worker = w; act = act; reply = reply } ∷ past
with_answer w act (Err r) past = past

-- the entries that turns made; both lists have the newest first
abbrev pub entries_of : List Turn → List Entry
entries_of [] = []
entries_of (x ∷ turns) = with_answer x.worker x.act x.answer (entries_of turns)

abbrev pub refusal_or : Result Reply Refusal → Option Refusal → Option Refusal
refusal_or (Ok reply) other = other
refusal_or (Err r) other = Some r

-- the refusal of w in these turns, if it was refused
abbrev pub refusal_in_turns : ℕ → List Turn → Option Refusal
refusal_in_turns w [] = None
refusal_in_turns w (x ∷ turns) = if x.worker == w then refusal_or x.answer (refusal_in_turns w turns) else refusal_in_turns w turns

abbrev pub ended_by : Option Refusal → Outcome → Outcome
ended_by None outcome = outcome
ended_by (Some r) outcome = Refused r

-- how the program of w has ended after these turns, if it has: by a refusal, or as its entries say
abbrev pub outcome_after : List (List Command) → ℕ → List Turn → Outcome
outcome_after programs w turns = ended_by (refusal_in_turns w turns) (outcome_of (program_at programs w) (own w (entries_of turns)))

-- a turn may come after these: its worker's program is running, its act is the one that the program asks for next, and the
-- answer is the one to that act at that moment
pub record IsTurn (t : Tables) (programs : List (List Command)) (turns : List Turn) (x : Turn) : Type 0 where
  pub running : outcome_after programs x.worker turns ≡ Running
  pub due : next_act (program_at programs x.worker) (own x.worker (entries_of turns)) ≡ Some x.act
  pub answer : answer_of t (entries_of turns) x.worker x.act ≡ x.answer

-- each may come after those before it: the newest is the first
abbrev pub AreTurns : Tables → List (List Command) → List Turn → Type 0
AreTurns t programs [] = Unit {0}
AreTurns t programs (x ∷ turns) = IsTurn t programs turns x × AreTurns t programs turns

-- the turns, the newest first, are those of a schedule: one at each of its places, of the worker
-- that is named there
pub record Plays (t : Tables) (programs : List (List Command)) (schedule : List ℕ) (turns : List Turn) : Type 0 where
  pub workers : map (λ (x : Turn). x.worker) turns ≡ reverse schedule
  pub each : AreTurns t programs turns

-- the worker that the schedule names at this place, counted from 0, has ended after the turns at the places before it
pub record EndsBeforePlace (t : Tables) (programs : List (List Command)) (schedule : List ℕ) (place w : ℕ) : Type 0 where
  pub turns : List Turn
  pub plays : Plays t programs (take place schedule) turns
  pub named : slice_get schedule place ≡ Some w
  pub ended : outcome_after programs w turns ≢ Running
