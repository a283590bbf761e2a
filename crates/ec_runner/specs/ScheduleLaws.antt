-- What it means to play a schedule, in the order of time.
use Rattle.std.specs.Prelude.{◌≡◌, ◌≢◌, ◌↔◌, ℕ, ◌+◌, ◌<◌, List, [], ◌∷◌, length, map, reverse, take, slice_get, Option, Some, None, Result, Ok, Err}
use Rattle.ec_count.specs.Tables.{Tables}
use Rattle.ec_core.specs.declared.act.Act.{Act}
use Rattle.ec_core.specs.declared.act.Entry.{Entry}
use Rattle.ec_core.specs.declared.act.Reply.{Reply}
use Rattle.ec_core.specs.declared.act.Refusal.{Refusal}
use Rattle.ec_core.specs.Acceptance.{answer_of}
use Rattle.ec_core.specs.Counts.{past_at}
use Rattle.ec_machine.specs.declared.command.Command.{Command}
use Rattle.ec_machine.specs.declared.outcome.Outcome.{Outcome}
use Rattle.ec_machine.specs.declared.outcome.Outcome.TheVariants.{Running, Refused}
use Rattle.ec_machine.specs.Follows.{program_at, Follows}
use Rattle.ec_machine.specs.Runs.{next_act, outcome_of}
use Rattle.ec_machine.specs.Steps.{own}
use Rattle.ec_runner.specs.Schedules.{Turn, Plays, EndsBeforePlace, entries_of, outcome_after}

-- THE PLACES OF A SCHEDULE, each with a mark: the refusal at that place, or none if an entry was
-- made

-- how many of these places made an entry
abbrev pub made_entries : List (Option Refusal) → ℕ
made_entries [] = 0
made_entries (None ∷ marks) = made_entries marks + 1
made_entries (Some r ∷ marks) = made_entries marks

-- the schedule without the places that were refused
abbrev pub unrefused : List ℕ → List (Option Refusal) → List ℕ
unrefused [] marks = []
unrefused (w ∷ schedule) [] = []
unrefused (w ∷ schedule) (None ∷ marks) = w ∷ unrefused schedule marks
unrefused (w ∷ schedule) (Some r ∷ marks) = unrefused schedule marks

-- what a mark says of the answer to an act of w, if k entries had been made: it is refused so, or the act is the next entry
abbrev pub IsMarked : Option Refusal → List Entry → ℕ → ℕ → Act → Result Reply Refusal → Type 0
IsMarked None h k w act answer =
    (reply : Reply) × (answer ≡ Ok reply) × (slice_get h k ≡ Some (record { worker = w; act = act; reply = reply }))
IsMarked (Some r) h k w act answer = answer ≡ Err r

-- a place of w with this mark, if k entries had been made before: the program of w is running after
-- its entries among them, and the mark is right about the answer to the act that comes next in it
pub record IsPlace (t : Tables) (cs : List Command) (h : List Entry) (k w : ℕ) (mark : Option Refusal) : Type 0 where
  pub act : Act
  pub running : outcome_of cs (own w (past_at k h)) ≡ Running
  pub due : next_act cs (own w (past_at k h)) ≡ Some act
  pub answer : IsMarked mark h k w act (answer_of t (past_at k h) w act)

-- a place of w was refused with r
abbrev pub IsRefusedWith : List ℕ → List (Option Refusal) → ℕ → Refusal → Type 0
IsRefusedWith schedule marks w r = (i : ℕ) × (slice_get schedule i ≡ Some w) × (slice_get marks i ≡ Some (Some r))

-- A HISTORY OF A SCHEDULE. Its workers are those of the schedule without the places that were refused; the entries of each are a run of
-- its program; each place is as its mark says, and a worker that was refused has no place after it; and this is how the programs ended
pub record IsHistoryOf (t : Tables) (programs : List (List Command)) (schedule : List ℕ) (h : List Entry) (outcome : ℕ → Outcome) : Type 0 where
  pub marks : List (Option Refusal)
  pub each : length marks ≡ length schedule
  pub workers : map (λ (x : Entry). x.worker) h ≡ unrefused schedule marks
  pub parts : (w : ℕ) → Follows programs h w
  pub places : (i w : ℕ) (mark : Option Refusal) → slice_get schedule i ≡ Some w → slice_get marks i ≡ Some mark
      → IsPlace t (program_at programs w) h (made_entries (take i marks)) w mark
  pub last : (i j w : ℕ) (r : Refusal) → slice_get schedule i ≡ Some w → slice_get marks i ≡ Some (Some r) → slice_get schedule j ≡ Some w → i < j → ⊥
  pub refused : (w : ℕ) (r : Refusal) → IsRefusedWith schedule marks w r → outcome w ≡ Refused r
  pub others : (w : ℕ) → ((r : Refusal) → IsRefusedWith schedule marks w r → ⊥) → outcome w ≡ outcome_of (program_at programs w) (own w (reverse h))

-- turns of a schedule make such a history
abbrev pub SchedulesArePlayedInOrder : Type 0
SchedulesArePlayedInOrder = (t : Tables) (programs : List (List Command)) (schedule : List ℕ) (turns : List Turn) (h : List Entry)
    → Plays t programs schedule turns → reverse h ≡ entries_of turns → IsHistoryOf t programs schedule h (λ w. outcome_after programs w turns)

-- a schedule is played in at most one way
abbrev pub SchedulesHaveOneRun : Type 0
SchedulesHaveOneRun = (t : Tables) (programs : List (List Command)) (schedule : List ℕ) (turns others : List Turn)
    → Plays t programs schedule turns → Plays t programs schedule others → turns ≡ others

-- if it names a worker that has ended, in none
abbrev pub EndedIsNotPlayed : Type 0
EndedIsNotPlayed = (t : Tables) (programs : List (List Command)) (schedule : List ℕ) (place w : ℕ) (turns : List Turn)
    → EndsBeforePlace t programs schedule place w → Plays t programs schedule turns → ⊥

-- HISTORIES AND TURNS

-- turns of the schedule made this history, and the programs ended so after them
pub record IsMadeByTurns (t : Tables) (programs : List (List Command)) (schedule : List ℕ) (h : List Entry) (outcome : ℕ → Outcome) : Type 0 where
  pub turns : List Turn
  pub plays : Plays t programs schedule turns
  pub entries : reverse h ≡ entries_of turns
  pub after : (w : ℕ) → outcome w ≡ outcome_after programs w turns

-- a schedule has no other histories than those that turns make
abbrev pub HistoriesAreOfTurns : Type 0
HistoriesAreOfTurns = (t : Tables) (programs : List (List Command)) (schedule : List ℕ) (h : List Entry) (outcome : ℕ → Outcome)
    → IsHistoryOf t programs schedule h outcome → IsMadeByTurns t programs schedule h outcome

-- so a schedule has at most one history, and its programs end in one way
abbrev pub SchedulesHaveOneHistory : Type 0
SchedulesHaveOneHistory = (t : Tables) (programs : List (List Command)) (schedule : List ℕ) (h others : List Entry) (outcome ends : ℕ → Outcome)
    → IsHistoryOf t programs schedule h outcome → IsHistoryOf t programs schedule others ends → (h ≡ others) × ((w : ℕ) → outcome w ≡ ends w)

-- and if it names a worker that has ended, it has none
abbrev pub EndedHasNoHistory : Type 0
EndedHasNoHistory = (t : Tables) (programs : List (List Command)) (schedule : List ℕ) (place w : ℕ) (h : List Entry) (outcome : ℕ → Outcome)
    → EndsBeforePlace t programs schedule place w → IsHistoryOf t programs schedule h outcome → ⊥

-- the places before this one have a history after which the worker that the schedule names there isn't running
pub record HasEndedAfter (t : Tables) (programs : List (List Command)) (schedule : List ℕ) (place w : ℕ) : Type 0 where
  pub history : List Entry
  pub outcome : ℕ → Outcome
  pub before : IsHistoryOf t programs (take place schedule) history outcome
  pub named : slice_get schedule place ≡ Some w
  pub ended : outcome w ≢ Running

-- that is what it means that a place names a worker that has ended
abbrev pub EndedIsAfterAHistory : Type 0
EndedIsAfterAHistory = (t : Tables) (programs : List (List Command)) (schedule : List ℕ) (place w : ℕ)
    → EndsBeforePlace t programs schedule place w ↔ HasEndedAfter t programs schedule place w
