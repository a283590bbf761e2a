-- Which histories of calls have no trace of steps, and what a note says of it.
use Rattle.std.specs.Prelude.{◌≡◌, ℕ, ◌+◌, ◌-◌, ◌^◌, ◌<◌, min, Bool, false, nat_le, List, [], ◌++◌, length}
use Rattle.std.specs.Prelude.{Option, Some, None, position, codes, decimal}
use Rattle.ec_count.specs.declared.target.Target.TheVariants.{Event}
use Rattle.ec_heading.specs.HeadingModel.{HeadingModel}
use Rattle.ec_heading.specs.Spelling.{target_name}
use Rattle.calls_core.specs.declared.history.Action.{Action}
use Rattle.calls_core.specs.declared.history.Action.TheVariants.{Invoke, Respond}
use Rattle.calls_core.specs.declared.history.Event as events
use Rattle.calls_text.specs.Recordings.{RecordingModel, start_count, semaphores}
use Rattle.calls_replay.specs.declared.obstacle.Obstacle.{Obstacle}
use Rattle.calls_replay.specs.declared.obstacle.Obstacle.TheVariants.{Begun, OfGroup, Second}

abbrev pub is_group_action : HeadingModel → Action → Bool
is_group_action h (Invoke k op) = nat_le (semaphores h) k
is_group_action h (Respond reply) = false

-- the position of the first call of a semaphore, a database or a buffer: their indices come last
abbrev pub first_of_group : RecordingModel → Option ℕ
first_of_group r = position (λ (e : events.Event). is_group_action r.heading e.action) r.events

abbrev pub HasZeros : RecordingModel → Type 0
HasZeros r = (e : ℕ) → e < length r.heading.setup.events → start_count r.from e ≡ 0

-- each call of the only history is on an eventcount that is 0 at the beginning, a sequencer or a
-- cell; n is the number of the line after its `end`, and rest the text from there on
pub record IsPlain (r : RecordingModel) (rest : List ℕ) : Type 0 where
  pub only : rest ≡ []
  pub zeros : HasZeros r
  pub plain : first_of_group r ≡ None

-- the first eventcount whose initial count is not 0
pub record IsFirstBegun (r : RecordingModel) (e : ℕ) : Type 0 where
  pub declared : e < length r.heading.setup.events
  pub begun : start_count r.from e ≡ 0 → ⊥
  pub first : (f : ℕ) → f < e → start_count r.from f ≡ 0

-- why a history has no trace: the first of these that holds
abbrev pub IsObstacle : RecordingModel → ℕ → List ℕ → Obstacle → Type 0
IsObstacle r n rest (Second line) = (rest ≡ [] → ⊥) × (line ≡ n)
IsObstacle r n rest (Begun e) = (rest ≡ []) × IsFirstBegun r e
IsObstacle r n rest (OfGroup i) = (rest ≡ []) × HasZeros r × (first_of_group r ≡ Some i)

-- THE NOTE

-- the number of the line of the event at a position, at most 2 ^ 64 - 1
abbrev pub line_of : RecordingModel → ℕ → ℕ → ℕ
line_of r n i = min (n - 1 - length r.events + i) (2 ^ 64 - 1)

abbrev pub obstacle_note : RecordingModel → ℕ → Obstacle → List ℕ
obstacle_note r n (Begun e) =
    codes "no trace: the count of " ++ target_name r.heading.words (Event e)
    ++ codes " is not 0 at the beginning\n"
obstacle_note r n (OfGroup i) =
    codes "line " ++ decimal (line_of r n i)
    ++ codes ": no trace: the call is of a semaphore, a database or a buffer\n"
obstacle_note r n (Second line) =
    codes "line " ++ decimal line ++ codes ": no trace: another history follows\n"
